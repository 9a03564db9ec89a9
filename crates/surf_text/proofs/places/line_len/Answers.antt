use Rattle.std.proofs.Common.{sym}
use Rattle.surf_text.specs.Text.{is_line_end}
use Rattle.surf_text.proofs.Cuts.{found_is, none_is}
use Rattle.surf_text.proofs.places.line_len.Goals as goal

pub returns-in-Some : goal.returns-in-Some
returns-in-Some c = record { len = sym (found_is is_line_end c.args.bytes.now c.in-Some.end (sym c.in-Some.ensures.place)).1 }

pub returns-in-None : goal.returns-in-None
returns-in-None c = record { len = sym (none_is is_line_end c.args.bytes.now (sym c.in-None.ensures.place)) }
