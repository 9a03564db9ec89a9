use Rattle.surf_sew.proofs.Common.{sym, is_line_end, cut_at, cut_none}
use Rattle.surf_sew.proofs.copies.split_line.Goals as goal

pub returns-in-Some : goal.returns-in-Some
returns-in-Some c = record { parts = cut_at is_line_end c.args.bytes.now c.in-Some.end (sym c.in-Some.ensures.place) }

pub returns-in-None : goal.returns-in-None
returns-in-None c = record { parts = cut_none is_line_end c.args.bytes.now (sym c.in-None.ensures.place) }
