use Rattle.std.proofs.Common.{not, sym, ◌∙◌}
use Rattle.surf_text.specs.Text.{is_blank}
use Rattle.surf_text.proofs.Cuts.{behind_at, behind_none}
use Rattle.surf_text.proofs.Words.{front_is}
use Rattle.surf_text.proofs.places.trim_front.Goals as goal

pub returns-in-Some : goal.returns-in-Some
returns-in-Some c = record { bytes = behind_at (λ b. not (is_blank b)) c.args.bytes.now c.in-Some.start (sym c.in-Some.ensures.place) ∙ front_is c.args.bytes.now }

pub returns-in-None : goal.returns-in-None
returns-in-None c = record { bytes = behind_none (λ b. not (is_blank b)) c.args.bytes.now (sym c.in-None.ensures.place) ∙ front_is c.args.bytes.now }
