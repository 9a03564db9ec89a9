use Rattle.surf_sew.proofs.Common.{sym, ◌==◌, found_is, none_is}
use Rattle.surf_sew.proofs.sewing.first_gap.Goals as goal

pub returns-in-Some : goal.returns-in-Some
returns-in-Some c = record { gap = sym (found_is (λ x. x == c.args.copies) c.args.first.now c.in-Some.v (sym c.in-Some.ensures.place)).1 }

pub returns-in-None : goal.returns-in-None
returns-in-None c = record { gap = sym (none_is (λ x. x == c.args.copies) c.args.first.now (sym c.in-None.ensures.place)) }
