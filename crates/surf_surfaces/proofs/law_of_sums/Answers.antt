use Rattle.surf_surfaces.proofs.classes.SumLaws.{only_all_or_none_is_closed, boundaries_add, parities_add, totals_are_sums}
use Rattle.surf_surfaces.proofs.law_of_sums.Goals as goal

pub returns : goal.returns
returns c = record { closed = only_all_or_none_is_closed; boundaries = boundaries_add; walks = parities_add; totals = totals_are_sums }
