use Rattle.surf_z2.proofs.Common.{ℕ, Weighed, is_lighter}
use Rattle.surf_z2.proofs.Merge as Merge
use Rattle.surf_z2.proofs.law_of_merging.Goals as goal

pub returns : goal.returns
returns c = Merge.merge_law {C = Weighed ℕ} is_lighter Merge.is_lighter-trans Merge.is_lighter-strict
