use Rattle.surf_z2.proofs.Common.{ℕ, numbers, is_nothing, Weighed, is_lighter}
use Rattle.surf_z2.proofs.Numbers.{Decides-is_nothing}
use Rattle.surf_z2.proofs.Greedy as Greedy
use Rattle.surf_z2.proofs.Merge as Merge
use Rattle.surf_z2.proofs.law_of_parts.Goals as goal

pub returns : goal.returns
returns c = Greedy.parts_law numbers is_nothing Decides-is_nothing (λ (c : Weighed ℕ). c.vector) is_lighter
    Merge.is_lighter-trans
