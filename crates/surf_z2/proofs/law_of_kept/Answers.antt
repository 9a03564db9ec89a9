use Rattle.surf_z2.proofs.Common.{ℕ, Weighed, numbers, is_nothing}
use Rattle.surf_z2.proofs.Numbers.{Decides-is_nothing}
use Rattle.surf_z2.proofs.Kept as Kept
use Rattle.surf_z2.proofs.law_of_kept.Goals as goal

pub returns : goal.returns
returns c = Kept.kept_law numbers is_nothing Decides-is_nothing (λ (c : Weighed ℕ). c.vector)
