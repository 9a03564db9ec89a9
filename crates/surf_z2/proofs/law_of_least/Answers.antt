use Rattle.surf_z2.proofs.Common.{ℕ, numbers, is_nothing, Weighed}
use Rattle.surf_z2.proofs.Numbers.{Decides-is_nothing}
use Rattle.surf_z2.proofs.Least as Least
use Rattle.surf_z2.proofs.law_of_least.Goals as goal

pub returns : goal.returns
returns c = Least.least_law numbers is_nothing Decides-is_nothing (λ (c : Weighed ℕ). c.weight)
    (λ (c : Weighed ℕ). c.vector)
