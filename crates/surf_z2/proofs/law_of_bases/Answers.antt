use Rattle.surf_z2.specs.Space.{numbers, is_nothing}
use Rattle.surf_z2.proofs.Numbers.{Decides-is_nothing}
use Rattle.surf_z2.proofs.Greedy as Greedy
use Rattle.surf_z2.proofs.law_of_bases.Goals as goal

pub returns : goal.returns
returns c = Greedy.basis_law numbers is_nothing Decides-is_nothing
