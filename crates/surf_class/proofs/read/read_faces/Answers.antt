use Rattle.std.proofs.Common.{◌<◌, List, ℕ, AllPairs, sym, subst}
use Rattle.surf_class.proofs.Increasing.{numbers_increase}
use Rattle.surf_class.proofs.read.read_faces.Goals as goal

pub from_faces-requires : goal.from_faces-requires
from_faces-requires c = record {
  rises = subst (λ (xs : List ℕ). AllPairs (λ a b. a < b) xs) (sym c.in_ok-faces.ensures.faces)
      (numbers_increase _ (sym c.if-not-rise.ensures.rising));
}
