-- Boundaries, and the parities of walks, add up.
use Rattle.surf_surfaces.proofs.Common.{◌≡◌, ℕ, List, [], ◌∷◌, ◌++◌, map, refl, sym, ap, ◌∙◌, xor, Mesh, pair_of, pair_eq, ends, faces_of, last_from, parity, chains, sum_of, xor_assoc, xor_pairs, boundary, IsBoundary, total_parity}
use Rattle.surf_surfaces.proofs.meshes.CellLaws.{surfaces_are_cells}
use Rattle.surf_surfaces.specs.Laws.{OnlyAllOrNoneIsClosed, BoundariesAdd, ParitiesAdd, TotalsAreSums}

pub only_all_or_none_is_closed : OnlyAllOrNoneIsClosed
only_all_or_none_is_closed mesh surface faces closed f g a b =
    (surfaces_are_cells mesh surface).complex.dual_connected faces closed f g a b

pub boundaries_add : BoundariesAdd
boundaries_add mesh a b p q = (
  (λ f. xor (p.0 f) (q.0 f)),
  (λ e in'. ap (λ t. xor t (b e)) (p.1 e in') ∙ ap (xor (boundary mesh p.0 e)) (q.1 e in') ∙ xor_pairs
      (p.0 (faces_of mesh e).0) (p.0 (faces_of mesh e).1) (q.0 (faces_of mesh e).0) (q.0 (faces_of mesh e).1)),
)

from_parity : (mesh : Mesh) (u : ℕ) (xs ys : List ℕ) (e : ℕ) →
    parity mesh (u ∷ (xs ++ ys)) e ≡ xor (parity mesh (u ∷ xs) e) (parity mesh (last_from u xs ∷ ys) e)
from_parity mesh u [] ys e = refl
from_parity mesh u (w ∷ xs) ys e =
    ap (xor (pair_eq (ends mesh e) (pair_of (u, w)))) (from_parity mesh w xs ys e) ∙ sym
    (xor_assoc (pair_eq (ends mesh e) (pair_of (u, w))) (parity mesh (w ∷ xs) e) (parity mesh (last_from w xs ∷ ys) e))

pub parities_add : ParitiesAdd
parities_add = from_parity

pub totals_are_sums : TotalsAreSums
totals_are_sums mesh [] e = refl
totals_are_sums mesh (w ∷ ws) e = ap (xor (parity mesh w e)) (totals_are_sums mesh ws e)

pub sum_from_total : (mesh : Mesh) (walks : List (List ℕ)) → IsBoundary mesh (total_parity mesh walks) →
    IsBoundary mesh (sum_of chains (map (parity mesh) walks))
sum_from_total mesh walks (faces, is) = (faces, λ e l. sym (totals_are_sums mesh walks e) ∙ is e l)

pub total_from_sum : (mesh : Mesh) (walks : List (List ℕ)) →
    IsBoundary mesh (sum_of chains (map (parity mesh) walks)) → IsBoundary mesh (total_parity mesh walks)
total_from_sum mesh walks (faces, is) = (faces, λ e l. totals_are_sums mesh walks e ∙ is e l)
