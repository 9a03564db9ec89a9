-- Sides that no round has marked, and the pinches that they show.
use Rattle.surf_surfaces.proofs.Common.{◌≡◌, ◌≢◌, ℕ, ◌+◌, ◌<◌, ◌≤◌, ◌⊎◌, Bool, true, false, List, Option, None, Some, MatchOption, length, get_or, refl, sym, ap, subst, ◌∙◌, arith, inl, inr, true≢false, cases_eq, cases_Bool, Mesh, IsMesh, HasOneFan, side_count, owners}
use Rattle.surf_soup.specs.Vertices.{all_corners, sides_at}
use Rattle.surf_soup.specs.Reach.{marked}
use Rattle.surf_soup.specs.Ring.{BeginsAt, IsPinch, IsLeastPinch, AreMarkedFans}
use Rattle.surf_soup.specs.First.{AreFirstSides, IsFirstLeft}
use Rattle.surf_soup.specs.declared.rings.Pinch.{Pinch}
use Rattle.surf_soup.proofs.VertexLaws.{corners_len, corners_below}
use Rattle.surf_soup.proofs.CornerSides.{begins_at}
use Rattle.surf_soup.proofs.FirstLaws.{first_at}
use Rattle.surf_soup.proofs.RingMarks.{all_fans}

-- the least vertex of the first sides that aren't marked, and the least such side there; none yet where it is the bound
pub record IsLeftUpto (corners : List ℕ) (seen : List Bool) (upto none v s : ℕ) : Type 0 where
  pub low : (t : ℕ) → t < upto → marked seen t ≡ false → v ≤ get_or corners t 0
  pub is_side : v ≢ none → s < upto
  pub at : v ≢ none → get_or corners s 0 ≡ v
  pub left : v ≢ none → marked seen s ≡ false
  pub first : v ≢ none → (t : ℕ) → t < s → get_or corners t 0 ≡ v → marked seen t ≡ true

pub left_start : (corners : List ℕ) (seen : List Bool) (none : ℕ) → IsLeftUpto corners seen 0 none none 0
left_start corners seen none = record {
  low = λ t lt new. absurd (omega arith);
  is_side = λ some. absurd (some refl);
  at = λ some. absurd (some refl);
  left = λ some. absurd (some refl);
  first = λ some. absurd (some refl);
}

-- a side that is marked, or isn't lower
pub left_same : (corners : List ℕ) (seen : List Bool) (s none v least : ℕ) → IsLeftUpto corners seen s none v least →
    (marked seen s ≡ true) ⊎ (v ≤ get_or corners s 0) → IsLeftUpto corners seen (s + 1) none v least
left_same corners seen s none v least are same = record {
  low = λ t lt new. elim (cases_eq t s) [
    | inl e ↦ elim same [
      | inl old ↦ absurd (true≢false (sym old ∙ ap (marked seen) (sym e) ∙ new))
      | inr high ↦ let is = ap (λ x. get_or corners x 0) e in omega arith
    ]
    | inr ne ↦ are.low t (omega arith) new
  ];
  is_side = λ some. let below = are.is_side some in omega arith;
  at = are.at;
  left = are.left;
  first = are.first;
}

-- a side at a lower vertex
pub left_lower : (corners : List ℕ) (seen : List Bool) (s none v least : ℕ) → IsLeftUpto corners seen s none v least →
    marked seen s ≡ false → get_or corners s 0 < v → IsLeftUpto corners seen (s + 1) none (get_or corners s 0) s
left_lower corners seen s none v least are new lt = record {
  low = λ t below left. elim (cases_eq t s) [
    | inl e ↦ let is = ap (λ x. get_or corners x 0) e in omega arith
    | inr ne ↦ let high = are.low t (omega arith) left in omega arith
  ];
  is_side = λ some. omega arith;
  at = λ some. refl;
  left = λ some. new;
  first = λ some t below at. elim (cases_Bool (marked seen t)) [
    | inl is ↦ is
    | inr un ↦ let high = are.low t below un in absurd (omega arith)
  ];
}

-- none is left, or one is
pub left_none : (corners : List ℕ) (seen : List Bool) (n none s : ℕ) → IsLeftUpto corners seen n none none s →
    ((t : ℕ) → t < n → get_or corners t 0 < none) → (t : ℕ) → t < n → marked seen t ≡ true
left_none corners seen n none s are below t lt = elim (cases_Bool (marked seen t)) [
  | inl is ↦ is
  | inr un ↦ let high = are.low t lt un in let low = below t lt in absurd (omega arith)
]

pub left_some : (corners : List ℕ) (seen : List Bool) (none v s : ℕ) →
    IsLeftUpto corners seen (length corners) none v s → v ≢ none → IsFirstLeft corners seen v s
left_some corners seen none v s are some = record {
  is_side = are.is_side some;
  at = are.at some;
  left = are.left some;
  none_lower = λ t lt below. elim (cases_Bool (marked seen t)) [
    | inl is ↦ is
    | inr un ↦ let high = are.low t lt un in absurd (omega arith)
  ];
  none_before = are.first some;
}

-- what is found by marks is what there is
pub found_pinch : (mesh : Mesh) (seen : List Bool) (found : Option Pinch) → AreMarkedFans mesh seen mesh.vertices →
    MatchOption found ((s : ℕ) → s < side_count mesh → marked seen s ≡ true)
    (λ p. IsLeastPinch mesh p.v p.first p.second) →
    MatchOption found ((v : ℕ) → v < mesh.vertices → HasOneFan mesh v) (λ p. IsLeastPinch mesh p.v p.first p.second)
found_pinch mesh seen None are all = all_fans mesh seen mesh.vertices are all
found_pinch mesh seen (Some p) are pinch = pinch

-- a side is left
pub left_pinch : (mesh : Mesh) (seen : List Bool) (first : List ℕ) (v s : ℕ) →
    IsMesh mesh → AreMarkedFans mesh seen mesh.vertices → AreFirstSides mesh first →
    IsFirstLeft (all_corners mesh) seen v s →
    IsLeastPinch mesh v (get_or (owners 0 mesh.faces) (get_or first v 0) 0) (get_or (owners 0 mesh.faces) s 0)
left_pinch mesh seen first v s is_mesh are firsts left =
    let n = corners_len mesh in
    let is_side = left.is_side in
    let is_vertex : v < mesh.vertices = let b = corners_below mesh is_mesh s 0 is_side in let at = left.at in
    omega arith in
    let begin : BeginsAt mesh v s = (omega arith, left.at) in
    let r = begins_at mesh v s begin in
    let some : 0 < length (sides_at mesh v) = let lt = r.1 in omega arith in
    let P : ℕ → Type 0 = λ x. IsPinch mesh v (get_or (owners 0 mesh.faces) x 0) (get_or (owners 0 mesh.faces) s 0) in
    record {
      is_vertex = is_vertex;
      pinch = subst P (sym (first_at mesh first firsts v is_vertex some))
          ((are v is_vertex).pinch s begin left.left (λ t lt b. left.none_before t lt b.1));
      none_before = λ u below.
          (are u (omega arith)).fan (λ t b. let at = b.1 in let lt = b.0 in
          left.none_lower t (omega arith) (omega arith));
    }

-- and its vertex has a home
pub read_pinch : (mesh : Mesh) (seen : List Bool) (first : List ℕ) (v s home : ℕ) →
    IsMesh mesh → AreMarkedFans mesh seen mesh.vertices → AreFirstSides mesh first →
    IsFirstLeft (all_corners mesh) seen v s → home ≡ get_or first v 0 →
    IsLeastPinch mesh v (get_or (owners 0 mesh.faces) home 0) (get_or (owners 0 mesh.faces) s 0)
read_pinch mesh seen first v s home is_mesh are firsts left is =
    let P : ℕ → Type 0 =
    λ h. IsLeastPinch mesh v (get_or (owners 0 mesh.faces) h 0) (get_or (owners 0 mesh.faces) s 0) in
    subst P (sym is) (left_pinch mesh seen first v s is_mesh are firsts left)
