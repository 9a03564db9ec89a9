-- The least side at each vertex.
use Rattle.surf_surfaces.proofs.Common.{◌≡◌, ◌≢◌, ℕ, ◌+◌, ◌<◌, ◌≤◌, List, length, get_or, set, refl, sym, ap, subst, ◌∙◌, arith, inl, inr, cases_eq, Mesh, HasCorner, side_count, owners}
use Rattle.std.proofs.lemmas.List.{length-set, get_or-set_same, get_or-set_other}
use Rattle.surf_soup.specs.Vertices.{all_corners, sides_at}
use Rattle.surf_soup.specs.Ring.{BeginsAt}
use Rattle.surf_soup.specs.First.{AreFirstFrom, AreFirstSides}
use Rattle.surf_soup.proofs.HalfLaws.{face_of_side}
use Rattle.surf_soup.proofs.CornerSides.{at_begins, begins_at, at_rises, begins_corner, corner_begins}

-- one side more, the one before
pub first_more : (mesh : Mesh) (from s : ℕ) (first : List ℕ) → AreFirstFrom mesh from first → from ≡ s + 1 →
    s < side_count mesh →
    AreFirstFrom mesh s (set first (get_or (all_corners mesh) s 0) s)
first_more mesh from s first are next lt =
    let v = get_or (all_corners mesh) s 0 in
    let now = set first v s in
    let size = are.size in
    let same : v < mesh.vertices → get_or now v 0 ≡ s = λ below. get_or-set_same first v s 0 (omega arith) in
    let other : (u : ℕ) → u ≢ v → get_or now u 0 ≡ get_or first u 0 = λ u ne. get_or-set_other first v u s 0 ne in
    record {
      size = length-set first v s ∙ size;
      begin = λ u below some. elim (cases_eq u v) [
        | inl e ↦
            let is : get_or now u 0 ≡ s = ap (λ w. get_or now w 0) e ∙ same (omega arith) in
            (omega arith, ap (λ t. get_or (all_corners mesh) t 0) is ∙ sym e)
        | inr ne ↦
            let is = other u ne in
            let P : ℕ → Type 0 = BeginsAt mesh u in
            subst P (sym is) (are.begin u below (λ e. some (is ∙ e)))
      ];
      least = λ u t below from_s b. elim (cases_eq u v) [
        | inl e ↦
            let is : get_or now u 0 ≡ s = ap (λ w. get_or now w 0) e ∙ same (omega arith) in
            omega arith
        | inr ne ↦
            let is = other u ne in
            let later : t ≢ s = λ e. ne (sym b.1 ∙ ap (λ x. get_or (all_corners mesh) x 0) e) in
            let low = are.least u t below (omega arith) b in
            omega arith
      ];
    }

-- none of the sides yet
pub first_none : (mesh : Mesh) (first : List ℕ) → length first ≡ mesh.vertices →
    ((v : ℕ) → v < mesh.vertices → get_or first v 0 ≡ side_count mesh) → AreFirstFrom mesh (side_count mesh) first
first_none mesh first size none = record {
  size = size;
  begin = λ v lt some. absurd (some (none v lt));
  least = λ v s lt from b. let l = b.0 in omega (arith, none v lt);
}

pub first_at : (mesh : Mesh) (first : List ℕ) → AreFirstSides mesh first → (v : ℕ) → v < mesh.vertices →
    0 < length (sides_at mesh v) → get_or first v 0 ≡ get_or (sides_at mesh v) 0 0
first_at mesh first are v lt some =
    let home = get_or (sides_at mesh v) 0 0 in
    let b = at_begins mesh v 0 some in
    let below = b.0 in
    let low : get_or first v 0 ≤ home = are.least v home lt (omega arith) b in
    let own = are.begin v lt (λ e. absurd (omega arith)) in
    let r = begins_at mesh v (get_or first v 0) own in
    let is = r.2 in
    elim (cases_eq r.0 0) [
      | inl e ↦ sym is ∙ ap (λ k. get_or (sides_at mesh v) k 0) e
      | inr ne ↦ let up = at_rises mesh v 0 r.0 (omega arith) r.1 in absurd (omega arith)
    ]

-- a vertex is in a face exactly where it has a first side
pub first_met : (mesh : Mesh) (first : List ℕ) → AreFirstSides mesh first → (v : ℕ) → v < mesh.vertices →
    get_or first v 0 ≢ side_count mesh → (f : ℕ) × HasCorner mesh f v
first_met mesh first are v lt some =
    let b = are.begin v lt some in
    let s = get_or first v 0 in
    let f = get_or (owners 0 mesh.faces) s 0 in
    (f, begins_corner mesh f v s b (face_of_side mesh (owners 0 mesh.faces) s 0 refl b.0))

pub first_unmet : (mesh : Mesh) (first : List ℕ) → AreFirstSides mesh first → (v : ℕ) → v < mesh.vertices →
    get_or first v 0 ≡ side_count mesh → (f : ℕ) → HasCorner mesh f v → ⊥
first_unmet mesh first are v lt none f h =
    let s = corner_begins mesh f v h in
    let low = are.least v s.0 lt (omega arith) s.1.0 in
    let below = s.1.0.0 in
    omega arith
