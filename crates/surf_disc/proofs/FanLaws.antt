-- Where all corners of a vertex are marked it has one fan, and the first that isn't is a pinch.
use Rattle.surf_surfaces.proofs.Common.{◌≡◌, ℕ, ◌+◌, ◌<◌, ◌≤◌, Bool, true, false, List, length, get_or, sym, ap, subst, ◌∙◌, arith, inl, inr, true≢false, cases_eq, Joined, Mesh, HasCorner, ShareAt, HasOneFan, IsFaceOf, side_count}
use Rattle.surf_surfaces.proofs.meshes.JoinedLaws.{joined_trans, joined_sym}
use Rattle.surf_soup.specs.Reach.{marked}
use Rattle.surf_soup.specs.Ring.{IsPinch, IsLeastPinch}
use Rattle.surf_soup.specs.Vertices.{sides_at, AllMet}
use Rattle.surf_soup.proofs.CornerSides.{at_begins, begins_at, at_faces, corner_begins, begins_corner, row_some}
use Rattle.surf_disc.specs.Links.{AreFansMarked}
use Rattle.surf_disc.proofs.CornerLaws.{face_of, own_face}

module _ (mesh : Mesh) (met : AllMet mesh) (seen : List Bool) (fans : AreFansMarked mesh seen) (v : ℕ)
    (lt : v < mesh.vertices) where
  abbrev at : List ℕ
  at = sides_at mesh v

  some : 0 < length at
  some = let m = met v lt in row_some mesh v m.0 m.1

  abbrev first : ℕ
  first = face_of mesh (get_or at 0 0)

  first_face : IsFaceOf mesh (get_or at 0 0) first
  first_face = own_face mesh (get_or at 0 0) (at_begins mesh v 0 some).0

  -- a face at the vertex has a side in its ring
  placed_at : (h : ℕ) → HasCorner mesh h v → (k : ℕ) × ((k < length at) × IsFaceOf mesh (get_or at k 0) h)
  placed_at h c =
      let t = corner_begins mesh h v c in
      let r = begins_at mesh v t.0 t.1.0 in
      let P : ℕ → Type 0 = λ x. IsFaceOf mesh x h in
      (r.0, (r.1, subst P (sym r.2) t.1.1))

  joined_at : (k h : ℕ) → k < length at → marked seen (get_or at k 0) ≡ true → IsFaceOf mesh (get_or at k 0) h →
      Joined (ShareAt mesh v) first h
  joined_at k h in' m f = fans.sound v (get_or at k 0) first h lt (at_begins mesh v k in') m first_face f

  pub one_fan : ((k : ℕ) → k < length at → marked seen (get_or at k 0) ≡ true) → HasOneFan mesh v
  one_fan all f g a b =
      let i = placed_at f a in
      let j = placed_at g b in
      joined_trans (joined_sym (λ x y h. (h.0, h.2, h.1)) (joined_at i.0 f i.1.0 (all i.0 i.1.0) i.1.1))
      (joined_at j.0 g j.1.0 (all j.0 j.1.0) j.1.1)

  pub pinch : (k : ℕ) → k < length at → marked seen (get_or at k 0) ≡ false →
      ((j : ℕ) → j < k → marked seen (get_or at j 0) ≡ true) → IsPinch mesh v first (face_of mesh (get_or at k 0))
  pinch k in' new old =
      let s = get_or at k 0 in
      let b = at_begins mesh v k in' in
      let own = own_face mesh s b.0 in
      record {
        first = begins_corner mesh first v (get_or at 0 0) (at_begins mesh v 0 some) first_face;
        none_less = λ h below c. let j = placed_at h c in let less = at_faces mesh v j.0 0 h first j.1.0 some j.1.1
            first_face below in omega arith;
        second = begins_corner mesh (face_of mesh s) v s b own;
        apart = λ chain. true≢false (sym (fans.complete v s first (face_of mesh s) lt first_face chain b own) ∙ new);
        joined_before = λ h below c.
            let j = placed_at h c in
            let less = at_faces mesh v j.0 k h (face_of mesh s) j.1.0 in' j.1.1 own below in
            joined_at j.0 h j.1.0 (old j.0 less) j.1.1;
      }

-- the least vertex with a corner that isn't marked
pub least_pinch : (mesh : Mesh) → AllMet mesh → (seen : List Bool) → AreFansMarked mesh seen → (v : ℕ) →
    v < mesh.vertices → ((u : ℕ) → u < v → HasOneFan mesh u) → (k : ℕ) (ring : List ℕ) → ring ≡ sides_at mesh v →
    k < length ring → marked seen (get_or ring k 0) ≡ false →
    ((j : ℕ) → j < k → marked seen (get_or ring j 0) ≡ true) →
    IsLeastPinch mesh v (face_of mesh (get_or ring 0 0)) (face_of mesh (get_or ring k 0))
least_pinch mesh met seen fans v lt before k ring is in' new old =
    let Q : List ℕ → Type 0 = λ xs. IsPinch mesh v (face_of mesh (get_or xs 0 0)) (face_of mesh (get_or xs k 0)) in
    record {
      is_vertex = lt;
      pinch = subst Q (sym is)
          (pinch mesh met seen fans v lt k (omega (arith, in', ap length is))
          (sym (ap (λ (xs : List ℕ). marked seen (get_or xs k 0)) is) ∙ new)
          (λ j less. sym (ap (λ (xs : List ℕ). marked seen (get_or xs j 0)) is) ∙ old j less));
      none_before = before;
    }

pub fans_more : (mesh : Mesh) → AllMet mesh → (seen : List Bool) → AreFansMarked mesh seen → (v : ℕ) →
    v < mesh.vertices → ((u : ℕ) → u < v → HasOneFan mesh u) → (ring : List ℕ) → ring ≡ sides_at mesh v →
    ((k : ℕ) → k < length ring → marked seen (get_or ring k 0) ≡ true) → (u : ℕ) → u < v + 1 → HasOneFan mesh u
fans_more mesh met seen fans v lt before ring is all u below = elim (cases_eq u v) [
  | inl e ↦
      let P : ℕ → Type 0 = λ w. HasOneFan mesh w in
      subst P (sym e) (one_fan mesh met seen fans v lt
      (λ k in'. sym (ap (λ (xs : List ℕ). marked seen (get_or xs k 0)) is)
      ∙ all k (omega (arith, in', ap length is))))
  | inr ne ↦ before u (omega arith)
]

-- the sides of a ring are marked or not, and have faces
pub row_inside : (mesh : Mesh) (v k n : ℕ) (ring : List ℕ) → ring ≡ sides_at mesh v → k < length ring →
    side_count mesh ≤ n → get_or ring k 0 < n
row_inside mesh v k n ring is in' room =
    let b = at_begins mesh v k (omega (arith, in', ap length is)) in
    omega (arith, b.0, ap (λ (xs : List ℕ). get_or xs k 0) is)
