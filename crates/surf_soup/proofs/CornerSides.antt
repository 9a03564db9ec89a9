-- Sides that begin at a vertex, with their faces and places.
use Rattle.surf_surfaces.proofs.Common.{◌≡◌, ℕ, zero, suc, ◌+◌, ◌-◌, ◌<◌, true, eqb, List, [], ◌∷◌, length, get_or, refl, sym, ap, ◌∙◌, arith, inl, inr, range_with_len, cases_eq, cases_lt, eq-eqb, eqb-true, get_or_default, All-from_recursion, length-range_with_len, get_or-range_with_len, Mesh, IsMesh, corner, face_at, HasCorner, side_count, first_side, IsFaceOf}
use Rattle.surf_surfaces.proofs.meshes.EdgeLaws.{list_any_at}
use Rattle.surf_surfaces.proofs.meshes.SideLaws.{corner_place}
use Rattle.surf_rows.specs.Groups.{has_key}
use Rattle.surf_soup.specs.Vertices.{all_corners, sides_at}
use Rattle.surf_soup.specs.Ring.{BeginsAt}
use Rattle.surf_soup.proofs.Order.{Ordered, all_filter, passing, range_below}
use Rattle.surf_soup.proofs.HalfLaws.{spans}
use Rattle.surf_soup.proofs.Mates.{member_filter, ordered_filter, range_ordered}
use Rattle.surf_soup.proofs.SideNumbers.{first_mono}
use Rattle.surf_soup.proofs.VertexLaws.{corner_at_place, IsPlaced}

pub face_placed : (mesh : Mesh) (s f : ℕ) → IsFaceOf mesh s f → IsPlaced mesh s f (s - first_side mesh f)
face_placed mesh s f h =
    record { is_face = h.is_face; is_place = omega (arith, h.from, h.upto); number = omega (arith, h.from) }

pub placed_face : (mesh : Mesh) (s f k : ℕ) → IsPlaced mesh s f k → IsFaceOf mesh s f
placed_face mesh s f k p =
    record { is_face = p.is_face; from = omega (arith, p.number); upto = omega (arith, p.number, p.is_place) }

pub placed_side : (mesh : Mesh) (s f k : ℕ) → IsPlaced mesh s f k → s < side_count mesh
placed_side mesh s f k p = let sp = spans mesh.faces f p.is_face in omega (arith, sp.0, sp.1, p.number, p.is_place)

pub tail_at : (mesh : Mesh) (s f k : ℕ) → IsPlaced mesh s f k →
    get_or (all_corners mesh) s 0 ≡ corner (face_at mesh f) k
tail_at mesh s f k p = ap (λ t. get_or (all_corners mesh) t 0) p.number
    ∙ corner_at_place mesh f k 0 p.is_face p.is_place

pub same_place : (mesh : Mesh) (s t f k j : ℕ) → IsPlaced mesh s f k → IsPlaced mesh t f j → k ≡ j → s ≡ t
same_place mesh s t f k j p q e = omega (arith, p.number, q.number)

-- a face has one side that begins at a vertex
pub one_corner : (mesh : Mesh) → IsMesh mesh → (s t f : ℕ) → IsFaceOf mesh s f → IsFaceOf mesh t f →
    get_or (all_corners mesh) s 0 ≡ get_or (all_corners mesh) t 0 → s ≡ t
one_corner mesh is_mesh s t f a b e =
    let p = face_placed mesh s f a in
    let q = face_placed mesh t f b in
    let k = s - first_side mesh f in
    let j = t - first_side mesh f in
    same_place mesh s t f k j p q
    (corner_place mesh.vertices (face_at mesh f) (is_mesh f [] a.is_face) k j p.is_place q.is_place
    (sym (tail_at mesh s f k p) ∙ e ∙ tail_at mesh t f j q))

pub corner_begins : (mesh : Mesh) (f v : ℕ) → HasCorner mesh f v → (s : ℕ) × (BeginsAt mesh v s × IsFaceOf mesh s f)
corner_begins mesh f v h =
    let k = h.1.0 in
    let s = first_side mesh f + k in
    let p : IsPlaced mesh s f k = record { is_face = h.0; is_place = h.1.1; number = refl } in (
      s,
      (
        (placed_side mesh s f k p, tail_at mesh s f k p ∙ get_or_default (face_at mesh f) k 0 v h.1.1 ∙ h.1.2),
        placed_face mesh s f k p,
      ),
    )

pub begins_corner : (mesh : Mesh) (f v s : ℕ) → BeginsAt mesh v s → IsFaceOf mesh s f → HasCorner mesh f v
begins_corner mesh f v s b h =
    let p = face_placed mesh s f h in
    let k = s - first_side mesh f in
    (h.is_face, (k, p.is_place, get_or_default (face_at mesh f) k v 0 p.is_place ∙ sym (tail_at mesh s f k p) ∙ b.1))

-- the sides that begin at a vertex: which they are, and their order
pub at_begins : (mesh : Mesh) (v k : ℕ) → k < length (sides_at mesh v) → BeginsAt mesh v (get_or (sides_at mesh v) k 0)
at_begins mesh v k lt =
    let n = side_count mesh in
    let all = range_with_len 0 n in
    let s = get_or (sides_at mesh v) k 0 in
    let key = All-from_recursion (λ t. has_key (all_corners mesh) v t ≡ true) (sides_at mesh v)
    (passing (has_key (all_corners mesh) v) all) k 0 lt in
    let below : s < n = All-from_recursion (λ t. t < n) (sides_at mesh v)
    (all_filter (λ t. t < n) (has_key (all_corners mesh) v) all (range_below 0 n n (omega arith))) k 0 lt in
    (below, eqb-true (get_or (all_corners mesh) s 0) v key)

pub begins_at : (mesh : Mesh) (v s : ℕ) → BeginsAt mesh v s → (k : ℕ) × (k < length (sides_at mesh v))
    × (get_or (sides_at mesh v) k 0 ≡ s)
begins_at mesh v s b =
    let n = side_count mesh in
    let all = range_with_len 0 n in
    let z : 0 + s ≡ s = omega arith in
    let here' : get_or all s 0 ≡ s = get_or-range_with_len 0 n s 0 b.0 ∙ z in
    let m = member_filter (has_key (all_corners mesh) v) all s (let l = b.0 in
    omega (arith, length-range_with_len 0 n)) (ap (has_key (all_corners mesh) v) here'
    ∙ eq-eqb (get_or (all_corners mesh) s 0) v b.1) in
    let r = list_any_at (eqb (get_or all s 0)) (sides_at mesh v) 0 m in
    (r.0, r.1, sym (eqb-true (get_or all s 0) (get_or (sides_at mesh v) r.0 0) r.2) ∙ here')

ordered_at : (xs : List ℕ) (i j : ℕ) → Ordered (λ s t. s < t) xs → i < j → j < length xs → get_or xs i 0 < get_or xs j 0
ordered_at [] i j h a b = absurd (omega arith)
ordered_at (x ∷ xs) i zero h a b = absurd (omega arith)
ordered_at (x ∷ xs) zero (suc j) h a b = All-from_recursion (λ t. x < t) xs h.0 j 0 (omega arith)
ordered_at (x ∷ xs) (suc i) (suc j) h a b = ordered_at xs i j h.1 (omega arith) (omega arith)

pub at_rises : (mesh : Mesh) (v i j : ℕ) → i < j → j < length (sides_at mesh v) →
    get_or (sides_at mesh v) i 0 < get_or (sides_at mesh v) j 0
at_rises mesh v i j a b =
    ordered_at (sides_at mesh v) i j
    (ordered_filter (λ s t. s < t) (has_key (all_corners mesh) v) (range_with_len 0 (side_count mesh))
    (range_ordered 0 (side_count mesh))) a b

-- of two places in the row, the one with the lesser face is before
pub at_faces : (mesh : Mesh) (v i j f g : ℕ) → i < length (sides_at mesh v) → j < length (sides_at mesh v) →
    IsFaceOf mesh (get_or (sides_at mesh v) i 0) f → IsFaceOf mesh (get_or (sides_at mesh v) j 0) g → f < g → i < j
at_faces mesh v i j f g a b p q lt =
    let mono = first_mono mesh (f + 1) g (omega arith) in
    let sp = spans mesh.faces f p.is_face in
    elim (cases_lt i j) [
      | inl y ↦ y
      | inr ge ↦ elim (cases_eq i j) [
        | inl e ↦ let same = ap (λ k. get_or (sides_at mesh v) k 0) e in
            absurd (omega (arith, mono, sp.0, p.upto, q.from, same))
        | inr ne ↦ let up = at_rises mesh v j i (omega arith) a in
            absurd (omega (arith, mono, sp.0, p.upto, q.from, up))
      ]
    ]

pub row_some : (mesh : Mesh) (v f : ℕ) → HasCorner mesh f v → 0 < length (sides_at mesh v)
row_some mesh v f h = let s = corner_begins mesh f v h in let r = begins_at mesh v s.0 s.1.0 in let lt = r.1 in
    omega arith
