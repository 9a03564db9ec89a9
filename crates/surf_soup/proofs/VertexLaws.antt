-- A vertex has a side exactly where it is in a face.
use Rattle.surf_surfaces.proofs.Common.{◌≡◌, ℕ, ◌+◌, ◌-◌, ◌<◌, ◌≤◌, true, eqb, List, [], length, get_or, take, map, refl, sym, ap, ◌∙◌, arith, inl, inr, All, list_any, range_with_len, true≢false, eq-eqb, eqb-true, cases_eq, All-from_recursion, length-range_with_len, get_or-range_with_len, length-map-range_with_len, get_or-map-range_with_len, Mesh, IsMesh, face_at, face_count, HasCorner, side_count, owners, first_side, get_or_default, get_or_read, nil_from_length, length-flat_map, get_or-flat_map}
use Rattle.surf_rows.specs.Groups.{has_key}
use Rattle.surf_soup.specs.Pairs.{NoneWithin, IsFirstWithin}
use Rattle.surf_soup.specs.Vertices.{all_corners, sides_at, AllMet, IsLeastIsolated}
use Rattle.surf_soup.proofs.Order.{all_filter, passing, range_below}
use Rattle.surf_soup.proofs.HalfLaws.{face_of_side, spans}
use Rattle.surf_soup.proofs.Mates.{member_filter}

pub corners_len : (mesh : Mesh) → length (all_corners mesh) ≡ side_count mesh
corners_len mesh = length-flat_map (λ (face : List ℕ). face) mesh.faces

-- the corner at a place of a face
pub corner_at_place : (mesh : Mesh) (f k d : ℕ) → f < face_count mesh → k < length (face_at mesh f) →
    get_or (all_corners mesh) (first_side mesh f + k) d ≡ get_or (face_at mesh f) k d
corner_at_place mesh f k d lt in' =
    ap (λ n. get_or (all_corners mesh) (n + k) d) (sym (length-flat_map (λ (face : List ℕ). face) (take f mesh.faces)))
    ∙ get_or-flat_map (λ (face : List ℕ). face) mesh.faces f k [] d lt in'

-- a corner as it is read from a table
pub corner_read : (mesh : Mesh) (corners : List ℕ) (s x : ℕ) → corners ≡ all_corners mesh → s < side_count mesh →
    x ≡ get_or corners s x → x ≡ get_or (all_corners mesh) s 0
corner_read mesh corners s x are lt is =
    let n = corners_len mesh in
    get_or_read corners s x (omega (arith, lt, n, ap length are)) is 0 ∙ ap (λ (xs : List ℕ). get_or xs s 0) are

-- whether two sides begin at one vertex, by the corners that are read at them
pub begins_read : (mesh : Mesh) {corners : List ℕ} {s t i j x y : ℕ} → corners ≡ all_corners mesh →
    s < side_count mesh → t < side_count mesh → i ≡ s → j ≡ t → x ≡ get_or corners i x → y ≡ get_or corners j y →
    eqb x y ≡ eqb (get_or (all_corners mesh) s 0) (get_or (all_corners mesh) t 0)
begins_read mesh {corners} {s} {t} {i} {j} {x} {y} are s_in t_in i_is j_is read too =
    let first : x ≡ get_or (all_corners mesh) s 0 =
    corner_read mesh corners i x are (omega arith) read ∙ ap (λ k. get_or (all_corners mesh) k 0) i_is in
    let second : y ≡ get_or (all_corners mesh) t 0 =
    corner_read mesh corners j y are (omega arith) too ∙ ap (λ k. get_or (all_corners mesh) k 0) j_is in
    ap (λ n. eqb n y) first ∙ ap (eqb (get_or (all_corners mesh) s 0)) second

-- a side's face and its place there
pub record IsPlaced (mesh : Mesh) (s f k : ℕ) : Type 0 where
  pub is_face : f < face_count mesh
  pub is_place : k < length (face_at mesh f)
  pub number : s ≡ first_side mesh f + k

pub placed : (mesh : Mesh) (s : ℕ) → s < side_count mesh → (f : ℕ) × ((k : ℕ) × IsPlaced mesh s f k)
placed mesh s lt =
    let f = get_or (owners 0 mesh.faces) s 0 in
    let h = face_of_side mesh (owners 0 mesh.faces) s 0 refl lt in (
      f,
      (
        s - first_side mesh f,
        record { is_face = h.is_face; is_place = omega (arith, h.from, h.upto); number = omega (arith, h.from) },
      ),
    )

pub corners_below : (mesh : Mesh) → IsMesh mesh → All (λ v. v < mesh.vertices) (all_corners mesh)
corners_below mesh is_mesh = λ s d lt.
    let n = corners_len mesh in
    let r = placed mesh s (omega arith) in
    let f = r.0 in
    let k = r.1.0 in
    let p = r.1.1 in
    let at : get_or (all_corners mesh) s d ≡ get_or (face_at mesh f) k d =
    ap (λ t. get_or (all_corners mesh) t d) p.number ∙ corner_at_place mesh f k d p.is_face p.is_place in
    let face = is_mesh f [] p.is_face in
    omega (arith, at, face.inside k d p.is_place)

pub met : (mesh : Mesh) (v : ℕ) → 0 < length (sides_at mesh v) → (f : ℕ) × HasCorner mesh f v
met mesh v some =
    let n = side_count mesh in
    let all = range_with_len 0 n in
    let s = get_or (sides_at mesh v) 0 0 in
    let key = All-from_recursion (λ t. has_key (all_corners mesh) v t ≡ true) (sides_at mesh v)
    (passing (has_key (all_corners mesh) v) all) 0 0 some in
    let below : s < n = All-from_recursion (λ t. t < n) (sides_at mesh v)
    (all_filter (λ t. t < n) (has_key (all_corners mesh) v) all (range_below 0 n n (omega arith))) 0 0 some in
    let r = placed mesh s below in
    let f = r.0 in
    let k = r.1.0 in
    let p = r.1.1 in
    let corner : get_or (face_at mesh f) k v ≡ v =
    get_or_default (face_at mesh f) k v 0 p.is_place ∙ sym (corner_at_place mesh f k 0 p.is_face p.is_place)
    ∙ ap (λ t. get_or (all_corners mesh) t 0) (sym p.number) ∙ eqb-true (get_or (all_corners mesh) s 0) v key in
    (f, (p.is_face, (k, p.is_place, corner)))

pub unmet : (mesh : Mesh) (v : ℕ) → length (sides_at mesh v) ≡ 0 → (f : ℕ) → HasCorner mesh f v → ⊥
unmet mesh v none f h =
    let n = side_count mesh in
    let all = range_with_len 0 n in
    let k = h.1.0 in
    let s = first_side mesh f + k in
    let sp = spans mesh.faces f h.0 in
    let below : s < n = omega (arith, sp.0, sp.1, h.1.1) in
    let z : 0 + s ≡ s = omega arith in
    let here : get_or all s 0 ≡ s = get_or-range_with_len 0 n s 0 below ∙ z in
    let key : get_or (all_corners mesh) s 0 ≡ v = corner_at_place mesh f k 0 h.0 h.1.1
    ∙ get_or_default (face_at mesh f) k 0 v h.1.1 ∙ h.1.2 in
    let m = member_filter (has_key (all_corners mesh) v) all s (omega (arith, length-range_with_len 0 n))
    (ap (has_key (all_corners mesh) v) here ∙ eq-eqb (get_or (all_corners mesh) s 0) v key) in
    true≢false (sym m ∙ ap (list_any (eqb (get_or all s 0))) (nil_from_length (sides_at mesh v) none))

module _ (mesh : Mesh) (rows : List (List ℕ)) (are : rows ≡ map (sides_at mesh) (range_with_len 0 mesh.vertices)) where
  pub at_len : length rows ≡ mesh.vertices
  at_len = ap length are ∙ length-map-range_with_len (sides_at mesh) 0 mesh.vertices

  pub at_is : (v : ℕ) → v < mesh.vertices → get_or rows v [] ≡ sides_at mesh v
  at_is v lt = ap (λ (r : List (List ℕ)). get_or r v []) are
      ∙ get_or-map-range_with_len (sides_at mesh) 0 mesh.vertices v v [] lt (omega arith)

  pub met_if : (v : ℕ) → v < mesh.vertices → (0 ≤ length (get_or rows v []) → length (get_or rows v []) ≤ 0 → ⊥) →
      (f : ℕ) × HasCorner mesh f v
  met_if v lt h = met mesh v (let e = ap length (at_is v lt) in
      positive (length (get_or rows v [])) (length (sides_at mesh v)) e h)
    where
      positive : (a b : ℕ) → a ≡ b → (0 ≤ a → a ≤ 0 → ⊥) → 0 < b
      positive a b e h = elim (cases_eq a 0) [ inl z ↦ absurd (h (omega arith) (omega arith)) | inr ne ↦ omega arith ]

  pub all_met : NoneWithin 0 0 rows → AllMet mesh
  all_met none v lt = met_if v lt (none v (let n = at_len in omega arith))

  pub least_isolated : (v : ℕ) → IsFirstWithin 0 0 rows v → IsLeastIsolated mesh v
  least_isolated v first =
      let n = at_len in
      let row = first.is_row in
      let lt : v < mesh.vertices = omega arith in
      record {
        is_vertex = lt;
        no_face = unmet mesh v (let e = ap length (at_is v lt) in let m = first.at_most in omega arith);
        met_before = λ u below. met_if u (omega arith) (first.none_before u below);
      }
