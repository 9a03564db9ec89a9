-- Sides of a mesh by their corners, and the edges of the border.
use Rattle.surf_slit.proofs.Common.{◌≡◌, ℕ, ◌+◌, ◌-◌, ◌<◌, ◌⊎◌, inl, inr, sym, refl, subst, ap, ◌∙◌, [], length, get_or, take, arith, flat_map, get_or-map, length-map, Joined, here, over, Mesh, IsMesh, pair, pair_of, sides, after, face_count, face_at, ends, faces_with, HasEdge, first_side, IsFaceOf, side_count, pair_at, owners, length-flat_map, get_or-flat_map, IsDisc, IsBorderEdge, ShareOnBorder, sides_are_by_place, side_place, edge_of, face_of, same_face, pair_is, face_of_side, pair_at_place, side_of_face, face_has_side}
use Rattle.surf_cutter.proofs.Common.{corners_of, HasCopy, IsBorderSide}
use Rattle.surf_surfaces.proofs.meshes.CountLaws.{length-sides}
use Rattle.surf_soup.proofs.EdgeTables.{sizes, length-side_pairs}

-- the corners of the side that begins at a place of a face
pub corners_at_place : (mesh : Mesh) (f k : ℕ) → f < face_count mesh → k < length (face_at mesh f) →
    corners_of mesh (first_side mesh f + k) ≡ (
      get_or (face_at mesh f) k 0,
      get_or (face_at mesh f) (after (length (face_at mesh f)) k) 0,
    )
corners_at_place mesh f k lt in' =
    let face = face_at mesh f in
    let before : length (flat_map sides (take f mesh.faces)) ≡ first_side mesh f = length-flat_map sides
    (take f mesh.faces) ∙ sizes (take f mesh.faces) in
    let here = get_or-flat_map sides mesh.faces f k [] (0, 0) lt (omega (arith, length-sides face)) in
    ap (λ b. get_or (flat_map sides mesh.faces) (b + k) (0, 0)) (sym before) ∙ here ∙ sides_are_by_place face k in'

-- the pair of a side is that of its corners
pub pair_of_corners : (mesh : Mesh) (s : ℕ) → s < side_count mesh →
    pair_at mesh s ≡ pair (corners_of mesh s).0 (corners_of mesh s).1
pair_of_corners mesh s h =
    let n = length-side_pairs mesh in
    let m = length-map (flat_map sides mesh.faces) pair_of in
    get_or-map pair_of (flat_map sides mesh.faces) s (0, 0) (0, 0) (omega arith)

-- an end of the pair is a corner
pub end_of_pair : (mesh : Mesh) (s v : ℕ) → s < side_count mesh → (v ≡ (pair_at mesh s).0) ⊎ (v ≡ (pair_at mesh s).1) →
    HasCopy mesh s v
end_of_pair mesh s v h is =
    let a = (corners_of mesh s).0 in
    let b = (corners_of mesh s).1 in
    let p = pair_of_corners mesh s h in
    elim (pair_is a b) [
      | inl e ↦ elim is [
        | inl i ↦ inl (i ∙ ap (λ (p : ℕ × ℕ). p.0) (p ∙ e))
        | inr i ↦ inr (i ∙ ap (λ (p : ℕ × ℕ).
            p.1) (p ∙ e))
      ]
      | inr e ↦ elim is [
        | inl i ↦ inr (i ∙ ap (λ (p : ℕ × ℕ). p.0) (p ∙ e))
        | inr i ↦ inl (i ∙ ap (λ (p : ℕ × ℕ).
            p.1) (p ∙ e))
      ]
    ]

-- one face has one side with a pair
pub side_in_face : (mesh : Mesh) → IsMesh mesh → (s t f : ℕ) → IsFaceOf mesh s f → IsFaceOf mesh t f →
    pair_at mesh s ≡ pair_at mesh t → s ≡ t
side_in_face mesh is_mesh s t f a b e =
    let face = face_at mesh f in
    let k = s - first_side mesh f in
    let j = t - first_side mesh f in
    let sum_k : first_side mesh f + k ≡ s = omega (arith, a.from) in
    let sum_j : first_side mesh f + j ≡ t = omega (arith, b.from) in
    let lt_k : k < length face = omega (arith, a.from, a.upto) in
    let lt_j : j < length face = omega (arith, b.from, b.upto) in
    let same = side_place mesh.vertices face (is_mesh f [] a.is_face) k j lt_k lt_j
    (sym (pair_at_place mesh f k a.is_face lt_k) ∙ ap (pair_at mesh) sum_k ∙ e ∙ sym (ap (pair_at mesh) sum_j)
    ∙ pair_at_place mesh f j b.is_face lt_j) in
    omega (arith, a.from, b.from)

pub its_face : (mesh : Mesh) (s : ℕ) → s < side_count mesh → (f : ℕ) × IsFaceOf mesh s f
its_face mesh s h = (get_or (owners 0 mesh.faces) s 0, face_of_side mesh (owners 0 mesh.faces) s 0 refl h)

pub its_edge : (mesh : Mesh) (s f : ℕ) → IsFaceOf mesh s f → HasEdge mesh f (pair_at mesh s)
its_edge mesh s f a = (a.is_face, side_of_face mesh s f a)

-- two border sides of one edge are one
pub border_side_one : (mesh : Mesh) → IsMesh mesh → (s t : ℕ) → IsBorderSide mesh s → IsBorderSide mesh t →
    pair_at mesh s ≡ pair_at mesh t → s ≡ t
border_side_one mesh is_mesh s t a b e =
    let f = its_face mesh s a.0 in
    let g = its_face mesh t b.0 in
    let same : f.0 ≡ g.0 = same_face mesh (pair_at mesh s) f.0 g.0 a.1 (its_edge mesh s f.0 f.1) (subst (λ p.
    HasEdge mesh g.0 p) (sym e) (its_edge mesh t g.0 g.1)) in
    side_in_face mesh is_mesh s t g.0 (subst (λ f. IsFaceOf mesh s f) same f.1) g.1 e

-- a border edge is a border side
pub side_of_edge : (mesh : Mesh) (e : ℕ) → IsBorderEdge mesh e → (s : ℕ) × IsBorderSide mesh s
    × (pair_at mesh s ≡ ends mesh e)
side_of_edge mesh e b =
    let f = face_of mesh e b.0 in
    let s = face_has_side mesh f.0 (ends mesh e) f.1.0 f.1.1 in
    (s.0, (s.1.is_side, subst (λ p. length (faces_with mesh p) ≡ 1) (sym s.1.its_pair) b.1), s.1.its_pair)

-- and a border side is a border edge
pub edge_of_side : (mesh : Mesh) (s : ℕ) → IsBorderSide mesh s → (e : ℕ) × IsBorderEdge mesh e
    × (ends mesh e ≡ pair_at mesh s)
edge_of_side mesh s b =
    let f = its_face mesh s b.0 in
    let e = edge_of mesh f.0 (pair_at mesh s) (its_edge mesh s f.0 f.1) in
    (e.0, (e.1, subst (λ p. length (faces_with mesh p) ≡ 1) (sym e.2) b.1), e.2)

-- what a border side is in, and each border side at a copy of one that is in it, has all border sides
module _ (mesh : Mesh) (disc : IsDisc mesh) (In : ℕ → Type 0) (border : (s : ℕ) → In s → IsBorderSide mesh s)
    (closed : (s t c : ℕ) → In s → IsBorderSide mesh t → HasCopy mesh s c → HasCopy mesh t c → In t) where
  along : {e h : ℕ} → Joined (ShareOnBorder mesh) e h → (s : ℕ) → In s → pair_at mesh s ≡ ends mesh e →
      (t : ℕ) × In t × (pair_at mesh t ≡ ends mesh h)
  along here s in' is = (s, in', is)
  along (over {b = b} r rest) s in' is =
      let t = side_of_edge mesh b r.1 in
      let v = r.2.0 in
      let at_s : HasCopy mesh s v = end_of_pair mesh s v (border s in').0 (subst (λ (p : ℕ × ℕ). (v ≡ p.0)
      ⊎ (v ≡ p.1)) (sym is) r.2.1) in
      let at_t : HasCopy mesh t.0 v = end_of_pair mesh t.0 v t.1.0 (subst (λ (p : ℕ × ℕ). (v ≡ p.0)
      ⊎ (v ≡ p.1)) (sym t.2) r.2.2) in
      along rest t.0 (closed s t.0 v in' t.1 at_s at_t) t.2

  pub has_all : (s t : ℕ) → In s → IsBorderSide mesh t → In t
  has_all s t in' b =
      let e = edge_of_side mesh s (border s in') in
      let h = edge_of_side mesh t b in
      let u = along (disc.one_border e.0 h.0 e.1 h.1) s in' (sym e.2) in
      subst In (border_side_one mesh disc.is_mesh u.0 t (border u.0 u.1) b (u.2 ∙ h.2)) u.1
