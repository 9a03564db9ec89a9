-- Rows of links are rows of the graphs of a surface.
use Rattle.surf_surfaces.proofs.Common.{◌≡◌, ◌≢◌, ℕ, ◌+◌, ◌-◌, ◌^◌, ◌<◌, ◌≤◌, true, ◌&&◌, ◌||◌, eqb, List, [], length, get_or, map, All, refl, sym, ap, ◌∙◌, subst, arith, inl, inr, range_with_len, cases_eq, eq-eqb, ne_eqb, nat_tests, get_or-map, length-map, length-range_with_len, get_or-range_with_len, primal, dual, cells_of, Mesh, IsMesh, edges, face_count, face_at, edge_count, ends, faces_of, has_side, touches, IsSurface, place_of, side_count, pair_at, owners, first_side, IsFaceOf, IsMate, IsEdgeOf}
use Rattle.surf_surfaces.proofs.meshes.CellLaws.{ends_below}
use Rattle.surf_surfaces.proofs.meshes.SurfaceLaws.{two_faces_of}
use Rattle.surf_surfaces.proofs.meshes.EdgeLaws.{place_of-among, place_of-ends}
use Rattle.surf_surfaces.proofs.meshes.SideLaws.{side_place}
use Rattle.surf_surfaces.proofs.meshes.CountLaws.{sizes_twice}
use Rattle.surf_surfaces.proofs.classes.ClassLaws.{independent_walks_are_few, some_vertex}
use Rattle.surf_z2.proofs.Linear.{chosen_none}
use Rattle.surf_soup.proofs.EdgeTables.{pair_at-edge}
use Rattle.surf_soup.proofs.HalfLaws.{face_of_side, spans}
use Rattle.surf_soup.proofs.SideNumbers.{pair_at_place, side_of_face, face_has_side, one_face}
use Rattle.surf_mesh.specs.Links.{link_at, IsRow, other_of, edge_link, side_face, side_edge, side_link}

-- a pair joins each of its two to the other one
other_joins : (a b v : ℕ) → (eqb v a || eqb v b) ≡ true →
    ((eqb a v && eqb b (other_of (a, b) v)) || (eqb a (other_of (a, b) v) && eqb b v)) ≡ true
other_joins a b v h = elim (cases_eq a v) [
  | inl same ↦ rw (eq-eqb a v same, eq-eqb b b refl) refl
  | inr ne ↦ elim (cases_eq b v) [
    | inl same ↦ rw (ne_eqb a v ne, eq-eqb a a refl, eq-eqb b v same) refl
    | inr ne2 ↦ absurd (grind (arith, nat_tests))
  ]
]

-- and to no other
other_is : (a b v w : ℕ) → ((eqb a v && eqb b w) || (eqb a w && eqb b v)) ≡ true → other_of (a, b) v ≡ w
other_is a b v w h = elim (cases_eq a v) [
  | inl same ↦ rw (eq-eqb a v same) (grind (arith, nat_tests))
  | inr ne ↦ rw (ne_eqb a v ne) (grind (arith, nat_tests))
]

joined_one : (a b v w : ℕ) → ((eqb a v && eqb b w) || (eqb a w && eqb b v)) ≡ true → (eqb v a || eqb v b) ≡ true
joined_one a b v w h = grind (arith, nat_tests)

-- of two numbers that are both in a pair, and differ, one is the other one
other_than : (a b v w : ℕ) → (eqb v a || eqb v b) ≡ true → (eqb w a || eqb w b) ≡ true → v ≢ w → w ≡ other_of (a, b) v
other_than a b v w hv hw ne = elim (cases_eq a v) [
  | inl same ↦ rw (eq-eqb a v same) (grind (arith, nat_tests))
  | inr na ↦ rw (ne_eqb a v na) (grind (arith, nat_tests))
]

-- the edges at a vertex
module _ (mesh : Mesh) (is_mesh : IsMesh mesh) (v : ℕ) (list : List ℕ) (at : (k : ℕ) → k < length list →
    (get_or list k 0 < edge_count mesh) × (touches v (ends mesh (get_or list k 0)) ≡ true))
    (all : (e : ℕ) → (e < edge_count mesh) × (touches v (ends mesh e) ≡ true) → (k : ℕ) × (k < length list)
    × (get_or list k 0 ≡ e)) where
  edge_row_at : (k : ℕ) → k < length list → link_at (map (edge_link mesh v) list) k ≡ edge_link mesh v (get_or list k 0)
  edge_row_at k l = get_or-map (edge_link mesh v) list k 0 (0, 0) l

  edge_row_length : length (map (edge_link mesh v) list) ≡ length list
  edge_row_length = length-map list (edge_link mesh v)

  turned : (e : ℕ) → touches v (ends mesh e) ≡ true → (eqb v (ends mesh e).0 || eqb v (ends mesh e).1) ≡ true
  turned e h = let a = (ends mesh e).0 in let b = (ends mesh e).1 in grind (arith, nat_tests)

  pub edge_row : IsRow (primal (cells_of mesh)) v (map (edge_link mesh v) list)
  edge_row = record {
    edge_in = λ k l. let n = edge_row_length in rw (edge_row_at k (omega arith)) (at k (omega arith)).0;
    neighbour_in = λ k l.
        let n = edge_row_length in
        let e = get_or list k 0 in
        let h = at k (omega arith) in
        let b = ends_below mesh is_mesh e h.0 in
        rw (edge_row_at k (omega arith))
        (below_both (ends mesh e).0 (ends mesh e).1 mesh.vertices v (omega (arith, b.0, b.1)) b.1);
    joined = λ k l.
        let n = edge_row_length in
        let e = get_or list k 0 in
        let h = at k (omega arith) in
        rw (edge_row_at k (omega arith)) (other_joins (ends mesh e).0 (ends mesh e).1 v (turned e h.1));
    whole = λ e w l on.
        let one : touches v (ends mesh e) ≡ true = let a = (ends mesh e).0 in let b = (ends mesh e).1 in
        grind (arith, nat_tests) in
        let (k, lk, is) = all e (l, one) in
        let n = edge_row_length in (
          k,
          omega arith,
          edge_row_at k lk ∙ ap (edge_link mesh v) is
              ∙ ap (λ (u : ℕ). (u, e)) (other_is (ends mesh e).0 (ends mesh e).1 v w on),
        );
  }
    where
      below_both : (a b n u : ℕ) → a < n → b < n → other_of (a, b) u < n
      below_both a b n u la lb =
          elim (cases_eq a u) [ inl same ↦ rw (eq-eqb a u same) lb | inr ne ↦ rw (ne_eqb a u ne) la ]

-- the link of an entry of a row
pub link_of_edge : (mesh : Mesh) (v k e : ℕ) (list : List ℕ) → k < length list → e ≡ get_or list k e →
    link_at (map (edge_link mesh v) list) k ≡ (other_of (ends mesh e) v, e)
link_of_edge mesh v k e list l is = get_or-map (edge_link mesh v) list k e (0, 0) l ∙ ap (edge_link mesh v) (sym is)

pub link_of_side : (mesh : Mesh) (k s : ℕ) (list : List ℕ) → k < length list → s ≡ get_or list k s →
    link_at (map (side_link mesh) list) k ≡ side_link mesh s
link_of_side mesh k s list l is = get_or-map (side_link mesh) list k s (0, 0) l ∙ ap (side_link mesh) (sym is)

-- the edge of a side
pub side_edge_is : (mesh : Mesh) (s e : ℕ) → IsEdgeOf mesh s e → e ≡ side_edge mesh s
side_edge_is mesh s e h = sym (place_of-ends mesh e h.is_edge) ∙ ap (λ p. place_of p (edges mesh)) h.its_ends

pub edge_of_side : (mesh : Mesh) (s : ℕ) → s < side_count mesh → IsEdgeOf mesh s (side_edge mesh s)
edge_of_side mesh s l = let at = place_of-among (pair_at mesh s) (edges mesh) (0, 0) (pair_at-edge mesh s l) in
    record { is_edge = at.0; its_ends = at.1 }

pub side_face_is : (mesh : Mesh) (s f : ℕ) → s < side_count mesh → IsFaceOf mesh s f → side_face mesh s ≡ f
side_face_is mesh s f l h = one_face mesh s (side_face mesh s) f (face_of_side mesh (owners 0 mesh.faces) s 0 refl l) h

-- a face has each pair once
one_side : (mesh : Mesh) → IsMesh mesh → (s t f : ℕ) → IsFaceOf mesh s f → IsFaceOf mesh t f →
    pair_at mesh s ≡ pair_at mesh t → s ≡ t
one_side mesh is_mesh s t f a b same =
    let first = first_side mesh f in
    let i = s - first in
    let k = t - first in
    let ei : first + i ≡ s = omega (arith, a.from) in
    let ek : first + k ≡ t = omega (arith, b.from) in
    let li : i < length (face_at mesh f) = omega (arith, a.from, a.upto) in
    let lk : k < length (face_at mesh f) = omega (arith, b.from, b.upto) in
    let is = is_mesh f [] a.is_face in
    let e : i ≡ k = side_place mesh.vertices (face_at mesh f) is i k li lk
    (sym (pair_at_place mesh f i a.is_face li) ∙ ap (pair_at mesh) ei ∙ same ∙ sym (ap (pair_at mesh) ek)
    ∙ pair_at_place mesh f k b.is_face lk) in
    omega arith

module _ (mesh : Mesh) (surface : IsSurface mesh) where
  -- the face of a side is one of the two faces of its edge
  face_among : (s f : ℕ) → s < side_count mesh → IsFaceOf mesh s f → (e : ℕ) → IsEdgeOf mesh s e →
      (eqb f (faces_of mesh e).0 || eqb f (faces_of mesh e).1) ≡ true
  face_among s f l own e h = sym ((two_faces_of mesh surface e h.is_edge).no_other f)
      ∙ ap (λ p. has_side p (face_at mesh f)) h.its_ends ∙ side_of_face mesh s f own

  -- the face of the mate is the other face of the edge
  pub mate_link : (s t g e : ℕ) → s < side_count mesh → IsMate mesh s t → IsFaceOf mesh t g → IsEdgeOf mesh s e →
      ◌≡◌ {A = ℕ × ℕ} (g, e) (side_link mesh s)
  mate_link s t g e l mate there edge =
      let own : IsFaceOf mesh s (side_face mesh s) = face_of_side mesh (owners 0 mesh.faces) s 0 refl l in
      let apart : side_face mesh s ≢ g =
      λ same. mate.other (sym
      (one_side mesh surface.is_mesh s t g (subst (IsFaceOf mesh s) same own) there (sym mate.same_edge))) in
      let edge_t : IsEdgeOf mesh t e =
      record { is_edge = edge.is_edge; its_ends = edge.its_ends ∙ sym mate.same_edge } in
      let is : g ≡ other_of (faces_of mesh e) (side_face mesh s) =
      other_than (faces_of mesh e).0 (faces_of mesh e).1 (side_face mesh s) g
      (face_among s (side_face mesh s) l own e edge) (face_among t g mate.is_side there e edge_t) apart in
      ap (λ (x : ℕ). (x, e)) is
      ∙ ap (λ (x : ℕ). (other_of (faces_of mesh x) (side_face mesh s), x)) (side_edge_is mesh s e edge)

  -- the sides of a face
  module _ (f : ℕ) (in_range : f < face_count mesh) where
    row : List (ℕ × ℕ)
    row = map (side_link mesh) (range_with_len (first_side mesh f) (length (face_at mesh f)))

    row_length : length (map (side_link mesh) (range_with_len (first_side mesh f) (length (face_at mesh f)))) ≡ length
        (face_at mesh f)
    row_length = length-map (range_with_len (first_side mesh f) (length (face_at mesh f))) (side_link mesh)
        ∙ length-range_with_len (first_side mesh f) (length (face_at mesh f))

    row_at : (k : ℕ) → k < length (face_at mesh f) →
        link_at (map (side_link mesh) (range_with_len (first_side mesh f) (length (face_at mesh f))))
        k ≡ (
          other_of (faces_of mesh (side_edge mesh (first_side mesh f + k))) f,
          side_edge mesh (first_side mesh f + k),
        )
    row_at k l =
        let n = length-range_with_len (first_side mesh f) (length (face_at mesh f)) in
        let s = first_side mesh f + k in
        get_or-map (side_link mesh) (range_with_len (first_side mesh f) (length (face_at mesh f))) k 0 (
          0,
          0,
        ) (omega arith)
        ∙ ap (side_link mesh) (get_or-range_with_len (first_side mesh f) (length (face_at mesh f)) k 0 l)
        ∙ ap (λ (x : ℕ). (other_of (faces_of mesh (side_edge mesh s)) x, side_edge mesh s))
        (side_face_is mesh s f (side_in k l) (placed k l))
      where
        side_in : (k : ℕ) → k < length (face_at mesh f) → first_side mesh f + k < side_count mesh
        side_in k l = let sp = spans mesh.faces f in_range in omega (arith, sp.0, sp.1)

        placed : (k : ℕ) → k < length (face_at mesh f) → IsFaceOf mesh (first_side mesh f + k) f
        placed k l = record { is_face = in_range; from = omega arith; upto = omega arith }

    side_in : (k : ℕ) → k < length (face_at mesh f) → first_side mesh f + k < side_count mesh
    side_in k l = let sp = spans mesh.faces f in_range in omega (arith, sp.0, sp.1)

    pub sides_inside : All (λ s. s < side_count mesh) (range_with_len (first_side mesh f) (length (face_at mesh f)))
    sides_inside k d l =
        let n = length-range_with_len (first_side mesh f) (length (face_at mesh f)) in
        let is = get_or-range_with_len (first_side mesh f) (length (face_at mesh f)) k d (omega arith) in
        let in' = side_in k (omega arith) in
        omega arith

    among_two : (k : ℕ) → k < length (face_at mesh f) →
        (eqb f (faces_of mesh (side_edge mesh (first_side mesh f + k))).0 || eqb f
        (faces_of mesh (side_edge mesh (first_side mesh f + k))).1) ≡ true
    among_two k l = let s = first_side mesh f + k in
        face_among s f (side_in k l) (record { is_face = in_range; from = omega arith; upto = omega arith })
        (side_edge mesh s) (edge_of_side mesh s (side_in k l))

    pub side_row : IsRow (dual (cells_of mesh)) f
        (map (side_link mesh) (range_with_len (first_side mesh f) (length (face_at mesh f))))
    side_row = record {
      edge_in = λ k l. let n = row_length in let lk : k < length (face_at mesh f) = omega arith in
          rw (row_at k lk) (edge_of_side mesh (first_side mesh f + k) (side_in k lk)).is_edge;
      neighbour_in = λ k l.
          let n = row_length in
          let lk : k < length (face_at mesh f) = omega arith in
          let e = side_edge mesh (first_side mesh f + k) in
          let two = two_faces_of mesh surface e (edge_of_side mesh (first_side mesh f + k) (side_in k lk)).is_edge in
          rw (row_at k lk) (below_both (faces_of mesh e).0 (faces_of mesh e).1 (face_count mesh) f
          (omega (arith, two.lesser_first, two.second_is_face)) two.second_is_face);
      joined = λ k l.
          let n = row_length in
          let lk : k < length (face_at mesh f) = omega arith in
          let e = side_edge mesh (first_side mesh f + k) in
          rw (row_at k lk) (other_joins (faces_of mesh e).0 (faces_of mesh e).1 f (among_two k lk));
      whole = λ e w l on.
          let n = row_length in
          let has : has_side (ends mesh e) (face_at mesh f) ≡ true = (two_faces_of mesh surface e l).no_other f
          ∙ joined_one (faces_of mesh e).0 (faces_of mesh e).1 f w on in
          let (s, of) = face_has_side mesh f (ends mesh e) in_range has in
          let own = of.its_face in
          let k = s - first_side mesh f in
          let here : first_side mesh f + k ≡ s = omega (arith, own.from) in
          let lk : k < length (face_at mesh f) = omega (arith, own.from, own.upto) in
          let edge : side_edge mesh (first_side mesh f + k) ≡ e = ap (side_edge mesh) here
          ∙ sym (side_edge_is mesh s e (record { is_edge = l; its_ends = sym of.its_pair })) in (
            k,
            omega arith,
            row_at k lk ∙ ap (λ (x : ℕ). (other_of (faces_of mesh x) f, x)) edge
                ∙ ap (λ (x : ℕ). (x, e)) (other_is (faces_of mesh e).0 (faces_of mesh e).1 f w on),
          );
    }
      where
        below_both : (a b n u : ℕ) → a < n → b < n → other_of (a, b) u < n
        below_both a b n u la lb =
            elim (cases_eq a u) [ inl same ↦ rw (eq-eqb a u same) lb | inr ne ↦ rw (ne_eqb a u ne) la ]

  -- no surface of few sides has many vertices or faces
  few_cells : mesh.vertices + face_count mesh ≤ edge_count mesh + 2
  few_cells = let m = independent_walks_are_few mesh surface [] (λ k d l. absurd (omega arith))
      (λ choice null. chosen_none choice [] (λ k l. absurd (omega arith))) in omega arith

  pub cells_few : side_count mesh < 2 ^ 30 → (mesh.vertices ≤ 2 ^ 29) × (edge_count mesh < 2 ^ 29)
      × (face_count mesh ≤ 2 ^ 29)
  cells_few few =
      let twice = sizes_twice mesh surface in
      let all = few_cells in
      let some = surface.some_face in
      let vertex = some_vertex mesh surface in
      (omega arith, omega arith, omega arith)
