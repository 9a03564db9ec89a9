-- A surface is a cell complex.
use Rattle.surf_surfaces.proofs.Common.{◌≡◌, ◌≢◌, ℕ, ◌<◌, ◌≤◌, Bool, true, false, ◌&&◌, ◌||◌, eqb, List, [], ◌∷◌, map, refl, sym, ap, ◌∙◌, arith, inl, inr, Contains, AllByRecursion, eqb-true, eq-eqb, cases_lt, lt-ltb, le-ltb, or_cases, or_left, or_right, and_parts, and_from, xor, odd, eqb_comm, xor_equal, odd_below-same, Mesh, IsMesh, pair, pair_of, pair_eq, edges, among, edge_count, face_at, ends, has_side, touches, faces_of, Share, IsSurface, place_of, edge_number}
use Rattle.surf_surfaces.proofs.meshes.JoinedLaws.{joined_closed}
use Rattle.surf_surfaces.proofs.meshes.PairLaws.{pair_eq-same, pair_same}
use Rattle.surf_surfaces.proofs.meshes.EdgeLaws.{place_of-among, place_of-ends, ends-eq, among-edges, among-contains, list_any_from}
use Rattle.surf_surfaces.proofs.meshes.SurfaceLaws.{two_faces_of, one_of_two, edge_below}
use Rattle.surf_surfaces.proofs.walks.EvenLaws.{touches-xor, face_edges_even}
use Rattle.surf_surfaces.proofs.walks.WalkLaws.{IsStep, vertices_linked}
use Rattle.surf_surfaces.specs.Cells.{SurfacesAreCells}

-- whether exactly one of the two numbers is in the set
abbrev parts : (ℕ → Bool) → ℕ × ℕ → Bool
parts set p = xor (set p.0) (set p.1)

pub ends_below : (mesh : Mesh) → IsMesh mesh → (e : ℕ) → e < edge_count mesh → ((ends mesh e).0 < (ends mesh e).1)
    × ((ends mesh e).1 < mesh.vertices)
ends_below mesh m e in' =
    edge_below mesh m (ends mesh e)
    (list_any_from (pair_eq (ends mesh e)) (edges mesh) (0, 0) e in' (pair_eq-same (ends mesh e) (ends mesh e) refl))

-- the ends of a step are alike where those of all edges are
step_alike : (mesh : Mesh) (set : ℕ → Bool) → ((e : ℕ) → e < edge_count mesh → parts set (ends mesh e) ≡ false) →
    (u v : ℕ) → IsStep mesh u v → set u ≡ set v
step_alike mesh set closed u v s =
    let at = place_of-among (pair u v) (edges mesh) (0, 0) s.2 in
    let same : parts set (pair u v) ≡ false =
    sym (ap (parts set) at.1) ∙ closed (place_of (pair u v) (edges mesh)) at.0 in
    turned u v same
  where
    turned : (u v : ℕ) → parts set (pair u v) ≡ false → set u ≡ set v
    turned u v h = elim (cases_lt u v) [
      | inl lt ↦ xor_equal (set u) (set v) (rw (lt-ltb u v lt) at h)
      | inr ge ↦ sym (xor_equal (set v) (set u) (rw (le-ltb u v ge) at h))
    ]

-- so are two faces that share an edge
share_alike : (mesh : Mesh) → IsSurface mesh → (set : ℕ → Bool) →
    ((e : ℕ) → e < edge_count mesh → parts set (faces_of mesh e) ≡ false) → (f g : ℕ) → Share mesh f g → set f ≡ set g
share_alike mesh surface set closed f g s =
    let p = s.0 in
    let is_edge : among p (edges mesh) ≡ true =
    among-edges mesh p ∙ list_any_from (has_side p) mesh.faces [] f s.1.0 s.1.1 in
    let e = place_of p (edges mesh) in
    let at = place_of-among p (edges mesh) (0, 0) is_edge in
    let two = two_faces_of mesh surface e at.0 in
    let a = (faces_of mesh e).0 in
    let b = (faces_of mesh e).1 in
    let alike : set a ≡ set b = xor_equal (set a) (set b) (closed e at.0) in
    let one : (h : ℕ) → has_side p (face_at mesh h) ≡ true → set h ≡ set a = λ h has.
    elim (or_cases (eqb h a) (eqb h b) (sym (two.no_other h) ∙ ap (λ q. has_side q (face_at mesh h)) at.1 ∙ has)) [
      | inl is ↦ ap set (eqb-true h a is)
      | inr is ↦ ap set (eqb-true h b is) ∙ sym alike
    ] in
    one f s.1.1 ∙ sym (one g s.2.1)

pub steps_by_number : (mesh : Mesh) (e : ℕ) → e < edge_count mesh → (ss : List (ℕ × ℕ)) →
    AllByRecursion (λ s. Contains (edges mesh) (pair_of s)) ss →
    odd (map (λ s. pair_eq (ends mesh e) (pair_of s)) ss) ≡ odd (map (λ s. eqb (edge_number mesh s) e) ss)
steps_by_number mesh e in' [] h = refl
steps_by_number mesh e in' (s ∷ ss) h =
    let here = ends-eq mesh (pair_of s) e (among-contains (pair_of s) (edges mesh) h.0) in' ∙ eqb_comm e
    (edge_number mesh s) in
    ap (λ b. xor b (odd (map (λ t. pair_eq (ends mesh e) (pair_of t)) ss))) here
    ∙ ap (xor (eqb (edge_number mesh s) e)) (steps_by_number mesh e in' ss h.1)

-- an edge that joins two vertices has them as its ends
pub joins_from : (p : ℕ × ℕ) (a b : ℕ) → p ≡ pair a b → ((eqb p.0 a && eqb p.1 b) || (eqb p.0 b && eqb p.1 a)) ≡ true
joins_from p a b e = elim (cases_lt a b) [
  | inl lt ↦ let is : p ≡ (a, b) = e ∙ rw (lt-ltb a b lt) in
      rw is (or_left (eqb a a && eqb b b) (eqb a b && eqb b a)
      (and_from (eqb a a) (eqb b b) (eq-eqb a a refl) (eq-eqb b b refl)))
  | inr ge ↦ let is : p ≡ (b, a) = e ∙ rw (le-ltb a b ge) in
      rw is (or_right (eqb b a && eqb a b) (eqb b b && eqb a a)
      (and_from (eqb b b) (eqb a a) (eq-eqb b b refl) (eq-eqb a a refl)))
]

pub joins_is : (p : ℕ × ℕ) (a b : ℕ) → p.0 < p.1 → ((eqb p.0 a && eqb p.1 b) || (eqb p.0 b && eqb p.1 a)) ≡ true →
    p ≡ pair a b
joins_is p a b lt h = elim (or_cases (eqb p.0 a && eqb p.1 b) (eqb p.0 b && eqb p.1 a) h) [
  | inl x ↦
      let parts = and_parts (eqb p.0 a) (eqb p.1 b) x in
      let first : p.0 ≡ a = eqb-true p.0 a parts.0 in
      let second : p.1 ≡ b = eqb-true p.1 b parts.1 in
      let below : a < b = omega arith in
      rw (lt-ltb a b below) (pair_same p (a, b) first second)
  | inr x ↦
      let parts = and_parts (eqb p.0 b) (eqb p.1 a) x in
      let first : p.0 ≡ b = eqb-true p.0 b parts.0 in
      let second : p.1 ≡ a = eqb-true p.1 a parts.1 in
      let above : b ≤ a = omega arith in
      rw (le-ltb a b above) (pair_same p (b, a) first second)
]

-- a face is one of the two of an edge where it has it as a side
pub face_sides : (mesh : Mesh) → IsSurface mesh → (f e : ℕ) → e < edge_count mesh →
    xor (eqb (faces_of mesh e).0 f) (eqb (faces_of mesh e).1 f) ≡ has_side (ends mesh e) (face_at mesh f)
face_sides mesh surface f e in' =
    let two = two_faces_of mesh surface e in' in
    let a = (faces_of mesh e).0 in
    let b = (faces_of mesh e).1 in
    let apart : a ≢ b = λ same. omega (arith, two.lesser_first) in
    ap (λ t. xor t (eqb b f)) (eqb_comm a f) ∙ ap (xor (eqb f a)) (eqb_comm b f)
    ∙ sym (two.no_other f ∙ one_of_two f a b apart)

pub surfaces_are_cells : SurfacesAreCells
surfaces_are_cells mesh surface = record {
  complex = record {
    primal_ends = λ e in'. let below = ends_below mesh surface.is_mesh e in' in
        (omega (arith, below.0, below.1), below.1);
    dual_ends = λ e in'. let two = two_faces_of mesh surface e in' in
        (omega (arith, two.lesser_first, two.second_is_face), two.second_is_face);
    primal_connected = λ set closed u v a b. joined_closed (λ w. set u ≡ set w)
        (λ x y s h. h ∙ step_alike mesh set closed x y s) (vertices_linked mesh surface u v a b) refl;
    dual_connected = λ set closed f g a b. joined_closed (λ h. set f ≡ set h)
        (λ x y s h. h ∙ share_alike mesh surface set closed x y s) (surface.connected f g a b) refl;
    corners_even = λ v f v_in in'.
        odd_below-same (edge_count mesh)
        (λ e. parts (λ u. eqb u v) (ends mesh e) && parts (λ g. eqb g f) (faces_of mesh e))
        (λ e. touches v (ends mesh e) && has_side (ends mesh e) (face_at mesh f)) (corner v f)
        ∙ face_edges_even mesh surface.is_mesh v f in';
  };
  ends_differ = λ e in' same. let below = ends_below mesh surface.is_mesh e in' in omega (arith, below.0);
  faces_differ = λ e in' same. let two = two_faces_of mesh surface e in' in omega (arith, two.lesser_first);
  one_edge = λ a b e h x y is_e is_h.
      let same : ends mesh e ≡ ends mesh h =
      joins_is (ends mesh e) a b (ends_below mesh surface.is_mesh e x).0 is_e ∙ sym
      (joins_is (ends mesh h) a b (ends_below mesh surface.is_mesh h y).0 is_h) in
      sym (place_of-ends mesh e x) ∙ ap (λ p. place_of p (edges mesh)) same ∙ place_of-ends mesh h y;
}
  where
    corner : (v f e : ℕ) → e < edge_count mesh →
        (parts (λ u. eqb u v) (ends mesh e) && parts (λ g. eqb g f) (faces_of mesh e))
        ≡ (touches v (ends mesh e) && has_side (ends mesh e) (face_at mesh f))
    corner v f e in' =
        let below = ends_below mesh surface.is_mesh e in' in
        let moves : (ends mesh e).0 ≢ (ends mesh e).1 = λ same. omega (arith, below.0) in
        ap (λ t. t && xor (eqb (faces_of mesh e).0 f) (eqb (faces_of mesh e).1 f))
        (sym (touches-xor v (ends mesh e) moves))
        ∙ ap (λ t. touches v (ends mesh e) && t) (face_sides mesh surface f e in')

-- the ends of an edge are vertices
pub ends_in : (mesh : Mesh) → IsSurface mesh → (e : ℕ) → e < edge_count mesh → ((ends mesh e).0 < mesh.vertices) × ((ends mesh e).1 < mesh.vertices)
ends_in mesh surface e l = (surfaces_are_cells mesh surface).complex.primal_ends e l
