-- The laws, as they are stated.
use Rattle.surf_surfaces.proofs.Common.{◌≡◌, ◌≢◌, ℕ, zero, suc, ◌<◌, true, ◌&&◌, cond, eqb, List, [], ◌∷◌, length, get_or, map, refl, sym, ap, ◌∙◌, arith, inl, inr, AllPairs, list_any, eq-eqb, eqb-true, lt-ltb, or_left, or_right, or_cases, true≢false, count_below, Mesh, IsMesh, sides, pair_of, pair_eq, edges, among, edge_count, face_at, ends, has_side, touches, borders, faces_of, HasEdge, IsSurface, place_of}
use Rattle.surf_z2.proofs.ParityLaws.{same_tests, odd_below-same}
use Rattle.surf_surfaces.proofs.meshes.PairLaws.{pair_eq-same}
use Rattle.surf_surfaces.proofs.meshes.EdgeLaws.{edges-rise, rising_at, edges_unique, among-edges, among-contains, contains_from_among, list_any_at, list_any_from, place_of-ends, place_of-among}
use Rattle.surf_surfaces.proofs.meshes.FaceLaws.{Once, face_once}
use Rattle.surf_surfaces.proofs.meshes.SurfaceLaws.{two_faces_of, has_side-face, faces_with-rise, faces_with-contains, edge_below}
use Rattle.surf_surfaces.proofs.walks.EvenLaws.{face_edges_even, closed_walk_even, boundary_even}
use Rattle.surf_z2.proofs.Sums.{sum_below-same}
use Rattle.surf_surfaces.proofs.meshes.CountLaws.{degree, two_sides_at, two_edges_at, no_edge_at, sizes_twice}
use Rattle.surf_surfaces.proofs.walks.WalkLaws.{vertices_joined}
use Rattle.surf_surfaces.specs.Laws.{EdgesAreInOrder, EdgesAreSides, EdgesAreOrdered, EdgesAreDetermined, EdgesAreNumbered, FacesAreListed, EdgesHaveTwoFaces, SidesDiffer, CornersHaveTwoSides, FaceMeetsVertices, VerticesAreJoined, ClosedWalksAreEven, BoundariesAreEven, SizesAreTwiceEdges, EdgesAreAsManyAsCorners}

pub edges_are_in_order : EdgesAreInOrder
edges_are_in_order mesh = rising_at (edges mesh) (edges-rise mesh)

some_face : (mesh : Mesh) (p : ℕ × ℕ) → list_any (has_side p) mesh.faces ≡ true → (f : ℕ) × HasEdge mesh f p
some_face mesh p h = let r = list_any_at (has_side p) mesh.faces [] h in (r.0, (r.1, r.2))

pub edges_are_sides : EdgesAreSides
edges_are_sides mesh p = (
  (λ c. some_face mesh p (sym (among-edges mesh p) ∙ among-contains p (edges mesh) c)),
  (λ h. contains_from_among p (edges mesh)
      (among-edges mesh p ∙ list_any_from (has_side p) mesh.faces [] h.0 h.1.0 h.1.1)),
)

pub edges_are_ordered : EdgesAreOrdered
edges_are_ordered mesh m =
    λ k d in'. edge_below mesh m (get_or (edges mesh) k d)
    (list_any_from (pair_eq (get_or (edges mesh) k d)) (edges mesh) d k in'
    (pair_eq-same (get_or (edges mesh) k d) (get_or (edges mesh) k d) refl))

pub edges_are_determined : EdgesAreDetermined
edges_are_determined mesh pairs rises exactly =
    edges_unique mesh pairs rises (λ p. same_tests (among p pairs) (list_any (has_side p) mesh.faces)
    (λ has. let h = (exactly p).0 (contains_from_among p pairs has) in
    list_any_from (has_side p) mesh.faces [] h.0 h.1.0 h.1.1)
    (λ has. among-contains p pairs ((exactly p).1 (some_face mesh p has))))

ordered_pair : (p : ℕ × ℕ) → p.0 < p.1 → pair_of p ≡ p
ordered_pair p h = rw (lt-ltb p.0 p.1 h)

pub edges_are_numbered : (mesh : Mesh) → IsMesh mesh → EdgesAreNumbered mesh
edges_are_numbered mesh m = record {
  number_of_ends = λ e in'. ap (λ p. place_of p (edges mesh))
      (ordered_pair (ends mesh e) (edges_are_ordered mesh m e (0, 0) in').0) ∙ place_of-ends mesh e in';
  number_below = λ s has.
      (place_of-among (pair_of s) (edges mesh) (0, 0) (among-contains (pair_of s) (edges mesh) has)).0;
  ends_of_number = λ s has.
      (place_of-among (pair_of s) (edges mesh) (0, 0) (among-contains (pair_of s) (edges mesh) has)).1;
}

pub faces_are_listed : (mesh : Mesh) (p : ℕ × ℕ) → FacesAreListed mesh p
faces_are_listed mesh p = record { in_order = faces_with-rise mesh p; exactly = faces_with-contains mesh p }

pub edges_have_two_faces : EdgesHaveTwoFaces
edges_have_two_faces mesh surface e in' =
    let two = two_faces_of mesh surface e in' in
    let p = ends mesh e in
    let a = (faces_of mesh e).0 in
    let b = (faces_of mesh e).1 in
    let has : (f : ℕ) → has_side p (face_at mesh f) ≡ true → HasEdge mesh f p = λ f h. (has_side-face mesh p f h, h) in
    record {
      lesser_first = two.lesser_first;
      first_has = has a (two.no_other a ∙ or_left (eqb a a) (eqb a b) (eq-eqb a a refl));
      second_has = has b (two.no_other b ∙ or_right (eqb b a) (eqb b b) (eq-eqb b b refl));
      no_other = λ f h. elim (or_cases (eqb f a) (eqb f b) (sym (two.no_other f) ∙ h.1))
          [ inl is ↦ inl (eqb-true f a is) | inr is ↦ inr (eqb-true f b is) ];
    }

once_differ : (ss : List (ℕ × ℕ)) → Once (map pair_of ss) → AllPairs (λ s t. pair_of s ≢ pair_of t) ss
once_differ [] h i j d lt in' = absurd (omega arith)
once_differ (s ∷ ss) h i zero d lt in' = absurd (omega arith)
once_differ (s ∷ ss) h zero (suc j) d lt in' = λ e. true≢false (sym (in_map (pair_of s) ss j d (omega arith) e) ∙ h.0)
  where
    in_map : (p : ℕ × ℕ) (ts : List (ℕ × ℕ)) (k : ℕ) (d : ℕ × ℕ) → k < length ts → p ≡ pair_of (get_or ts k d) →
        among p (map pair_of ts) ≡ true
    in_map p [] k d in' e = absurd (omega arith)
    in_map p (t ∷ ts) zero d in' e =
        or_left (pair_eq p (pair_of t)) (among p (map pair_of ts)) (pair_eq-same p (pair_of t) e)
    in_map p (t ∷ ts) (suc k) d in' e =
        or_right (pair_eq p (pair_of t)) (among p (map pair_of ts)) (in_map p ts k d (omega arith) e)
once_differ (s ∷ ss) h (suc i) (suc j) d lt in' = once_differ ss h.1 i j d (omega arith) (omega arith)

pub sides_differ : SidesDiffer
sides_differ n face h = once_differ (sides face) (face_once n face h)

pub corners_have_two_sides : CornersHaveTwoSides
corners_have_two_sides = two_sides_at

borders_is : (mesh : Mesh) → IsSurface mesh → (f e : ℕ) → e < edge_count mesh →
    borders mesh f e ≡ has_side (ends mesh e) (face_at mesh f)
borders_is mesh surface f e in' = let two = two_faces_of mesh surface e in' in sym (two.no_other f)

pub face_meets_vertices : (mesh : Mesh) → IsSurface mesh → FaceMeetsVertices mesh
face_meets_vertices mesh surface = record {
  corner = λ v f c. same_count v f ∙ two_edges_at mesh surface.is_mesh v f c;
  elsewhere = λ v f in' absent. same_count v f ∙ no_edge_at mesh surface.is_mesh v f in' (λ c. absent (in', c));
  even = λ v f in'. odd_below-same (edge_count mesh) (λ e. touches v (ends mesh e) && borders mesh f e)
      (λ e. touches v (ends mesh e) && has_side (ends mesh e) (face_at mesh f))
      (λ e h. ap (λ b. touches v (ends mesh e) && b) (borders_is mesh surface f e h)) ∙ face_edges_even mesh
      surface.is_mesh v f in';
}
  where
    same_count : (v f : ℕ) → count_below (edge_count mesh) (λ e. borders mesh f e && touches v (ends mesh e))
        ≡ count_below (edge_count mesh) (λ e. has_side (ends mesh e) (face_at mesh f) && touches v (ends mesh e))
    same_count v f = sum_below-same (edge_count mesh) (λ e. cond (borders mesh f e && touches v (ends mesh e)) 1 0)
        (λ e. cond (has_side (ends mesh e) (face_at mesh f) && touches v (ends mesh e)) 1 0)
        (λ e h. ap (λ b. cond (b && touches v (ends mesh e)) 1 0) (borders_is mesh surface f e h))

pub vertices_are_joined : VerticesAreJoined
vertices_are_joined = vertices_joined

pub closed_walks_are_even : ClosedWalksAreEven
closed_walks_are_even = closed_walk_even

pub boundaries_are_even : BoundariesAreEven
boundaries_are_even = boundary_even

pub sizes_are_twice_edges : SizesAreTwiceEdges
sizes_are_twice_edges = sizes_twice

pub edges_are_as_many_as_corners : EdgesAreAsManyAsCorners
edges_are_as_many_as_corners = degree
