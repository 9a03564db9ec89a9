-- The law: a surface opened along a trimmed cut is an opening in the sense of `IsOpening`.
use Rattle.surf_surfaces.proofs.Common.{Contains, ◌≡◌, ℕ, ◌+◌, ◌<◌, ◌≤◌, ◌↔◌, sym, refl, subst, ◌∙◌, List, length, get_or, arith, get_or_default, Contains-get_or, Joined, here, over, Mesh, face_count, edge_count, face_at, faces_with, HasCorner, IsSurface, IsDisc, IsOpening}
use Rattle.surf_opening.proofs.gluing.Joins.{joined_map}
use Rattle.surf_opening.specs.Side.{Side, IsPlace}
use Rattle.surf_opening.specs.Uncut.{Uncut, Copy, IsFaceTree, In, IsDualTree, IsTrimmed}
use Rattle.surf_opening.proofs.sides.SideWords.{IsSides, IsOpenedAlong}
use Rattle.surf_opening.specs.Opening.{corner_of, ShareUncutAt, IsOpenedBy}
use Rattle.surf_opening.proofs.sides.MeshSides.{in_mesh, is_sides, is_darts, face_is}
use Rattle.surf_opening.proofs.counts.Places.{places_counted}
use Rattle.surf_opening.proofs.sides.Edges.{edge_of}
use Rattle.surf_opening.proofs.counts.Counting.{pigeons, numbers_same}
use Rattle.surf_opening.proofs.counts.Count.{trimmed_count}
use Rattle.surf_opening.proofs.gluing.Tree.{at_in, in_at, tree_one, in_tree_has_side}
use Rattle.surf_opening.proofs.gluing.Trim.{IsOpen, trimmed_is_open, trimmed_joined, trimmed_has_cut}
use Rattle.surf_opening.proofs.openings.Opened.{opened_mesh, opened_is_mesh, one_fan, connected, origin_at, copy_below, copies_counted}
use Rattle.surf_opening.proofs.openings.DiscLaw.{one_or_two, one_border, some_border, edges_counted}

module _ {mesh : Mesh} (surface : IsSurface mesh) where
  pub surface_sides : IsSides (Side mesh)
  surface_sides = is_sides mesh surface.is_mesh (λ p f h. let e = edge_of mesh f p h in
      subst (λ p. length (faces_with mesh p) ≡ 2) e.2 (surface.two_faces e.0 e.1))

  pub face_side : (f : ℕ) → f < face_count mesh → (v : ℕ) × (w : ℕ) × Side mesh f v w
  face_side f h =
      let large : 3 ≤ length (face_at mesh f) = (face_is mesh surface.is_mesh f h).large in
      let x : ℕ × ℕ = (f, 0) in
      let darts = is_darts mesh surface.is_mesh in
      (_, _, darts.side x (h, omega arith))

  -- a tree that has every face has as many as the mesh
  pub tree_length : (faces : List ℕ) (uncut : List (ℕ × ℕ)) → IsFaceTree (Side mesh) faces uncut →
      ((f v w : ℕ) → Side mesh f v w → In faces f) → length faces ≡ face_count mesh
  tree_length faces uncut tree all =
      let most : length faces ≤ face_count mesh = pigeons (length faces) (face_count mesh) (λ i f. get_or faces i 0 ≡ f)
      (λ i h. let s = in_tree_has_side surface_sides (get_or faces i 0) tree (at_in surface_sides faces i h) in
      (get_or faces i 0, in_mesh mesh s.2, refl))
      (λ i j f h g a b. tree_one surface_sides i j tree h g (a ∙ sym b)) in
      let least : face_count mesh ≤ length faces =
      pigeons (face_count mesh) (length faces) (λ f i. get_or faces i 0 ≡ f)
      (λ f h. let s = face_side f h in in_at surface_sides faces f (all f s.0 s.1 s.2))
      (λ f g i h k a b. sym a ∙ b) in
      omega arith

  module _ {tree uncut : List (ℕ × ℕ)} {origins : List ℕ} {faces : List (List ℕ)} (dual : IsDualTree (Side mesh) tree)
      (trimmed : IsTrimmed (Side mesh) tree uncut) (opened : IsOpenedAlong mesh uncut origins faces) where
    is_open : IsOpen surface_sides uncut
    is_open = trimmed_is_open surface_sides dual trimmed

    pub is_disc : IsDisc (opened_mesh origins faces)
    is_disc = record {
      is_mesh = opened_is_mesh surface_sides opened surface.is_mesh;
      one_or_two = one_or_two surface_sides opened is_open;
      no_isolated = λ v h. let f = opened.every_copy v h in
          (f.0, (subst (λ n. f.0 < n) (sym opened.same_faces) f.1, f.2));
      one_fan = λ v h. one_fan surface_sides opened v;
      connected = λ f g h k.
          let s = face_side f (subst (λ n. f < n) opened.same_faces h) in
          let t = face_side g (subst (λ n. g < n) opened.same_faces k) in
          connected surface_sides opened (trimmed_joined surface_sides dual trimmed s.2 t.2);
      some_border = let r = trimmed_has_cut surface_sides dual trimmed in
          some_border surface_sides opened is_open r.0 r.1 r.2 r.3;
      one_border = one_border surface_sides opened is_open;
      characteristic_one =
          let count = trimmed_count surface_sides (is_darts mesh surface.is_mesh) (places_counted mesh) dual
          (face_count mesh) (tree_length dual.faces tree dual.grows dual.every_face) trimmed in
          let copies : count.copies ≡ length origins =
          numbers_same count.are_copies (copies_counted surface_sides opened) in
          let edges : count.edges ≡ edge_count (opened_mesh origins faces) =
          numbers_same count.are_edges (edges_counted surface_sides opened is_open) in
          let same : length faces ≡ face_count mesh = opened.same_faces in
          let sum : count.copies + face_count mesh ≡ count.edges + 1 = count.count in
          omega arith;
    }

    -- the law of the cut
    pub opening_law : IsOpening mesh origins faces
    opening_law = record {
      same_faces = opened.same_faces;
      same_corners = opened.same_corners;
      every_vertex = λ v h. vertex v (surface.no_isolated v h);
      is_disc = is_disc;
    }
      where
        vertex : (v : ℕ) → (f : ℕ) × HasCorner mesh f v → Contains origins v
        vertex v f =
            let i = f.1.1.0 in
            let is : IsPlace mesh (f.0, i) = (f.1.0, f.1.1.1) in
            let e : get_or origins (corner_of faces (f.0, i)) 0 ≡ v =
            origin_at surface_sides opened f.0 i is ∙ get_or_default (face_at mesh f.0) i 0 v f.1.1.1 ∙ f.1.1.2 in
            subst (λ v. Contains origins v) e
            (Contains-get_or origins (corner_of faces (f.0, i)) 0 (copy_below surface_sides opened f.0 i is))

-- an opening along all edges but some, however these are given
pub opened_along : {mesh : Mesh} {IsUncut : ℕ → ℕ → Type 0} {origins : List ℕ} {faces : List (List ℕ)}
    (uncut : List (ℕ × ℕ)) → ((v w : ℕ) → IsUncut v w ↔ Uncut uncut v w) →
    IsOpenedBy mesh IsUncut origins faces → IsOpenedAlong mesh uncut origins faces
opened_along {mesh} {IsUncut} uncut same opened = record {
  same_faces = opened.same_faces;
  same_corners = opened.same_corners;
  inside = opened.inside;
  every_copy = opened.every_copy;
  one_copy = λ x y h g. let k = opened.one_copy x y h g in (
    (λ e. ((k.0 e).0, there (corner_of mesh.faces x) (k.0 e).1)),
    (λ m. k.1 (m.0, back (corner_of mesh.faces x) m.1)),
  );
}
  where
    there : (v : ℕ) {f g : ℕ} → Joined (ShareUncutAt mesh IsUncut v) f g → Copy (Side mesh) uncut v f g
    there v c = joined_map (λ x. x) (λ x y r. over (r.0, r.1, r.2, (same v r.0).0 r.3) here) c

    back : (v : ℕ) {f g : ℕ} → Copy (Side mesh) uncut v f g → Joined (ShareUncutAt mesh IsUncut v) f g
    back v c = joined_map (λ x. x) (λ x y r. over (r.0, r.1, r.2, (same v r.0).1 r.3) here) c

-- the law, with the uncut edges given by any predicate
pub opening_law_by : {mesh : Mesh} {IsUncut : ℕ → ℕ → Type 0} {tree uncut : List (ℕ × ℕ)} {origins : List ℕ}
    {faces : List (List ℕ)} → IsSurface mesh →
    IsDualTree (Side mesh) tree → IsTrimmed (Side mesh) tree uncut → ((v w : ℕ) → IsUncut v w ↔ Uncut uncut v w) →
    IsOpenedBy mesh IsUncut origins faces → IsOpening mesh origins faces
opening_law_by {uncut = uncut} surface dual trimmed same opened =
    opening_law surface dual trimmed (opened_along uncut same opened)
