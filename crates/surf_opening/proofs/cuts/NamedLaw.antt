-- Where the characteristic is 2, trimming by the greatest leaf down to two edges leaves the first two of the named
-- path.
use Rattle.surf_surfaces.proofs.Common.{Contains, ◌≡◌, ℕ, ◌+◌, ◌<◌, subst, ◌∙◌, List, length, get_or, get_or_default, here, over, Mesh, face_count, edge_count, face_at, IsSurface, HasCorner, after, All-get_or, Contains-get_or}
use Rattle.surf_opening.specs.Side.{Side, IsPlace}
use Rattle.surf_opening.specs.Uncut.{IsDualTree, NoMoreThan}
use Rattle.surf_opening.proofs.sides.SideWords.{IsOneFan}
use Rattle.surf_opening.specs.Opening.{corner_of}
use Rattle.surf_opening.specs.Named.{IsTrimmedByGreatest, IsCutPath, IsNamed, AreTheCut}
use Rattle.surf_opening.proofs.gluing.Joins.{joined_map}
use Rattle.surf_opening.proofs.gluing.Rings.{on_corner}
use Rattle.surf_opening.proofs.sides.MeshSides.{face_is, in_mesh, is_darts, on_face}
use Rattle.surf_opening.proofs.cuts.NamedEdges.{named_edges, named_are_cut}

module _ {mesh : Mesh} (surface : IsSurface mesh) where
  corner_place : (f v w : ℕ) → Side mesh f v w → (i : ℕ) × (i < length (face_at mesh f))
      × (get_or (face_at mesh f) i 0 ≡ v)
  corner_place f v w s = let face = face_is mesh surface.is_mesh f (in_mesh mesh s) in
      on_corner (face_at mesh f) face.large face.distinct (on_face mesh s)

  has_corner : (f v w : ℕ) → Side mesh f v w → HasCorner mesh f v
  has_corner f v w s = let c = corner_place f v w s in
      (in_mesh mesh s, subst (λ v. Contains (face_at mesh f) v) c.2 (Contains-get_or (face_at mesh f) c.0 0 c.1))

  pub surface_fan : (v : ℕ) → v < mesh.vertices → IsOneFan (Side mesh) v
  surface_fan v h f g w y s t =
      joined_map (λ x. x) (λ x y r. over (r.0, record { has = r.1 }, record { has = r.2 }) here)
      (surface.one_fan v h f g (has_corner f v w s) (has_corner g v y t))

  -- a corner at each vertex, and the vertex of each corner
  pub vertex_place : (v : ℕ) → v < mesh.vertices → (x : ℕ × ℕ) × IsPlace mesh x × (corner_of mesh.faces x ≡ v)
  vertex_place v h =
      let f = surface.no_isolated v h in
      let i = f.1.1.0 in
      ((f.0, i), (f.1.0, f.1.1.1), get_or_default (face_at mesh f.0) i 0 v f.1.1.1 ∙ f.1.1.2)

  pub place_below : (x : ℕ × ℕ) → IsPlace mesh x → corner_of mesh.faces x < mesh.vertices
  place_below x h = All-get_or (λ v. v < mesh.vertices) (face_at mesh x.0) x.1 0 h.1
      (face_is mesh surface.is_mesh x.0 h.0).inside

  pub vertex_side : (v : ℕ) → v < mesh.vertices → (f : ℕ) × (w : ℕ) × Side mesh f v w
  vertex_side v h =
      let f = surface.no_isolated v h in
      let i = f.1.1.0 in
      let is : IsPlace mesh (f.0, i) = (f.1.0, f.1.1.1) in
      let e : get_or (face_at mesh f.0) i 0 ≡ v = get_or_default (face_at mesh f.0) i 0 v f.1.1.1 ∙ f.1.1.2 in
      let w = get_or (face_at mesh f.0) (after (length (face_at mesh f.0)) i) 0 in
      (f.0, w, subst (λ v. Side mesh f.0 v w) e ((is_darts mesh surface.is_mesh).side (f.0, i) is))

  pub end_below : (f v w : ℕ) → Side mesh f v w → v < mesh.vertices
  end_below f v w s =
      let face = face_is mesh surface.is_mesh f (in_mesh mesh s) in
      let c = corner_place f v w s in
      subst (λ v. v < mesh.vertices) c.2 (All-get_or (λ v. v < mesh.vertices) (face_at mesh f) c.0 0 c.1 face.inside)

  pub named_law : {tree uncut : List (ℕ × ℕ)} → IsDualTree (Side mesh) tree →
      mesh.vertices + face_count mesh ≡ edge_count mesh + 2 →
      (k : ℕ) (at : ℕ → ℕ) → IsCutPath (Side mesh) tree k at → IsNamed k at →
      IsTrimmedByGreatest (Side mesh) tree uncut →
      (x y z t : ℕ) → NoMoreThan (Side mesh) uncut x y z t → AreTheCut (Side mesh) uncut (at 0) (at 1) (at 2)
  named_law dual flat k at path named trimmed x y z t few =
      let both = named_are_cut surface dual flat surface_fan vertex_side end_below k at named path trimmed in
      record {
        first = both.0;
        second = both.1;
        no_more = named_edges surface dual flat surface_fan vertex_side end_below k at named path trimmed x y z t few;
      }
