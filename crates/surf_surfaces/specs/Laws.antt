-- What holds of every mesh, face and surface.
use Rattle.std.specs.Prelude.{◌≡◌, ◌≢◌, ℕ, ◌*◌, ◌<◌, ◌↔◌, ◌==◌, Bool, true, false, ◌&&◌, List, ◌∷◌, ◌++◌, length, map, All}
use Rattle.std.specs.Prelude.{AllPairs, Contains, ◌⊎◌, count_by, sum_by}
use Rattle.surf_z2.specs.Parity.{xor, odd_below, count_below, sum_below}
use Rattle.surf_z2.specs.Space.{Chain, chains, difference, sum_of}
use Rattle.surf_surfaces.specs.Mesh.{Mesh, IsMesh, IsFace, sides, pair_of, pair_lt, edges}
use Rattle.surf_surfaces.specs.Surface.{face_count, edge_count, face_at, ends, touches, borders, faces_with, faces_of}
use Rattle.surf_surfaces.specs.Surface.{HasCorner, HasEdge, IsSurface}
use Rattle.surf_surfaces.specs.Walk.{IsClosed, edge_number, last, parity}
use Rattle.surf_surfaces.specs.Homology.{boundary, IsBoundary, total_parity}
use Rattle.surf_surfaces.specs.Distance.{LeadsFrom}

-- Edges are strictly in order, by first end and then by second.
abbrev pub EdgesAreInOrder : Type 0
EdgesAreInOrder = (mesh : Mesh) → AllPairs (λ p q. pair_lt p q ≡ true) (edges mesh)

-- A pair is an edge exactly where it is a side of some face.
abbrev pub EdgesAreSides : Type 0
EdgesAreSides = (mesh : Mesh) (p : ℕ × ℕ) → Contains (edges mesh) p ↔ ((f : ℕ) × HasEdge mesh f p)

-- The lesser end of an edge is its first, and both are vertices.
abbrev pub EdgesAreOrdered : Type 0
EdgesAreOrdered = (mesh : Mesh) → IsMesh mesh → All (λ p. (p.0 < p.1) × (p.1 < mesh.vertices)) (edges mesh)

-- No other list in order has exactly the sides of the faces.
abbrev pub EdgesAreDetermined : Type 0
EdgesAreDetermined =
    (mesh : Mesh) (pairs : List (ℕ × ℕ)) → AllPairs (λ p q. pair_lt p q ≡ true) pairs →
    ((p : ℕ × ℕ) → Contains pairs p ↔ ((f : ℕ) × HasEdge mesh f p)) → pairs ≡ edges mesh

-- Edges and their numbers are one to one.
pub record EdgesAreNumbered (mesh : Mesh) : Type 0 where
  pub number_of_ends : (e : ℕ) → e < edge_count mesh → edge_number mesh (ends mesh e) ≡ e
  pub number_below : (s : ℕ × ℕ) → Contains (edges mesh) (pair_of s) → edge_number mesh s < edge_count mesh
  pub ends_of_number : (s : ℕ × ℕ) → Contains (edges mesh) (pair_of s) →
      ends mesh (edge_number mesh s) ≡ pair_of s

-- The faces that are listed for a pair are strictly in order, and are exactly those that have it as
-- an edge.
pub record FacesAreListed (mesh : Mesh) (p : ℕ × ℕ) : Type 0 where
  pub in_order : AllPairs (λ f g. f < g) (faces_with mesh p)
  pub exactly : (f : ℕ) → Contains (faces_with mesh p) f ↔ HasEdge mesh f p

-- the two faces of an edge of a surface
pub record AreTheTwoFaces (mesh : Mesh) (p faces : ℕ × ℕ) : Type 0 where
  pub lesser_first : faces.0 < faces.1
  pub first_has : HasEdge mesh faces.0 p
  pub second_has : HasEdge mesh faces.1 p
  pub no_other : (f : ℕ) → HasEdge mesh f p → (f ≡ faces.0) ⊎ (f ≡ faces.1)

-- Each edge of a surface has two faces and no third.
abbrev pub EdgesHaveTwoFaces : Type 0
EdgesHaveTwoFaces = (mesh : Mesh) → IsSurface mesh → (e : ℕ) → e < edge_count mesh →
    AreTheTwoFaces mesh (ends mesh e) (faces_of mesh e)

-- No side of a face is another of its sides, in either direction.
abbrev pub SidesDiffer : Type 0
SidesDiffer = (n : ℕ) (face : List ℕ) → IsFace n face → AllPairs (λ s t. pair_of s ≢ pair_of t) (sides face)

-- Each corner is on two sides.
abbrev pub CornersHaveTwoSides : Type 0
CornersHaveTwoSides = (n v : ℕ) (face : List ℕ) → IsFace n face → Contains face v →
    count_by (touches v) (sides face) ≡ 2

-- A face of a surface has two edges at each of its corners, and none at another vertex.
pub record FaceMeetsVertices (mesh : Mesh) : Type 0 where
  pub corner : (v f : ℕ) → HasCorner mesh f v →
      count_below (edge_count mesh) (λ e. borders mesh f e && touches v (ends mesh e)) ≡ 2
  pub elsewhere : (v f : ℕ) → f < face_count mesh → (HasCorner mesh f v → ⊥) →
      count_below (edge_count mesh) (λ e. borders mesh f e && touches v (ends mesh e)) ≡ 0
  pub even : (v f : ℕ) → f < face_count mesh →
      odd_below (edge_count mesh) (λ e. touches v (ends mesh e) && borders mesh f e) ≡ false

-- Any two vertices are joined by a walk.
abbrev pub VerticesAreJoined : Type 0
VerticesAreJoined = (mesh : Mesh) → IsSurface mesh → (u v : ℕ) → u < mesh.vertices → v < mesh.vertices →
    (walk : List ℕ) × LeadsFrom mesh u v walk

-- Of the edges that a closed walk runs an odd number of times, an even number is at each vertex.
abbrev pub ClosedWalksAreEven : Type 0
ClosedWalksAreEven =
    (mesh : Mesh) → IsMesh mesh → (walk : List ℕ) → IsClosed mesh walk → (v : ℕ) →
    odd_below (edge_count mesh) (λ e. parity mesh walk e && touches v (ends mesh e)) ≡ false

-- Of the edges of a boundary an even number is at each vertex.
abbrev pub BoundariesAreEven : Type 0
BoundariesAreEven =
    (mesh : Mesh) → IsSurface mesh → (faces : ℕ → Bool) (v : ℕ) →
    odd_below (edge_count mesh) (λ e. boundary mesh faces e && touches v (ends mesh e)) ≡ false

-- The sizes of the faces add up to twice the number of edges.
abbrev pub SizesAreTwiceEdges : Type 0
SizesAreTwiceEdges = (mesh : Mesh) → IsSurface mesh → sum_by length mesh.faces ≡ 2 * edge_count mesh

-- Each vertex has as many edges as faces have corners at it.
abbrev pub EdgesAreAsManyAsCorners : Type 0
EdgesAreAsManyAsCorners =
    (mesh : Mesh) → IsSurface mesh → (v : ℕ) → count_below (edge_count mesh) (λ e. touches v (ends mesh e))
    ≡ sum_below (face_count mesh) (λ f. count_by (λ w. w == v) (face_at mesh f))

-- A set of faces with no edge in its boundary has all faces or none.
abbrev pub OnlyAllOrNoneIsClosed : Type 0
OnlyAllOrNoneIsClosed =
    (mesh : Mesh) → IsSurface mesh → (faces : ℕ → Bool) →
    ((e : ℕ) → e < edge_count mesh → boundary mesh faces e ≡ false) →
    (f g : ℕ) → f < face_count mesh → g < face_count mesh → faces f ≡ faces g

-- The symmetric difference of boundaries is a boundary.
abbrev pub BoundariesAdd : Type 0
BoundariesAdd = (mesh : Mesh) (a b : Chain) → IsBoundary mesh a → IsBoundary mesh b →
    IsBoundary mesh (difference a b)

-- The parity of one walk after another is the symmetric difference of theirs.
abbrev pub ParitiesAdd : Type 0
ParitiesAdd = (mesh : Mesh) (u : ℕ) (walk more : List ℕ) (e : ℕ) → parity mesh (u ∷ (walk ++ more)) e
    ≡ xor (parity mesh (u ∷ walk) e) (parity mesh (last (u ∷ walk) ∷ more) e)

-- The edges that walks together run an odd number of times are the sum of their parities.
abbrev pub TotalsAreSums : Type 0
TotalsAreSums = (mesh : Mesh) (walks : List (List ℕ)) (e : ℕ) →
    total_parity mesh walks e ≡ sum_of chains (map (parity mesh) walks) e
