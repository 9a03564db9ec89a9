-- Cuts through given vertices: the vertices that pass a test, the points, may be ends of the cut, and no others.
use Rattle.std.specs.Prelude.{◌≡◌, ◌≢◌, ℕ, ◌<◌, ◌≤◌, ◌⊎◌, Bool, IsTrue, IsFalse, List, length, slice_index}
use Rattle.surf_z2.specs.Space.{Chain}
use Rattle.surf_graphs.specs.Growth.{between}
use Rattle.surf_graphs.specs.Trees.{Tree}
use Rattle.surf_surfaces.specs.Disc.{IsBorderEdge}
use Rattle.surf_surfaces.specs.Mesh.{Mesh}
use Rattle.surf_surfaces.specs.Surface.{edge_count, ends, touches}
use Rattle.surf_surfaces.specs.Degrees.{degree_in}
use Rattle.surf_opening.specs.ChosenCut.{AreInOrder, full_cut, SameEdges, IsWithin, IsUncutEdge}
use Rattle.surf_opening.specs.Laws.{cut_count, without}
use Rattle.surf_opening.specs.Opening.{IsOpenedBy}

-- no vertex has exactly one edge of the set, but for points
abbrev pub HasEndsIn : Mesh → (ℕ → Bool) → Chain → Type 0
HasEndsIn mesh points cut = (v : ℕ) → v < mesh.vertices → IsFalse (points v) → degree_in mesh cut v ≢ 1

-- the largest of the sets of edges of the full cut in which no vertex but a point has exactly one edge: it has
-- all edges of each
pub record IsCutThrough (mesh : Mesh) (full : Chain) (points : ℕ → Bool) (cut : Chain) : Type 0 where
  pub within : IsWithin mesh cut full
  pub ends_in : HasEndsIn mesh points cut
  pub largest : (other : Chain) → IsWithin mesh other full → HasEndsIn mesh points other → IsWithin mesh other cut

-- edge e is the only one of the set at p, a vertex that is no point
pub record IsLooseAt (mesh : Mesh) (points : ℕ → Bool) (cut : Chain) (e p : ℕ) : Type 0 where
  pub is_edge : e < edge_count mesh
  pub is_cut : IsTrue (cut e)
  pub vertex : p < mesh.vertices
  pub no_point : IsFalse (points p)
  pub its_end : IsTrue (touches p (ends mesh e))
  pub only : degree_in mesh cut p ≡ 1

-- one set comes from the other by taking back, one by one, the only edge of a vertex that is no point
pub data IsTakenBackTo (mesh : Mesh) (points : ℕ → Bool) (full : Chain) : Chain → Type 0 where
  whole : (cut : Chain) → SameEdges mesh cut full → IsTakenBackTo mesh points full cut
  taken : {cut : Chain} (next : Chain) (e p : ℕ) → IsTakenBackTo mesh points full cut →
      IsLooseAt mesh points cut e p → SameEdges mesh next (without cut e) → IsTakenBackTo mesh points full next

-- the set is in one piece: a test that tells the two ends of each of its edges alike tells all its edges alike
abbrev pub IsInOnePiece : Mesh → Chain → Type 0
IsInOnePiece mesh cut =
    (test : ℕ → Bool) →
    ((e : ℕ) → e < edge_count mesh → IsTrue (cut e) → test (ends mesh e).0 ≡ test (ends mesh e).1) →
    (e h : ℕ) → e < edge_count mesh → h < edge_count mesh → IsTrue (cut e) → IsTrue (cut h) →
    test (ends mesh e).0 ≡ test (ends mesh h).0

-- edge e is on the way in the tree between two points
abbrev pub IsOnWay : Mesh → Tree → (ℕ → Bool) → ℕ → Type 0
IsOnWay mesh tree points e =
    (u : ℕ) × (v : ℕ) × (u < mesh.vertices) × (v < mesh.vertices) × IsTrue (points u) × IsTrue (points v)
    × IsTrue (between tree u v e)

-- the vertex is an end of an edge of the set
abbrev pub IsOnCut : Mesh → Chain → ℕ → Type 0
IsOnCut mesh cut v = (e : ℕ) × (e < edge_count mesh) × IsTrue (cut e) × IsTrue (touches v (ends mesh e))

-- the vertex is an end of a border edge
abbrev pub IsOnBorder : Mesh → ℕ → Type 0
IsOnBorder mesh v = (e : ℕ) × IsBorderEdge mesh e × ((v ≡ (ends mesh e).0) ⊎ (v ≡ (ends mesh e).1))

-- a vertex of the surface is the vertex of a copy on the border
abbrev pub HasCopyOnBorder : List ℕ → List (List ℕ) → ℕ → Type 0
HasCopyOnBorder origins faces v =
    (copy : ℕ) × (copy < length origins) × (slice_index origins copy ≡ v)
    × IsOnBorder (record { vertices = length origins; faces = faces }) copy

-- the surface opened along the cut through the points, which has two edges or more, with its copies in order
pub record IsOpeningThrough (mesh : Mesh) (tree cotree : Tree) (points : ℕ → Bool) (origins : List ℕ)
    (faces : List (List ℕ)) : Type 0 where
  pub cut : Chain
  pub is_through : IsCutThrough mesh (full_cut mesh tree cotree) points cut
  pub some : 2 ≤ cut_count mesh cut
  pub opened : IsOpenedBy mesh (IsUncutEdge mesh cut) origins faces
  pub in_order : AreInOrder mesh origins faces
