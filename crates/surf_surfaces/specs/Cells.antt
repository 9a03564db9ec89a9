-- A mesh as a cell complex: its vertices, edges and faces by their numbers.
use Rattle.std.specs.Prelude.{◌≡◌, ◌≢◌, ℕ, ◌+◌, ◌<◌, ◌≤◌, ◌↔◌, List, ◌∷◌, length, map, All}
use Rattle.surf_graphs.specs.Cells.{Cells, IsCellComplex, primal, IsNullChain}
use Rattle.surf_graphs.specs.Graphs.{IsGraphWalk, walk_chain, graph_walk_length}
use Rattle.surf_graphs.specs.Independence.{AreIndependentChains}
use Rattle.surf_graphs.specs.Loops.{IsSimple}
use Rattle.surf_z2.specs.Space.{Chain}
use Rattle.surf_surfaces.specs.Mesh.{Mesh}
use Rattle.surf_surfaces.specs.Surface.{face_count, edge_count, ends, faces_of, IsSurface}
use Rattle.surf_surfaces.specs.Walk.{IsWalk, IsClosed, edge_length, last_from, parity, walk_length}
use Rattle.surf_surfaces.specs.Homology.{IsBoundary, IsIndependent}

-- its vertices, edges and faces by their numbers, the ends of each edge, and its two faces
abbrev pub cells_of : Mesh → Cells
cells_of mesh = record {
  vertices = mesh.vertices;
  edges = edge_count mesh;
  faces = face_count mesh;
  tail = λ e. (ends mesh e).0;
  head = λ e. (ends mesh e).1;
  near = λ e. (faces_of mesh e).0;
  far = λ e. (faces_of mesh e).1;
}

-- a surface is a cell complex, in which no edge is a loop, none has one face twice, and no two join the
-- same vertices
pub record AreCells (mesh : Mesh) : Type 0 where
  pub complex : IsCellComplex (cells_of mesh)
  pub ends_differ : (e : ℕ) → e < edge_count mesh → (ends mesh e).0 ≢ (ends mesh e).1
  pub faces_differ : (e : ℕ) → e < edge_count mesh → (faces_of mesh e).0 ≢ (faces_of mesh e).1
  pub one_edge : IsSimple (primal (cells_of mesh))

-- A surface is a cell complex: two connected graphs over its edges, of its vertices and of its
-- faces.
abbrev pub SurfacesAreCells : Type 0
SurfacesAreCells = (mesh : Mesh) → IsSurface mesh → AreCells mesh

-- The boundaries of a surface are the null chains of its cell complex.
abbrev pub BoundariesAreNull : Type 0
BoundariesAreNull =
    (mesh : Mesh) (chain : Chain) → IsBoundary mesh chain ↔ IsNullChain (cells_of mesh) chain

-- The walks of a surface, their parities and their lengths are those of its graph of vertices.
pub record WalksAreGraphWalks (mesh : Mesh) : Type 0 where
  pub walk : (u : ℕ) (rest : List ℕ) → IsWalk mesh (u ∷ rest) →
      IsGraphWalk (primal (cells_of mesh)) u rest (last_from u rest)
  pub from_walk : (u v : ℕ) (rest : List ℕ) → u < mesh.vertices →
      IsGraphWalk (primal (cells_of mesh)) u rest v →
      IsWalk mesh (u ∷ rest) × (last_from u rest ≡ v)
  pub parities : (u : ℕ) (rest : List ℕ) → IsWalk mesh (u ∷ rest) → (e : ℕ) → e < edge_count mesh →
      parity mesh (u ∷ rest) e ≡ walk_chain (primal (cells_of mesh)) u rest e
  pub sizes : (lengths : List ℕ) (u : ℕ) (rest : List ℕ) → IsWalk mesh (u ∷ rest) →
      walk_length mesh lengths (u ∷ rest) ≡ graph_walk_length (primal (cells_of mesh)) (edge_length lengths) u rest

-- Walks of a surface are independent exactly where their chains are independent in its cell
-- complex.
abbrev pub IndependenceIsThatOfChains : Type 0
IndependenceIsThatOfChains =
    (mesh : Mesh) (walks : List (List ℕ)) →
    IsIndependent mesh walks ↔ AreIndependentChains (cells_of mesh) (map (parity mesh) walks)

-- No independent list of closed walks has more than 2 − χ members.
abbrev pub IndependentWalksAreFew : Type 0
IndependentWalksAreFew =
    (mesh : Mesh) → IsSurface mesh → (walks : List (List ℕ)) → All (IsClosed mesh) walks →
    IsIndependent mesh walks →
    length walks + mesh.vertices + face_count mesh ≤ edge_count mesh + 2
