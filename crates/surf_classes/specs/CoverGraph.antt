-- The cover: a graph with a node for each vertex with each set, whose walks are the walks with their signatures.
use Rattle.std.specs.Prelude.{◌≡◌, ◌≢◌, ℕ, ◌+◌, ◌*◌, ◌/◌, ◌%◌, ◌<◌, ◌≤◌, ◌^◌, ◌==◌, true, List, length, bit_xor}
use Rattle.std.specs.Prelude.{if◌then◌else◌}
use Rattle.surf_graphs.specs.Cells.{Split, IsSplit, primal}
use Rattle.surf_graphs.specs.Graphs.{Graph, IsGraph, IsConnectedGraph, joins}
use Rattle.surf_surfaces.specs.Mesh.{Mesh}
use Rattle.surf_surfaces.specs.Surface.{edge_count, ends, IsSurface}
use Rattle.surf_surfaces.specs.Walk.{edge_length}
use Rattle.surf_surfaces.specs.Cells.{cells_of}
use Rattle.surf_surfaces.specs.Signature.{edge_signature}
use Rattle.surf_classes.specs.Cover.{IsSet, IsCertified}

-- how many sets of left edges there are
abbrev pub set_count : Split → ℕ
set_count d = 2 ^ length d.left

-- the node of a vertex with a set
abbrev pub cover_node : Split → ℕ → ℕ → ℕ
cover_node d v set = v * set_count d + set

-- the nodes, and for each edge with each set an edge from the lesser end with the set to the greater end with the sum
-- of the set and the edge's signature
abbrev pub cover : Mesh → Split → Graph
cover mesh d = record {
  nodes = mesh.vertices * set_count d;
  edges = edge_count mesh * set_count d;
  from = λ c. cover_node d (ends mesh (c / set_count d)).0 (c % set_count d);
  to = λ c. cover_node d (ends mesh (c / set_count d)).1
      (bit_xor (c % set_count d) (edge_signature mesh d (c / set_count d)));
}

-- an edge of the cover is as long as the edge below it
abbrev pub cover_length : List ℕ → Split → ℕ → ℕ
cover_length lengths d c = edge_length lengths (c / set_count d)

-- the edge of the cover that leads from a vertex with a set over an edge
abbrev pub cover_edge : Mesh → Split → ℕ → ℕ → ℕ → ℕ
cover_edge mesh d v set e =
    e * set_count d + (if (ends mesh e).0 == v then set else bit_xor set (edge_signature mesh d e))

-- It is a graph and connected. From a vertex with a set, each edge leads to its other end with the sum, and nothing
-- else does
pub record IsCover (mesh : Mesh) (d : Split) : Type 0 where
  pub is_graph : IsGraph (cover mesh d)
  pub connected : IsConnectedGraph (cover mesh d)
  pub node_in : (v set : ℕ) → v < mesh.vertices → IsSet d set → cover_node d v set < mesh.vertices * set_count d
  pub edge_in : (v set e : ℕ) → e < edge_count mesh → IsSet d set →
      cover_edge mesh d v set e < edge_count mesh * set_count d
  pub over : (v u set e : ℕ) → e < edge_count mesh → IsSet d set → joins (primal (cells_of mesh)) v u e ≡ true →
      joins (cover mesh d) (cover_node d v set) (cover_node d u (bit_xor set (edge_signature mesh d e)))
      (cover_edge mesh d v set e) ≡ true
  pub whole : (v set b c : ℕ) → IsSet d set → c < edge_count mesh * set_count d →
      joins (cover mesh d) (cover_node d v set) b c ≡ true →
      (u : ℕ) × (joins (primal (cells_of mesh)) v u (c / set_count d) ≡ true)
      × (b ≡ cover_node d u (bit_xor set (edge_signature mesh d (c / set_count d))))
      × (c ≡ cover_edge mesh d v set (c / set_count d))

-- The cover is a connected graph whose edges are just those over the edges of the mesh.
abbrev pub CoversAreGraphs : Type 0
CoversAreGraphs = (mesh : Mesh) (d : Split) → IsSurface mesh → IsSplit (cells_of mesh) d → IsCover mesh d

-- A search over the cover makes a certified table.
abbrev pub SearchesCertify : Type 0
SearchesCertify =
    (mesh : Mesh) (lengths : List ℕ) (d : Split) → IsSurface mesh → IsSplit (cells_of mesh) d → (x : ℕ) →
    x < mesh.vertices → (distance : ℕ → ℕ) → distance (cover_node d x 0) ≡ 0 →
    ((a b c : ℕ) → a < mesh.vertices * set_count d → b < mesh.vertices * set_count d →
    c < edge_count mesh * set_count d → joins (cover mesh d) a b c ≡ true →
    distance b ≤ distance a + cover_length lengths d c) →
    ((a : ℕ) → a < mesh.vertices * set_count d → a ≢ cover_node d x 0 →
    (b : ℕ) × (c : ℕ) × (b < mesh.vertices * set_count d) × (c < edge_count mesh * set_count d)
    × (joins (cover mesh d) a b c ≡ true) × (distance a ≡ distance b + cover_length lengths d c)) →
    IsCertified mesh lengths d x (λ v set. distance (cover_node d v set))
