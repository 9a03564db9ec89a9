-- What a search sees of a mesh: for each node of a graph a row of links.
use Rattle.std.specs.Prelude.{◌≡◌, ℕ, ◌<◌, ◌==◌, true, List, length, slice_index, slice_index_or, if◌then◌else◌}
use Rattle.surf_graphs.specs.Graphs.{Graph, joins}
use Rattle.surf_surfaces.specs.Mesh.{Mesh, edges}
use Rattle.surf_surfaces.specs.Surface.{ends, faces_of}
use Rattle.surf_surfaces.specs.Walk.{place_of}
use Rattle.surf_surfaces.specs.SideNumber.{pair_at, owners}

-- a link: a neighbour, and the number of an edge to it
abbrev pub link_at : List (ℕ × ℕ) → ℕ → ℕ × ℕ
link_at row k = slice_index_or row k (0, 0)

-- the links of a node: each is an edge from the node to the neighbour, and each edge at the node is there
pub record IsRow (g : Graph) (v : ℕ) (row : List (ℕ × ℕ)) : Type 0 where
  pub edge_in : (k : ℕ) → k < length row → (link_at row k).1 < g.edges
  pub neighbour_in : (k : ℕ) → k < length row → (link_at row k).0 < g.nodes
  pub joined : (k : ℕ) → k < length row → joins g v (link_at row k).0 (link_at row k).1 ≡ true
  pub whole : (e w : ℕ) → e < g.edges → joins g v w e ≡ true → (k : ℕ) × (k < length row) × (link_at row k ≡ (w, e))

-- the other one of a pair
abbrev pub other_of : ℕ × ℕ → ℕ → ℕ
other_of p v = if p.0 == v then p.1 else p.0

-- an edge as a link of one of its ends
abbrev pub edge_link : Mesh → ℕ → ℕ → ℕ × ℕ
edge_link mesh v e = (other_of (ends mesh e) v, e)

-- the face that a side is of
abbrev pub side_face : Mesh → ℕ → ℕ
side_face mesh s = slice_index (owners 0 mesh.faces) s

-- the number of the edge that a side is
abbrev pub side_edge : Mesh → ℕ → ℕ
side_edge mesh s = place_of (pair_at mesh s) (edges mesh)

-- a side as a link of its face: the face across, and the edge
abbrev pub side_link : Mesh → ℕ → ℕ × ℕ
side_link mesh s = (other_of (faces_of mesh (side_edge mesh s)) (side_face mesh s), side_edge mesh s)
