-- The cover as a search sees it: by a table that has the signatures of the edges.
use Rattle.std.specs.Prelude.{◌≡◌, ℕ, ◌+◌, ◌*◌, ◌/◌, ◌%◌, ◌<◌, ◌≤◌, ◌==◌, List, ◌∷◌, length, slice_index, bit_xor}
use Rattle.std.specs.Prelude.{if◌then◌else◌}
use Rattle.surf_graphs.specs.Cells.{Split, IsSplit}
use Rattle.surf_graphs.specs.Graphs.{Graph}
use Rattle.surf_surfaces.specs.Mesh.{Mesh}
use Rattle.surf_surfaces.specs.Surface.{edge_count, ends, IsSurface}
use Rattle.surf_surfaces.specs.Walk.{edge_length}
use Rattle.surf_surfaces.specs.Cells.{cells_of}
use Rattle.surf_surfaces.specs.Signature.{edge_signature}
use Rattle.surf_classes.specs.Cover.{IsCertified, IsReadBack}
use Rattle.surf_classes.specs.CoverGraph.{set_count}
use Rattle.surf_mesh.specs.Links.{other_of}

-- the node of a vertex with a set, where there are so many sets
abbrev pub node_of : ℕ → ℕ → ℕ → ℕ
node_of sets v set = v * sets + set

-- the cover, with so many sets, where `sign` has the signature of each edge
abbrev pub cover_by : Mesh → ℕ → (ℕ → ℕ) → Graph
cover_by mesh sets sign = record {
  nodes = mesh.vertices * sets;
  edges = edge_count mesh * sets;
  from = λ c. node_of sets (ends mesh (c / sets)).0 (c % sets);
  to = λ c. node_of sets (ends mesh (c / sets)).1 (bit_xor (c % sets) (sign (c / sets)));
}

-- an edge of the cover is as long as the edge below it
abbrev pub length_by : List ℕ → ℕ → ℕ → ℕ
length_by lengths sets c = edge_length lengths (c / sets)

-- an edge as a link of a vertex with a set: the other end with the sum of the set and the edge's signature, and the
-- edge of the cover that leads there
abbrev pub link_by : Mesh → ℕ → (ℕ → ℕ) → ℕ → ℕ → ℕ → ℕ × ℕ
link_by mesh sets sign v set e = (
  node_of sets (other_of (ends mesh e) v) (bit_xor set (sign e)),
  e * sets + (if (ends mesh e).0 == v then set else bit_xor set (sign e)),
)

-- a table has the signatures of the edges by a split, which has so many sets
pub record IsSignedBy (mesh : Mesh) (d : Split) (sets : ℕ) (signs : List ℕ) : Type 0 where
  pub split : IsSplit (cells_of mesh) d
  pub sets_are : sets ≡ set_count d
  pub count : length signs ≡ edge_count mesh
  pub signs_are : (e : ℕ) → e < edge_count mesh → slice_index signs e ≡ edge_signature mesh d e

-- the distances of vertices with sets, as a table has them one after the other
abbrev pub table_of : ℕ → List ℕ → ℕ → ℕ → ℕ
table_of sets distances v set = slice_index distances (node_of sets v set)

-- distances from a base are certified by the signatures of a table
pub record IsCertifiedBy (mesh : Mesh) (lengths : List ℕ) (d : Split) (sets : ℕ) (signs distances : List ℕ)
    (base : ℕ) : Type 0 where
  pub signed : IsSignedBy mesh d sets signs
  pub certified : IsCertified mesh lengths d base (table_of sets distances)

-- what is read back off such distances, from the base with a set: the base, and the vertices before it, last first
abbrev pub IsReadOff : Mesh → List ℕ → ℕ → List ℕ → List ℕ → ℕ → ℕ → List ℕ → Type 0
IsReadOff mesh lengths sets signs distances base set list =
    (d : Split) → IsCertifiedBy mesh lengths d sets signs distances base →
    (before : List ℕ) × (list ≡ base ∷ before)
    × IsReadBack mesh lengths d base (table_of sets distances) base set before

-- the mesh is a surface, and there is such a split, with few vertices with sets
pub record IsCoverable (mesh : Mesh) (lengths : List ℕ) (sets : ℕ) (signs : List ℕ) : Type 0 where
  pub surface : IsSurface mesh
  pub split : Split
  pub signed : IsSignedBy mesh split sets signs
  pub measured : length lengths ≡ edge_count mesh
  pub few : mesh.vertices * sets ≤ 16777216
