-- Walks by their signatures: least lengths to a vertex with a set, tables of them, and the walk that is read back.
use Rattle.std.specs.Prelude.{◌≡◌, ℕ, ◌+◌, ◌<◌, ◌≤◌, ◌^◌, List, [], ◌∷◌, length, Contains, bit_xor}
use Rattle.surf_graphs.specs.Cells.{Split}
use Rattle.surf_surfaces.specs.Mesh.{Mesh, pair, edges}
use Rattle.surf_surfaces.specs.Surface.{edge_count, ends}
use Rattle.surf_surfaces.specs.Walk.{edge_length, edge_number, walk_length}
use Rattle.surf_surfaces.specs.Distance.{LeadsFrom}
use Rattle.surf_surfaces.specs.Signature.{edge_signature, walk_signature}

-- a set of places of left edges, as a number
abbrev pub IsSet : Split → ℕ → Type 0
IsSet d set = set < 2 ^ length d.left

-- a walk from one vertex to another with a signature
pub record LeadsWith (mesh : Mesh) (d : Split) (from to set : ℕ) (walk : List ℕ) : Type 0 where
  pub leads : LeadsFrom mesh from to walk
  pub signs : walk_signature mesh d walk ≡ set

-- some such walk has this length, and none is shorter
pub record IsSignedDistance (mesh : Mesh) (lengths : List ℕ) (d : Split)
    (from to set distance : ℕ) : Type 0 where
  pub reached : (walk : List ℕ) × LeadsWith mesh d from to set walk × (walk_length mesh lengths walk ≡ distance)
  pub least : (walk : List ℕ) → LeadsWith mesh d from to set walk → distance ≤ walk_length mesh lengths walk

-- the table has the distances from x to all vertices with all sets
abbrev pub AreSignedDistances : Mesh → List ℕ → Split → ℕ → (ℕ → ℕ → ℕ) → Type 0
AreSignedDistances mesh lengths d x table =
    (v set : ℕ) → v < mesh.vertices → IsSet d set → IsSignedDistance mesh lengths d x v set (table v set)

-- the signature of the edge between two vertices, and its length
abbrev pub step_signature : Mesh → Split → ℕ → ℕ → ℕ
step_signature mesh d u v = edge_signature mesh d (edge_number mesh (u, v))

abbrev pub step_length : Mesh → List ℕ → ℕ → ℕ → ℕ
step_length mesh lengths u v = edge_length lengths (edge_number mesh (u, v))

-- u and v are joined by an edge, and going over it from u is a shortest way to v with the set
pub record IsTightFor (mesh : Mesh) (lengths : List ℕ) (d : Split) (table : ℕ → ℕ → ℕ)
    (u v set : ℕ) : Type 0 where
  pub is_edge : Contains (edges mesh) (pair u v)
  pub adds_up : table u (bit_xor set (step_signature mesh d u v)) + step_length mesh lengths u v ≡ table v set

-- u is the least such vertex
pub record IsLeastTight (mesh : Mesh) (lengths : List ℕ) (d : Split) (table : ℕ → ℕ → ℕ)
    (u v set : ℕ) : Type 0 where
  pub tight : IsTightFor mesh lengths d table u v set
  pub least : (w : ℕ) → IsTightFor mesh lengths d table w v set → u ≤ w

-- what shows that a table has the distances: it is 0 at x with the empty set, each other vertex and set
-- has a tight neighbour, and no edge is a short cut
pub record IsCertified (mesh : Mesh) (lengths : List ℕ) (d : Split) (x : ℕ) (table : ℕ → ℕ → ℕ) : Type 0 where
  pub none_at_start : table x 0 ≡ 0
  pub tight : (v set : ℕ) → v < mesh.vertices → IsSet d set → (v ≡ x → set ≡ 0 → ⊥) →
      (u : ℕ) × IsTightFor mesh lengths d table u v set
  pub no_short_cut : (e set : ℕ) → e < edge_count mesh → IsSet d set →
      (table (ends mesh e).1 (bit_xor set (edge_signature mesh d e))
      ≤ table (ends mesh e).0 set + edge_length lengths e)
      × (table (ends mesh e).0 (bit_xor set (edge_signature mesh d e))
      ≤ table (ends mesh e).1 set + edge_length lengths e)

-- the vertices before v, last first, as they are read off a table: each is the least tight neighbour of
-- the one after it, with the set that is left, until x is reached with the empty set
abbrev pub IsReadBack : Mesh → List ℕ → Split → ℕ → (ℕ → ℕ → ℕ) → ℕ → ℕ → List ℕ → Type 0
IsReadBack mesh lengths d x table v set [] = (v ≡ x) × (set ≡ 0)
IsReadBack mesh lengths d x table v set (u ∷ before) =
    IsLeastTight mesh lengths d table u v set
    × IsReadBack mesh lengths d x table u (bit_xor set (step_signature mesh d u v)) before

-- the same as far as a vertex with a set
abbrev pub IsReadTo : Mesh → List ℕ → Split → (ℕ → ℕ → ℕ) → ℕ → ℕ → List ℕ → ℕ → ℕ → Type 0
IsReadTo mesh lengths d table v set [] u rest = (v ≡ u) × (set ≡ rest)
IsReadTo mesh lengths d table v set (w ∷ before) u rest =
    IsLeastTight mesh lengths d table w v set
    × IsReadTo mesh lengths d table w (bit_xor set (step_signature mesh d w v)) before u rest

-- x is the least vertex at which the round with the set is shortest, where `round` has the length of a shortest round
-- with the set at each vertex
pub record IsLeastBase (mesh : Mesh) (lengths : List ℕ) (d : Split) (set : ℕ) (round : ℕ → ℕ) (x : ℕ) : Type 0 where
  pub rounds : (y : ℕ) → y < mesh.vertices → IsSignedDistance mesh lengths d y y set (round y)
  pub base_in : x < mesh.vertices
  pub shortest : (y : ℕ) → y < mesh.vertices → round x ≤ round y
  pub least : (y : ℕ) → y < mesh.vertices → round y ≡ round x → x ≤ y
