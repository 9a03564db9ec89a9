-- The rule by which a sheet of a certificate has distances and labels.
use Rattle.std.specs.Prelude.{◌≡◌, ℕ, ◌+◌, ◌<◌, ◌≤◌, ◌⊎◌, ◌==◌, true, List, Contains, bit_xor, take}
use Rattle.std.specs.List.{position_or_len}
use Rattle.surf_graphs.specs.Graphs.{joins}
use Rattle.surf_graphs.specs.Cells.{primal}
use Rattle.surf_surfaces.specs.Mesh.{Mesh}
use Rattle.surf_surfaces.specs.Surface.{edge_count}
use Rattle.surf_surfaces.specs.Cells.{cells_of}
use Rattle.surf_surfaces.specs.Walk.{edge_length}
use Rattle.surf_sheets.specs.Rows.{SheetRow, SheetCert}
use Rattle.surf_sheets.specs.Sheets.{HasNoShortCut}
use Rattle.surf_sheetcheck.specs.Cocycles.{edge_set, walk_set}
use Rattle.surf_sheetcheck.specs.Parts.{part_of, limit_of}

-- edge e leads from v to a neighbour u that is nearer by the edge's length
pub record IsTight (mesh : Mesh) (lengths : List ℕ) (distance : ℕ → ℕ) (v u e : ℕ) : Type 0 where
  pub edge_in : e < edge_count mesh
  pub joined : joins (primal (cells_of mesh)) v u e ≡ true
  pub is : distance u + edge_length lengths e ≡ distance v

-- the distance of each vertex from a part, or a limit where that is less: 0 on the part, none is above the limit, no
-- edge is a short cut, and what is below the limit is reached over some neighbour
pub record AreDistances (mesh : Mesh) (lengths part : List ℕ) (limit : ℕ) (distance : ℕ → ℕ) : Type 0 where
  pub on_part : (v : ℕ) → Contains part v → distance v ≡ 0
  pub limited : (v : ℕ) → v < mesh.vertices → distance v ≤ limit
  pub slack : HasNoShortCut mesh lengths distance
  pub reached : (v : ℕ) → v < mesh.vertices → distance v < limit →
      Contains part v ⊎ ((u : ℕ) × (e : ℕ) × IsTight mesh lengths distance v u e)

-- the least neighbour that is nearer by the length of the edge to it
pub record IsParent (mesh : Mesh) (lengths : List ℕ) (distance : ℕ → ℕ) (v u e : ℕ) : Type 0 where
  pub tight : IsTight mesh lengths distance v u e
  pub least : (w f : ℕ) → IsTight mesh lengths distance v w f → u ≤ w

-- the first place of a vertex on a part
abbrev pub place_on : List ℕ → ℕ → ℕ
place_on part v = position_or_len (λ u. u == v) part

-- the label of a vertex on the part: the sum over the walk from the part's first place to the first place of the vertex
abbrev pub label_on : Mesh → SheetCert → List ℕ → ℕ → ℕ
label_on mesh cert part v = walk_set mesh cert (take (place_on part v + 1) part)

-- The labels of the vertices, each a set as one number: none at the limit, on the part the sum over the walk, and
-- elsewhere that of the parent and the edge to it.
pub record AreLabels (mesh : Mesh) (lengths : List ℕ) (cert : SheetCert) (part : List ℕ) (limit : ℕ)
    (distance label : ℕ → ℕ) : Type 0 where
  pub far : (v : ℕ) → v < mesh.vertices → distance v ≡ limit → label v ≡ 0
  pub on_part : (v : ℕ) → v < mesh.vertices → distance v < limit → Contains part v →
      label v ≡ label_on mesh cert part v
  pub others : (v : ℕ) → v < mesh.vertices → distance v < limit → (Contains part v → ⊥) →
      (u : ℕ) × (e : ℕ) × IsParent mesh lengths distance v u e × (label v ≡ bit_xor (label u) (edge_set mesh cert e))

-- both for a sheet of a certificate
pub record FollowsRule (mesh : Mesh) (lengths : List ℕ) (cert : SheetCert) (row : SheetRow)
    (distance label : ℕ → ℕ) : Type 0 where
  pub distances : AreDistances mesh lengths (part_of cert row) (limit_of mesh lengths cert row) distance
  pub labels : AreLabels mesh lengths cert (part_of cert row) (limit_of mesh lengths cert row) distance label
