-- What the sets of edges are made of.
use Rattle.std.specs.Prelude.{◌≡◌, ℕ, length}
use Rattle.surf_surfaces.specs.Surface.{edge_count}
use Rattle.surf_sheetfind.specs.Pairs.{AreRows}
use Rattle.surf_sheetfind.specs.Listed.{edge_image}
use Rattle.surf_sheetfind.specs.declared.edges.EdgeSets.{EdgeSets}

-- the set of an edge
abbrev pub set_at : EdgeSets → ℕ → ℕ
set_at s = edge_image s.mesh.now s.rows.now.sets s.signatures.now.signatures s.labels.now.sets

-- a signature for each edge, a label for each vertex, and a row for each number
pub record AreSets (count : ℕ) (s : EdgeSets) : Type 0 where
  pub table : length s.signatures.now.signatures ≡ edge_count s.mesh.now
  pub labels : length s.labels.now.sets ≡ s.mesh.now.vertices
  pub rows : AreRows count s.rows.now
