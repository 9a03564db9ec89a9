-- Trees whose ways are summed up in the coordinates of a frame.
use Rattle.std.specs.Prelude.{◌≡◌, ℕ, ◌≤◌, List, length}
use Rattle.surf_z2.specs.Space.{Weighed}
use Rattle.surf_graphs.specs.Cells.{Split}
use Rattle.surf_surfaces.specs.Surface.{edge_count}
use Rattle.surf_certcheck.specs.Climbs.{IsClimbed, AreSummed}
use Rattle.surf_certcheck.specs.Frames.{IsFrame, IsCoveredBy}
use Rattle.surf_certcheck.specs.Columns.{IsSorted}
use Rattle.surf_certcheck.specs.declared.cover.SummedTree.{SummedTree}

-- the rows are a tree of shortest walks, the sums are those along its ways, and all tables fit
pub record IsSummedUp (t : SummedTree) : Type 0 where
  pub climbed : IsClimbed t.mesh.now t.rows.now
  pub room : length t.sums.now.sets ≡ t.mesh.now.vertices
  pub summed : AreSummed t.mesh.now t.rows.now t.frame.now.signs.sets t.sums.now.sets
  pub lengths : length t.lengths.now ≡ edge_count t.mesh.now
  pub count : length t.frame.now.signs.sets ≡ edge_count t.mesh.now
  pub width : t.frame.now.signs.width ≤ 1024
  pub widths : t.sums.now.width ≤ 1024
  pub sorted : IsSorted t.frame.now.weights.items

-- the coordinates are a frame of some cycles
abbrev pub HasFrame : SummedTree → Split → List (Weighed ℕ) → Type 0
HasFrame t d cycles = IsFrame t.mesh.now d cycles t.frame.now.signs t.frame.now.weights.items

-- the signature of the loop of an edge through the tree is a sum of those of cycles that are no longer
abbrev pub IsCoveredIn : SummedTree → Split → List (Weighed ℕ) → ℕ → Type 0
IsCoveredIn t d cycles e = IsCoveredBy t.mesh.now t.lengths.now d cycles t.rows.now e
