-- Trees of shortest walks, and sums along their ways.
use Rattle.std.specs.Prelude.{◌≡◌, ℕ, ◌<◌, List, slice_index}
use Rattle.surf_graphs.specs.Cells.{primal, Split}
use Rattle.surf_graphs.specs.Trees.{IsTree, IsShortest}
use Rattle.surf_surfaces.specs.Cells.{cells_of}
use Rattle.surf_surfaces.specs.Mesh.{Mesh}
use Rattle.surf_surfaces.specs.Walk.{edge_length}
use Rattle.surf_signatures.specs.Ways.{way_class}
use Rattle.surf_validity.specs.Rows.{TreeRows}
use Rattle.surf_validity.specs.Valid.{certified_tree, IsTreeValid, HasTreeRows}
use Rattle.surf_certcheck.specs.Frames.{AreTaken}

-- rows that are a tree of shortest walks by some lengths
pub record IsClimbed (mesh : Mesh) (rows : TreeRows) : Type 0 where
  pub rows_are : HasTreeRows mesh rows
  pub lengths : List ℕ
  pub valid : IsTreeValid mesh lengths rows
  pub tree : IsTree (primal (cells_of mesh)) (certified_tree mesh rows)
  pub short : IsShortest (primal (cells_of mesh)) (edge_length lengths) (certified_tree mesh rows)

-- a table has for a vertex the sum over its way up to the base of what a map makes of the signatures of edges
abbrev pub IsSummedAt : Mesh → TreeRows → Split → (ℕ → ℕ) → List ℕ → ℕ → Type 0
IsSummedAt mesh rows d to sums v = slice_index sums v ≡ to (way_class mesh d (certified_tree mesh rows) v)

-- the same for each vertex
abbrev pub AreSummed : Mesh → TreeRows → List ℕ → List ℕ → Type 0
AreSummed mesh rows sets sums = (d : Split) (to : ℕ → ℕ) → AreTaken mesh d to sets → (v : ℕ) → v < mesh.vertices →
    IsSummedAt mesh rows d to sums v
