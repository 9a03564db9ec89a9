-- A desk with the trees that are chosen at vertex 0.
use Rattle.std.specs.Prelude.{◌≡◌, ℕ, List, length}
use Rattle.surf_graphs.specs.Cells.{IsSplit}
use Rattle.surf_surfaces.specs.Cells.{cells_of}
use Rattle.surf_surfaces.specs.Choice.{Trees, AreChosenAt}
use Rattle.surf_surfaces.specs.Cotree.{split_of}
use Rattle.surf_surfaces.specs.Mesh.{Mesh}
use Rattle.surf_surfaces.specs.Surface.{loop_count}
use Rattle.surf_cotree.specs.Grown.{IsGrownOn}
use Rattle.surf_cotree.specs.Tables.{CotreeTables, split_with}

-- the tables of its tree of faces are so
pub record IsChosenDesk (mesh : Mesh) (lengths : List ℕ) (t : CotreeTables) : Type 0 where
  pub trees : Trees
  pub chosen : AreChosenAt mesh lengths 0 trees
  pub splits : split_with trees.tree t ≡ split_of mesh trees.tree trees.cotree
  pub split : IsSplit (cells_of mesh) (split_with trees.tree t)
  pub grown : IsGrownOn mesh t
  pub loops : length t.left ≡ loop_count mesh
