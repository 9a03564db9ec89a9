-- What a loop desk holds after it has found the loops at a base.
use Rattle.std.specs.Prelude.{ℕ, ◌≡◌, ◌≢◌, ◌<◌, ◌≤◌, Bool, List, length, map, All, slice_index, Some, None}
use Rattle.surf_graphs.specs.Cells.{primal}
use Rattle.surf_graphs.specs.Trees.{IsTree}
use Rattle.surf_surfaces.specs.Mesh.{Mesh}
use Rattle.surf_surfaces.specs.Cells.{cells_of}
use Rattle.surf_surfaces.specs.Walk.{IsClosed}
use Rattle.surf_surfaces.specs.Homology.{IsIndependent}
use Rattle.surf_surfaces.specs.Loop.{loop_walk}
use Rattle.surf_surfaces.specs.Choice.{Trees, AreChosenAt, Loop, loops_at}
use Rattle.surf_surfaces.specs.ChoiceLaws.{LoopsAtBase}
use Rattle.surf_tree.specs.Tables.{TreeTables, parent_of, tree_of, AreTreeTables}
use Rattle.surf_tree.specs.Grown.{IsGrown as IsTreeGrown}
use Rattle.surf_cotree.specs.Tables.{CotreeTables, cotree_of, AreCotreeTables}
use Rattle.surf_cotree.specs.Grown.{IsGrown as IsCotreeGrown, IsGrownOn, AreLoopLengths}
use Rattle.surf_loops.specs.declared.head.LoopHead.{LoopHead}

-- the tables of the two trees, and the heads of the loops
pub record LoopTables : Type 0 where
  pub tree : TreeTables
  pub cotree : CotreeTables
  pub heads : List LoopHead

-- of these: the tables of the tree of vertices, for each edge whether the tree of faces has it, and the heads
pub record BaseTables : Type 0 where
  pub tree : TreeTables
  pub held : List Bool
  pub heads : List LoopHead

-- they and the tables of a tree of faces
abbrev pub with_cotree : BaseTables → CotreeTables → LoopTables
with_cotree t cotree = record { tree = t.tree; cotree = cotree; heads = t.heads }

-- there is an entry for each vertex, face and edge
pub record AreLoopTables (mesh : Mesh) (t : LoopTables) : Type 0 where
  pub tree : AreTreeTables mesh t.tree
  pub cotree : AreCotreeTables mesh t.cotree

-- the two trees
abbrev pub trees_of : LoopTables → Trees
trees_of t = record { tree = tree_of t.tree; cotree = cotree_of t.cotree }

-- a head as the loop of its edge at a base
abbrev pub loop_of : Mesh → LoopTables → LoopHead → Loop
loop_of mesh t h = record {
  size = h.length;
  base = t.tree.base;
  edge = h.edge;
  walk = loop_walk mesh (tree_of t.tree) h.edge;
}

-- the tables hold a spanning tree of the vertices, in which each but the base has a parent
pub record IsRooted (mesh : Mesh) (t : TreeTables) : Type 0 where
  pub made : AreTreeTables mesh t
  pub spans : IsTree (primal (cells_of mesh)) (tree_of t)
  pub base_alone : parent_of t t.base ≡ None
  pub parents : (v : ℕ) → v < mesh.vertices → v ≢ t.base → parent_of t v ≡ Some (slice_index t.parents v)

-- The tables hold the two trees that are chosen at a base, and the heads are of the loops that are chosen there, in
-- order. These are a least loop system at the base, and no independent closed walks are more than they.
pub record IsGreedy (mesh : Mesh) (lengths : List ℕ) (base : ℕ) (t : LoopTables) : Type 0 where
  pub made : AreLoopTables mesh t
  pub tree : IsTreeGrown mesh lengths base t.tree
  pub weight : ℕ → ℕ
  pub weighs : AreLoopLengths mesh lengths (tree_of t.tree) weight
  pub cotree : IsCotreeGrown mesh t.tree.flags weight t.cotree
  pub rooted : IsRooted mesh t.tree
  pub grown : IsGrownOn mesh t.cotree
  pub chosen : AreChosenAt mesh lengths base (trees_of t)
  pub heads : map (loop_of mesh t) t.heads ≡ loops_at mesh lengths base (trees_of t)
  pub least : LoopsAtBase mesh lengths base (trees_of t)
  pub most : (walks : List (List ℕ)) → All (IsClosed mesh) walks → IsIndependent mesh walks →
      length walks ≤ length t.heads

-- there are tables of the tree of faces, with these flags, such that all are those of the loops that are chosen
pub record HasGreedy (mesh : Mesh) (lengths : List ℕ) (base : ℕ) (t : BaseTables) : Type 0 where
  pub cotree : CotreeTables
  pub held : cotree.held ≡ t.held
  pub greedy : IsGreedy mesh lengths base (with_cotree t cotree)
