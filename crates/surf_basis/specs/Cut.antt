-- The vertices from which is searched: those of a cut, or ends of edges with signatures.
use Rattle.std.specs.Prelude.{ℕ, ◌≢◌, ◌<◌, ◌⊎◌, Bool, IsTrue, List, All, ◌≡◌}
use Rattle.surf_graphs.specs.Trees.{Tree}
use Rattle.surf_surfaces.specs.Mesh.{Mesh}
use Rattle.surf_opening.specs.OffTheCut.{HasMarkedEnds, AreMarked}
use Rattle.surf_tree.specs.Tables.{tree_of}
use Rattle.surf_tree.specs.Queues.{AreEven}
use Rattle.surf_cotree.specs.Tables.{cotree_of}
use Rattle.surf_loops.specs.Loops.{LoopTables, IsRooted}
use Rattle.surf_finder.specs.Found.{is_among}
use Rattle.surf_finder.specs.Signing.{signs_of}
use Rattle.surf_basis.specs.Ends.{AreSignedEnds}
use Rattle.surf_surfaces.specs.Cotree.{left_edges}
use Rattle.surf_opening.specs.ChosenCut.{AreDivided}

-- the set is closed upward: with each of the first vertices it has its parent
abbrev pub IsClosedUpward : ℕ → Tree → (ℕ → Bool) → Type 0
IsClosedUpward count tree set = (v : ℕ) → v < count → v ≢ tree.root → IsTrue (set v) → IsTrue (set (tree.parent v))

-- the set has the vertex
abbrev pub HasVertex : ℕ → (ℕ → Bool) → Type 0
HasVertex v set = IsTrue (set v)

-- the set has both ends of each of the edges
abbrev pub HasEnds : Mesh → List ℕ → (ℕ → Bool) → Type 0
HasEnds mesh edges set = All (HasMarkedEnds mesh set) edges

-- all of the one set is in the other
abbrev pub IsPartOf : (ℕ → Bool) → (ℕ → Bool) → Type 0
IsPartOf part set = (v : ℕ) → IsTrue (part v) → IsTrue (set v)

-- of the sets that have what is asked, an old set and with each vertex its parent, the new one is the least
pub record IsLeastSet (count : ℕ) (tree : Tree) (Asked : (ℕ → Bool) → Type 0) (old new : ℕ → Bool) : Type 0 where
  pub asked : Asked new
  pub stay : IsPartOf old new
  pub parents : IsClosedUpward count tree new
  pub least : (other : ℕ → Bool) → Asked other → IsPartOf old other → IsClosedUpward count tree other → IsPartOf new other

-- the vertices that have to be marked: both ends of each left edge and with each vertex its parent, and no others
pub record AreCutVertices (mesh : Mesh) (t : LoopTables) (list : List ℕ) : Type 0 where
  pub marked : AreMarked mesh (tree_of t.tree) (cotree_of t.cotree) (is_among list)
  pub least : (other : ℕ → Bool) → AreMarked mesh (tree_of t.tree) (cotree_of t.cotree) other →
      All (λ v. IsTrue (other v)) list

-- the list has the vertices of the cut, or, where all lengths are the same, ends of edges with signatures
abbrev pub AreToSearch : Mesh → List ℕ → LoopTables → List ℕ → Type 0
AreToSearch mesh lengths t list = AreCutVertices mesh t list
    ⊎ ((size : ℕ) × AreEven lengths size × AreSignedEnds mesh (signs_of t.cotree) list)

-- of the tables of a desk: a spanning tree of the vertices, in which each but the base has a parent, a tree of the faces,
-- and the edges in neither
pub record IsDividedBy (mesh : Mesh) (t : LoopTables) : Type 0 where
  pub rooted : IsRooted mesh t.tree
  pub divided : AreDivided mesh (tree_of t.tree) (cotree_of t.cotree)
  pub left : t.cotree.left ≡ left_edges mesh (tree_of t.tree) (cotree_of t.cotree)
