-- What a search that goes no farther than a radius has found.
use Rattle.std.specs.Prelude.{◌≡◌, ℕ, ◌<◌, ◌≤◌, ◌⊎◌, ◌^◌, ◌==◌, Bool, not, nat_le, IsTrue, List, length, Contains}
use Rattle.std.specs.Prelude.{slice_index}
use Rattle.surf_graphs.specs.Trees.{Tree}
use Rattle.surf_surfaces.specs.Mesh.{Mesh}
use Rattle.surf_surfaces.specs.ShortestTree.{IsShortestTree}
use Rattle.surf_surfaces.specs.FewBases.{IsNearTree, IsLeastTable}

-- the base, the settled vertices in order, and for each vertex its distance, its parent, the edge to it and the least
-- vertex on the way
pub record NearTables : Type 0 where
  pub base : ℕ
  pub settled : List ℕ
  pub distances : List ℕ
  pub parents : List ℕ
  pub ups : List ℕ
  pub leasts : List ℕ

-- stands for the distance of a vertex that isn't settled
abbrev pub never : ℕ
never = 18446744073709551615

-- whether a vertex is settled
abbrev pub is_near : NearTables → ℕ → Bool
is_near t v = not (slice_index t.distances v == never)

-- the tree of the tables, as far as they go
abbrev pub near_tree : NearTables → Tree
near_tree t = record {
  root = t.base;
  parent = slice_index t.parents;
  up = slice_index t.ups;
  rank = slice_index t.distances;
}

-- there is an entry for each vertex
pub record AreNearTables (mesh : Mesh) (t : NearTables) : Type 0 where
  pub distances : length t.distances ≡ mesh.vertices
  pub parents : length t.parents ≡ mesh.vertices
  pub ups : length t.ups ≡ mesh.vertices
  pub leasts : length t.leasts ≡ mesh.vertices

-- The tables agree with a tree as far as a distance: on the paths and on the least vertices of the ways. The vertices
-- that are so near, and no others, are settled, each after its parent, and their distances don't fall.
pub record IsNearTo (mesh : Mesh) (lengths : List ℕ) (base far : ℕ) (tree : Tree) (t : NearTables) : Type 0 where
  pub tables : IsNearTree mesh lengths base far tree.rank (near_tree t)
  pub least : IsLeastTable mesh lengths tree.rank far (slice_index t.leasts)
  pub is_near : (v : ℕ) → v < mesh.vertices → is_near t v ≡ nat_le (tree.rank v) far
  pub inside : (i : ℕ) → i < length t.settled →
      (slice_index t.settled i < mesh.vertices) × (tree.rank (slice_index t.settled i) ≤ far)
  pub all : (v : ℕ) → v < mesh.vertices → tree.rank v ≤ far → Contains t.settled v
  pub order : (i : ℕ) → i < length t.settled → (slice_index t.settled i ≡ base)
      ⊎ ((j : ℕ) × (j < i) × (slice_index t.settled j ≡ slice_index t.parents (slice_index t.settled i)))
  pub rise : (i j : ℕ) → i < j → j < length t.settled →
      tree.rank (slice_index t.settled i) ≤ tree.rank (slice_index t.settled j)

-- so they do with the tree of shortest walks from the base
pub record IsNear (mesh : Mesh) (lengths : List ℕ) (base far : ℕ) (t : NearTables) : Type 0 where
  pub made : AreNearTables mesh t
  pub base_is : t.base ≡ base
  pub fits : (v : ℕ) → v < mesh.vertices → IsTrue (is_near t v) → slice_index t.distances v < 2 ^ 62
  pub near : (tree : Tree) → IsShortestTree mesh lengths base tree → IsNearTo mesh lengths base far tree t
