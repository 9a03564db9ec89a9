-- A search for the heaviest tree of a graph from a root, over some of its edges.
use Rattle.std.specs.Prelude.{ℕ, suc, ◌≡◌, ◌≢◌, ◌<◌, ◌≤◌, ◌+◌, ◌-◌, ◌⊎◌, ◌&&◌, ◌||◌, Bool, true, false}
use Rattle.std.specs.Prelude.{not, eqb, nat_lt, nat_le, List, length, get_or, Some}
use Rattle.surf_graphs.specs.Graphs.{Graph, joins}
use Rattle.surf_graphs.specs.Trees.{Tree, IsTree, in_tree}
use Rattle.surf_graphs.specs.Growth.{Grown, IsHeavy, between}
use Rattle.surf_heap.specs.Entries.{Entries, entry_of}
use Rattle.surf_base.specs.Tables.{nobody, at}

-- the greatest weight
abbrev pub heaviest : ℕ
heaviest = 18446744073709551615

-- a first pair is up to a second one
abbrev pub IsPairUpTo : ℕ → ℕ → ℕ → ℕ → Type 0
IsPairUpTo key tie k t = (key < k) ⊎ ((key ≡ k) × (tie ≤ t))

-- edge l is up to edge c by weight and number
abbrev pub lighter : (ℕ → ℕ) → ℕ → ℕ → Bool
lighter weight l c = nat_lt (weight l) (weight c) || (eqb (weight l) (weight c) && nat_le l c)

abbrev pub reached : List ℕ → ℕ → Bool
reached depth v = not (eqb (at depth v) nobody)

abbrev pub flag : List Bool → ℕ → Bool
flag flags v = get_or flags v false

abbrev pub outside : List Bool → ℕ → Bool
outside marks e = not (get_or marks e false)

-- the heap has a node, with a pair up to this one
pub record HasPair (heap : Entries) (w k t : ℕ) : Type 0 where
  pub key : ℕ
  pub tie : ℕ
  pub entry : entry_of heap w ≡ Some (key, tie)
  pub bound : IsPairUpTo key tie k t

-- edge e is allowed and leads from w to v, and the pair is its weight and number, turned
pub record IsBridge (g : Graph) (allowed : ℕ → Bool) (weight : ℕ → ℕ) (v w k t e : ℕ) : Type 0 where
  pub edge_in : e < g.edges
  pub allowed_edge : allowed e ≡ true
  pub joined : joins g w v e ≡ true
  pub key_is : k + weight e ≡ heaviest
  pub tie_is : t + e ≡ nobody

-- the unreached neighbours of v have been offered to a heap
pub record IsOffered (g : Graph) (allowed : ℕ → Bool) (weight : ℕ → ℕ) (in_tree : ℕ → Bool) (v : ℕ)
    (old new : Entries) : Type 0 where
  pub same_length : length new ≡ length old
  pub came : (w k t : ℕ) → entry_of new w ≡ Some (k, t) →
      (entry_of old w ≡ Some (k, t)) ⊎
      ((w < g.nodes) × (in_tree w ≡ false) × ((e : ℕ) × IsBridge g allowed weight v w k t e))
  pub kept : (w k t : ℕ) → entry_of old w ≡ Some (k, t) → HasPair new w k t
  pub offered : (w e : ℕ) → e < g.edges → allowed e ≡ true → joins g v w e ≡ true → in_tree w ≡ false →
      HasPair new w (heaviest - weight e) (nobody - e)

-- a node in the heap, with its pair
pub record IsWaiting (g : Graph) (allowed : ℕ → Bool) (weight : ℕ → ℕ) (in_tree : ℕ → Bool) (w k t : ℕ) : Type 0 where
  pub within : w < g.nodes
  pub free : in_tree w ≡ false
  pub before : ℕ
  pub edge : ℕ
  pub before_in : before < g.nodes
  pub before_reached : in_tree before ≡ true
  pub bridge : IsBridge g allowed weight before w k t edge

-- the state of the search: a heavy tree of the reached nodes, and the heap has the nodes that they have allowed edges
-- to
pub record IsPrim (g : Graph) (allowed : ℕ → Bool) (weight : ℕ → ℕ) (in_tree : ℕ → Bool) (tree : Tree)
    (heap : Entries) (left : ℕ) : Type 0 where
  pub grown : Grown g allowed in_tree tree
  pub heavy : IsHeavy g allowed in_tree tree (lighter weight)
  pub waiting : (w k t : ℕ) → entry_of heap w ≡ Some (k, t) → IsWaiting g allowed weight in_tree w k t
  pub offered : (u w e : ℕ) → u < g.nodes → w < g.nodes → e < g.edges → allowed e ≡ true → joins g u w e ≡ true →
      in_tree u ≡ true → in_tree w ≡ false → HasPair heap w (heaviest - weight e) (nobody - e)
  pub shallow : (u : ℕ) → u < g.nodes → in_tree u ≡ true → tree.rank u + left < g.nodes
  pub root_rank : tree.rank tree.root ≡ 0
  pub deep : (u : ℕ) → u < g.nodes → in_tree u ≡ true → u ≢ tree.root → tree.rank u ≡ suc (tree.rank (tree.parent u))

abbrev pub spanned_tree : ℕ → List ℕ → List ℕ → List ℕ → Tree
spanned_tree root parent up depth = record { root = root; parent = at parent; up = at up; rank = at depth }

-- a spanning tree over allowed edges, such that each edge on its path between the ends of an allowed edge outside it
-- is greater, by weight and number
pub record IsHeaviestTree (g : Graph) (allowed : ℕ → Bool) (weight : ℕ → ℕ) (t : Tree) : Type 0 where
  pub tree : IsTree g t
  pub over : (n : ℕ) → n < g.nodes → n ≢ t.root → allowed (t.up n) ≡ true
  -- the rank is the number of edges to the root
  pub root_rank : t.rank t.root ≡ 0
  pub deep : (n : ℕ) → n < g.nodes → n ≢ t.root → t.rank n ≡ suc (t.rank (t.parent n))
  pub greater : (l c : ℕ) → l < g.edges → allowed l ≡ true → in_tree g t l ≡ false →
      between t (g.from l) (g.to l) c ≡ true → (weight l < weight c) ⊎ ((weight l ≡ weight c) × (l < c))

-- an edge that neither table marks
abbrev pub is_unmarked : List Bool → List Bool → ℕ → Bool
is_unmarked first second e = outside first e && outside second e
