-- Rooted trees, the loops of edges through them, and shortest trees.
use Rattle.std.specs.Prelude.{ℕ, zero, suc, ◌≡◌, ◌≢◌, ◌<◌, ◌≤◌, ◌+◌, Bool, true, false, not, ◌&&◌, ◌==◌, if◌then◌else◌}
use Rattle.surf_z2.specs.Parity.{xor, any_below}
use Rattle.surf_graphs.specs.Graphs.{Graph, joins}

-- a rooted tree: each node but the root has a parent, and `up` is the edge to it
pub record Tree : Type 0 where
  pub root : ℕ
  pub parent : ℕ → ℕ
  pub up : ℕ → ℕ
  -- a depth or a distance, which is less at the parent
  pub rank : ℕ → ℕ

-- a spanning tree: each node but the root has an edge of the graph to a parent, whose rank is less
pub record IsTree (g : Graph) (t : Tree) : Type 0 where
  pub root_in : t.root < g.nodes
  pub parent_in : (n : ℕ) → n < g.nodes → n ≢ t.root → t.parent n < g.nodes
  pub up_in : (n : ℕ) → n < g.nodes → n ≢ t.root → t.up n < g.edges
  pub up_joins : (n : ℕ) → n < g.nodes → n ≢ t.root → joins g n (t.parent n) (t.up n) ≡ true
  pub rank_falls : (n : ℕ) → n < g.nodes → n ≢ t.root → t.rank (t.parent n) < t.rank n

-- whether edge e leads from one of so many nodes, the root apart, to its parent
abbrev pub leads_up : ℕ → Tree → ℕ → Bool
leads_up nodes t e = any_below nodes (λ n. not (n == t.root) && (t.up n == e))

-- the edges of a tree are those that lead from a node to its parent
abbrev pub in_tree : Graph → Tree → ℕ → Bool
in_tree g t e = leads_up g.nodes t e

-- edge e is among the first `steps` edges on the way from n to the root
abbrev pub on_way : Tree → ℕ → ℕ → ℕ → Bool
on_way t zero n e = false
on_way t (suc steps) n e = if n == t.root then false else xor (t.up n == e) (on_way t steps (t.parent n) e)

-- edge e is on the tree's path between the root and n. Ranks fall on the way, so it has at most rank n edges
abbrev pub on_path : Tree → ℕ → ℕ → Bool
on_path t n e = on_way t (t.rank n) n e

-- the path to one end of edge l, that edge, and the path back from its other end
abbrev pub loop : Graph → Tree → ℕ → ℕ → Bool
loop g t l e = xor (l == e) (xor (on_path t (g.from l) e) (on_path t (g.to l) e))

-- the tree's ranks are the least lengths of walks from the root: it is 0 there, the parent's and the
-- edge's length elsewhere, and no edge is a short cut
pub record IsShortest (g : Graph) (len : ℕ → ℕ) (t : Tree) : Type 0 where
  pub none_at_root : t.rank t.root ≡ 0
  pub adds_up : (n : ℕ) → n < g.nodes → n ≢ t.root → t.rank n ≡ t.rank (t.parent n) + len (t.up n)
  pub no_short_cut : (e : ℕ) → e < g.edges → (t.rank (g.to e) ≤ t.rank (g.from e) + len e)
      × (t.rank (g.from e) ≤ t.rank (g.to e) + len e)

-- the length of the loop of edge l
abbrev pub graph_loop_length : Graph → (ℕ → ℕ) → Tree → ℕ → ℕ
graph_loop_length g len t l = t.rank (g.from l) + len l + t.rank (g.to l)
