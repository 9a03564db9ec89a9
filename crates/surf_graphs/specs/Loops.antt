-- The loops of edges through a tree, as walks.
use Rattle.std.specs.Prelude.{ℕ, zero, suc, ◌≡◌, ◌<◌, true, List, [], ◌∷◌, ◌++◌, ◌==◌, if◌then◌else◌}
use Rattle.surf_graphs.specs.Graphs.{Graph, joins}
use Rattle.surf_graphs.specs.Trees.{Tree}

-- no two edges join the same nodes
abbrev pub IsSimple : Graph → Type 0
IsSimple g = (a b e f : ℕ) → e < g.edges → f < g.edges → joins g a b e ≡ true → joins g a b f ≡ true → e ≡ f

-- the nodes after the root on the way down to n, at most `steps`
abbrev pub way_down : Tree → ℕ → ℕ → List ℕ
way_down t zero n = []
way_down t (suc steps) n = if n == t.root then [] else (way_down t steps (t.parent n) ++ n ∷ [])

-- the nodes after n on the way up to the root, at most `steps`
abbrev pub way_up : Tree → ℕ → ℕ → List ℕ
way_up t zero n = []
way_up t (suc steps) n = if n == t.root then [] else (t.parent n ∷ way_up t steps (t.parent n))

-- the nodes after the root on the loop of edge l: down to its one end, over it, and up from its other end
abbrev pub graph_loop_walk : Graph → Tree → ℕ → List ℕ
graph_loop_walk g t l = way_down t (t.rank (g.from l)) (g.from l) ++ (g.to l ∷ way_up t (t.rank (g.to l)) (g.to l))
