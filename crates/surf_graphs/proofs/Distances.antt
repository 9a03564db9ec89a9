-- The ranks of a shortest tree are distances.
use Rattle.std.proofs.Common.{◌≡◌, ℕ, ◌+◌, ◌<◌, ◌≤◌, arith, List, [], ◌∷◌}
use Rattle.surf_graphs.specs.Graphs.{Graph, IsGraphWalk, graph_walk_length, edge_between}
use Rattle.surf_graphs.specs.Trees.{Tree, IsTree, IsShortest}
use Rattle.surf_graphs.specs.Loops.{IsSimple}
use Rattle.surf_graphs.proofs.Graphs.{edge_between_is}
use Rattle.surf_graphs.proofs.Lengths.{step_short}
use Rattle.surf_graphs.proofs.Loops.{down_walk}

pub walk_from : (g : Graph) (len : ℕ → ℕ) (t : Tree) → IsShortest g len t → (a : ℕ) (w : List ℕ) (b : ℕ) →
    IsGraphWalk g a w b → t.rank b ≤ t.rank a + graph_walk_length g len a w
walk_from g len t short a [] b h = rw h (omega arith)
walk_from g len t short a (c ∷ w) b h =
    let step = edge_between_is g a c h.0 in
    let near = step_short g len t short a c (edge_between g a c) step.0 step.1 in
    let rest : t.rank b ≤ t.rank c + graph_walk_length g len c w = walk_from g len t short c w b h.1 in
    let first : t.rank c ≤ t.rank a + len (edge_between g a c) = near.1 in
    omega arith

-- the ranks of a shortest tree are the least lengths of walks from its root
pub ranks_least : (g : Graph) (len : ℕ → ℕ) (t : Tree) → IsSimple g → IsTree g t → IsShortest g len t → (n : ℕ) →
    n < g.nodes →
    ((w : List ℕ) × IsGraphWalk g t.root w n × (graph_walk_length g len t.root w ≡ t.rank n))
    × ((w : List ℕ) → IsGraphWalk g t.root w n → t.rank n ≤ graph_walk_length g len t.root w)
ranks_least g len t simple ok short n l = (
  down_walk g len t simple ok short n l,
  λ w walk.
      let bound : t.rank n ≤ t.rank t.root + graph_walk_length g len t.root w = walk_from g len t short t.root w n walk in
      let base : t.rank t.root ≡ 0 = short.none_at_root in
      omega arith,
)
