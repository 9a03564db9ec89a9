-- Independent chains, and cycles of which all loops are sums.
use Rattle.std.specs.Prelude.{ℕ, ◌≡◌, ◌<◌, Bool, List, [], map, length}
use Rattle.surf_z2.specs.Space.{Chain, chains, numbers, chosen, sum_of, Weighed, SpannedUpToWeight}
use Rattle.surf_z2.specs.Below.{number_of}
use Rattle.surf_graphs.specs.Graphs.{Graph, IsGraphWalk, walk_chain, graph_walk_length}
use Rattle.surf_graphs.specs.Trees.{Tree, loop, graph_loop_length}
use Rattle.surf_graphs.specs.Cells.{Cells, primal, IsNullChain, Split, chain_signature}

-- no sum of one or more of the chains is null
abbrev pub AreIndependentChains : Cells → List Chain → Type 0
AreIndependentChains s xs = (choice : List Bool) → IsNullChain s (sum_of chains (chosen choice xs)) →
    chosen choice xs ≡ []

-- the signature of a chain as one number: bit k says whether it has the k-th left edge
abbrev pub signature_of : Cells → Split → Chain → ℕ
signature_of s d chain = number_of (length d.left) (chain_signature s d chain)

-- a chain's signature with its length
abbrev pub signed : Cells → Split → Weighed Chain → Weighed ℕ
signed s d x = record { weight = x.weight; vector = signature_of s d x.vector }

-- the loop of an edge with its length
abbrev pub loop_chain : Graph → (ℕ → ℕ) → Tree → ℕ → Weighed Chain
loop_chain g len t l = record { weight = graph_loop_length g len t l; vector = loop g t l }

-- the loops of the left edges
abbrev pub left_loops : Cells → (ℕ → ℕ) → Split → List (Weighed Chain)
left_loops s len d = map (loop_chain (primal s) len d.tree) d.left

-- a closed walk from a vertex, as the vertex and what comes after it
abbrev pub IsClosedWalk : Cells → ℕ × List ℕ → Type 0
IsClosedWalk s w = (w.0 < s.vertices) × IsGraphWalk (primal s) w.0 w.1 w.0

-- the edges that it runs an odd number of times, with its length
abbrev pub closed_walk : Graph → (ℕ → ℕ) → ℕ × List ℕ → Weighed Chain
closed_walk g len w = record { weight = graph_walk_length g len w.0 w.1; vector = walk_chain g w.0 w.1 }

-- the loop of each edge through each of the trees has the signature of a sum of cycles that are no
-- longer than it
abbrev pub IsCovering : Cells → (ℕ → ℕ) → Split → (ℕ → Tree) → List (Weighed Chain) → Type 0
IsCovering s len d trees cycles = (x e : ℕ) → x < s.vertices → e < s.edges →
    SpannedUpToWeight numbers (map (signed s d) cycles) (signed s d (loop_chain (primal s) len (trees x) e))
