-- Simple cycles, and which chains separate the faces.
use Rattle.std.specs.Prelude.{ℕ, ◌≡◌, ◌≢◌, ◌<◌, ◌≤◌, ◌+◌, Bool, true, false, List, [], ◌∷◌, length, ◌||◌, ◌==◌}
use Rattle.surf_z2.specs.Parity.{xor}
use Rattle.surf_graphs.specs.Graphs.{edge_between, Graph, IsGraphWalk, walk_chain, graph_walk_length}
use Rattle.surf_graphs.specs.Cells.{Cells, cell_boundary}

-- n is not in the list
abbrev pub IsOff : ℕ → List ℕ → Type 0
IsOff n [] = Unit {0}
IsOff n (m ∷ w) = (n ≢ m) × IsOff n w

-- nothing is in the list twice
abbrev pub IsDistinct : List ℕ → Type 0
IsDistinct [] = Unit {0}
IsDistinct (m ∷ w) = IsOff m w × IsDistinct w

-- a closed walk from a of at least three steps, on which no node stands twice but the first and last
abbrev pub IsSimpleGraphCycle : Graph → ℕ → List ℕ → Type 0
IsSimpleGraphCycle g a w = IsGraphWalk g a w a × (3 ≤ length w) × IsDistinct w

-- edge e is run by a step of the walk
abbrev pub graph_runs : Graph → ℕ → List ℕ → ℕ → Bool
graph_runs g a [] e = false
graph_runs g a (c ∷ w) e = (edge_between g a c == e) || graph_runs g c w e

-- the faces divide into two classes that only edges of the chain part, and neither is empty
abbrev pub Separates : Cells → (ℕ → Bool) → Type 0
Separates s chain = (set : ℕ → Bool) × ((e : ℕ) → e < s.edges → chain e ≡ false → cell_boundary s set e ≡ false)
    × ((f : ℕ) × (f < s.faces) × (set f ≡ true)) × ((f : ℕ) × (f < s.faces) × (set f ≡ false))

-- the closed walk w from a is the sum of two closed walks that are not empty
pub record TwoWalks (g : Graph) (a : ℕ) (w : List ℕ) : Type 0 where
  pub first : List ℕ
  pub first_walk : IsGraphWalk g a first a
  pub first_some : 1 ≤ length first
  pub base : ℕ
  pub second : List ℕ
  pub second_walk : IsGraphWalk g base second base
  pub second_some : 1 ≤ length second
  pub edges : (e : ℕ) → walk_chain g a w e ≡ xor (walk_chain g a first e) (walk_chain g base second e)
  pub long : (len : ℕ → ℕ) → graph_walk_length g len a w ≡ graph_walk_length g len a first + graph_walk_length g len base second
