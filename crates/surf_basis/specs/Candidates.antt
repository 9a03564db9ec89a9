-- Candidates for a basis as loops by trees of shortest walks, and their cycles.
use Rattle.std.specs.Prelude.{ℕ, ◌≡◌, ◌<◌, ◌⊎◌, IsTrue, List, [], ◌∷◌, map, length, slice_index_or, All, Contains, Option, Some, None}
use Rattle.std.specs.List.{zip}
use Rattle.std.specs.Option.{option_map}
use Rattle.surf_graphs.specs.Cells.{Split}
use Rattle.surf_surfaces.specs.Mesh.{Mesh}
use Rattle.surf_surfaces.specs.Surface.{edge_count}
use Rattle.surf_surfaces.specs.Class.{class_of}
use Rattle.surf_surfaces.specs.Loop.{loop_walk, loop_length}
use Rattle.surf_surfaces.specs.Cotree.{is_left}
use Rattle.surf_surfaces.specs.Choice.{Trees, AreChosenAt, Loop, AreChosen, candidates, loops_at}
use Rattle.surf_tree.specs.Tables.{TreeTables}
use Rattle.surf_loops.specs.declared.head.LoopHead.{LoopHead}
use Rattle.surf_loops.specs.Loops.{LoopTables}
use Rattle.surf_choice.specs.declared.candidate.Candidate.{Candidate}
use Rattle.surf_choice.specs.declared.candidate.Signed.{Signed}
use Rattle.surf_finder.specs.Walks.{IsLoopWalk}
use Rattle.surf_basis.specs.Cycles.{first_of}
use Rattle.surf_basis.specs.declared.cycle.Cycle.{Cycle}

-- a candidate as a loop, through the trees at all bases
abbrev pub loop_in : Mesh → (ℕ → Trees) → Candidate → Loop
loop_in mesh trees c =
    record { size = c.length; base = c.base; edge = c.edge; walk = loop_walk mesh (trees c.base).tree c.edge }

abbrev pub loops_in : Mesh → (ℕ → Trees) → List Signed → List Loop
loops_in mesh trees cs = map (λ c. loop_in mesh trees c.candidate) cs

-- its base is a vertex and its edge an edge
pub record IsInside (mesh : Mesh) (c : Candidate) : Type 0 where
  pub base : c.base < mesh.vertices
  pub edge : c.edge < edge_count mesh

-- the cycle has the candidate's length, base and edge, and its walk is that of the candidate's loop, whichever trees
-- show the choice at the base
pub record IsCycleOf (mesh : Mesh) (lengths : List ℕ) (c : Candidate) (cycle : Cycle) : Type 0 where
  pub size : cycle.length ≡ c.length
  pub base : cycle.base ≡ c.base
  pub edge : cycle.edge ≡ c.edge
  pub walk : (trees : Trees) → AreChosenAt mesh lengths c.base trees →
      IsTrue (is_left mesh trees.tree trees.cotree c.edge) → cycle.walk ≡ loop_walk mesh trees.tree c.edge

-- each cycle is that of the candidate at its place
abbrev pub AreCyclesOf : Mesh → List ℕ → List Signed → List Cycle → Type 0
AreCyclesOf mesh lengths [] [] = Unit {0}
AreCyclesOf mesh lengths [] (y ∷ ys) = ⊥
AreCyclesOf mesh lengths (c ∷ cs) [] = ⊥
AreCyclesOf mesh lengths (c ∷ cs) (y ∷ ys) = IsCycleOf mesh lengths c.candidate y × AreCyclesOf mesh lengths cs ys

-- a candidate with a walk, as a cycle
abbrev pub cycle_with : Signed × List ℕ → Cycle
cycle_with p = record {
  base = p.0.candidate.base;
  edge = p.0.candidate.edge;
  length = p.0.candidate.length;
  walk = p.1;
}

-- candidates with as many walks, as cycles
abbrev pub cycles_with : List Signed → List (List ℕ) → List Cycle
cycles_with kept walks = map cycle_with (zip kept walks)

-- each cycle has the walk of the loop of its edge at its base
abbrev pub HaveWalks : Mesh → List ℕ → List Cycle → Type 0
HaveWalks mesh lengths cycles = All (λ c. IsLoopWalk mesh lengths c.base c.edge c.walk) cycles

-- each candidate has the walk of the one of some cycles that has its length, base and edge, or none
pub record ArePutIn (cycles : List Cycle) (kept : List Signed) (walks : List (List ℕ)) : Type 0 where
  pub count : length walks ≡ length kept
  pub each : (k : ℕ) (s : Signed) → k < length kept → (slice_index_or walks k [] ≡ [])
      ⊎ Contains cycles (cycle_with (slice_index_or kept k s, slice_index_or walks k []))

-- a head of a desk as a candidate at its base
abbrev pub candidate_of : TreeTables → LoopHead → Candidate
candidate_of t h = record { length = h.length; base = t.base; edge = h.edge }

-- the first loop of a desk as a candidate, if it has one
abbrev pub first_head : LoopTables → Option Candidate
first_head t = option_map (candidate_of t.tree) (first_of t.heads)

-- a candidate is the loop of a left edge at its base, and its signature is that of its walk
pub record IsSigned (mesh : Mesh) (lengths : List ℕ) (trees : ℕ → Trees) (d : Split) (c : Signed) : Type 0 where
  pub base_in : c.candidate.base < mesh.vertices
  pub edge_in : c.candidate.edge < edge_count mesh
  pub left : IsTrue (is_left mesh (trees c.candidate.base).tree (trees c.candidate.base).cotree c.candidate.edge)
  pub size : c.candidate.length ≡ loop_length mesh lengths (trees c.candidate.base).tree c.candidate.edge
  pub signature : c.signature ≡ class_of mesh d (loop_walk mesh (trees c.candidate.base).tree c.candidate.edge)

-- the first candidate has the length and the base, and is the first loop there, whichever trees show the choice; or
-- there is no candidate
abbrev pub IsFirstPlace : Mesh → List ℕ → Option Candidate → Type 0
IsFirstPlace mesh lengths None = (trees : ℕ → Trees) → AreChosen mesh lengths trees → candidates mesh lengths trees ≡ []
IsFirstPlace mesh lengths (Some c) = (trees : ℕ → Trees) → AreChosen mesh lengths trees → (c.base < mesh.vertices)
    × (first_of (loops_at mesh lengths c.base (trees c.base)) ≡ first_of (candidates mesh lengths trees))
