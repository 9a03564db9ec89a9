-- What is found on a surface in short: its counts, and what its least loops, its least basis and its shortest cycle
-- measure.
use Rattle.std.specs.Prelude.{◌≡◌, ℕ, List, ◌++◌, map, sum}
use Rattle.surf_surfaces.specs.Mesh.{Mesh}
use Rattle.surf_surfaces.specs.Walk.{walk_length}
use Rattle.surf_surfaces.specs.Choice.{Loop, loops_at}
use Rattle.surf_texts.specs.Outcome.{Outcome, answers}
use Rattle.surf_texts.specs.SummaryTexts.{measures_text}
use Rattle.surf_answers.specs.Found.{FoundLoops, FoundBasis, FoundCycle}
use Rattle.surf_answers.specs.Info.{Informs}

-- the lengths of loops together
abbrev pub total_size : List Loop → ℕ
total_size loops = sum (map (λ c. c.size) loops)

-- the loops at vertex 0 total so much
pub record LoopsTotal (mesh : Mesh) (lengths : List ℕ) (total : ℕ) : Type 0 where
  pub found : FoundLoops mesh lengths 0
  pub is : total ≡ total_size (loops_at mesh lengths 0 found.trees)

-- the basis totals so much
pub record BasisTotals (mesh : Mesh) (lengths : List ℕ) (total : ℕ) : Type 0 where
  pub found : FoundBasis mesh lengths
  pub is : total ≡ total_size found.basis

-- the cycle has this length
pub record CycleMeasures (mesh : Mesh) (lengths : List ℕ) (size : ℕ) : Type 0 where
  pub found : FoundCycle mesh lengths
  pub is : size ≡ walk_length mesh lengths found.first.walk

-- What `info` answers of the surface, and then the three measures.
pub record GivesSummary (mesh : Mesh) (lengths : List ℕ) (outcome : Outcome) : Type 0 where
  pub facts : List ℕ
  pub informs : Informs mesh (answers 0 facts)
  pub loops : ℕ
  pub loops_total : LoopsTotal mesh lengths loops
  pub basis : ℕ
  pub basis_totals : BasisTotals mesh lengths basis
  pub cycle : ℕ
  pub cycle_measures : CycleMeasures mesh lengths cycle
  pub text : outcome ≡ answers 0 (facts ++ measures_text loops basis cycle)
