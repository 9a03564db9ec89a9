use Rattle.surf_surfaces.proofs.Common.{◌≡◌, ℕ, Option, length, edge_count}
use Rattle.surf_text.specs.Walks.{lines_ahead}
use Rattle.surf_lengths.proofs.Naming.{IsSoFar}
use Rattle.surf_lengths.proofs.file.name_all.Given as goal

abbrev pub invariant-loop-entry : goal.invariant-loop-entry
invariant-loop-entry l = record {
  sized : length l.table ≡ edge_count l.mesh;
  so_far : (default : Option ℕ) → IsSoFar l.mesh default (lines_ahead l.initial.lines) (lines_ahead l.lines) l.table;
}

abbrev pub decreases-loop-entry : goal.decreases-loop-entry
decreases-loop-entry l = length (lines_ahead l.lines)
