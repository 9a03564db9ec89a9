use Rattle.std.proofs.Common.{ℕ, length}
use Rattle.surf_text.specs.Walks.{lines_ahead}
use Rattle.surf_lengths.specs.Naming.{IsFirstNaming}
use Rattle.surf_lengths.proofs.file.first_naming.Given as goal

abbrev pub invariant-loop-entry : goal.invariant-loop-entry
invariant-loop-entry l = (number : ℕ) → IsFirstNaming l.mesh l.edge (lines_ahead l.initial.lines) number → IsFirstNaming l.mesh l.edge (lines_ahead l.lines) number

abbrev pub decreases-loop-entry : goal.decreases-loop-entry
decreases-loop-entry l = length (lines_ahead l.lines)
