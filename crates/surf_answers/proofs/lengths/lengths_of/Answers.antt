use Rattle.std.proofs.Common.{ℕ, List, Result, subst}
use Rattle.surf_lengths.specs.declared.fault.LengthFault.{LengthFault}
use Rattle.surf_answers.proofs.LengthLaws.{IsSized, lengths_sized}
use Rattle.surf_answers.proofs.lengths.lengths_of.Goals as goal

pub returns-clause-count : goal.returns-clause-count
returns-clause-count c = subst (λ (r : Result (List ℕ) LengthFault). IsSized c.args.mesh.now r) c.in_ok-lengths.ensures.gives (lengths_sized c.args.mesh.now c.args.bytes.now)
