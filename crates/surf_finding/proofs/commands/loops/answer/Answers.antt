use Rattle.surf_answers.proofs.Common.{ℕ, List, refl, Mesh, Outcome, GivesLoops}
use Rattle.surf_answers.proofs.Commands.{Files, HasBase, Ends, over, past, ended, stopped, stopped_over}
use Rattle.surf_answers.proofs.Commands.{measured_front}
use Rattle.surf_finding.proofs.commands.loops.answer.Goals as goal

-- what follows the front of the row
abbrev behind : ℕ → Mesh → List ℕ → Files → Outcome → Type 0
behind base mesh values files = Ends (HasBase base mesh) (λ vertex. GivesLoops mesh values vertex)

pub returns-in_err-mesh-clause-tells : goal.returns-in_err-mesh-clause-tells
returns-in_err-mesh-clause-tells g c =
    stopped_over (measured_front (behind c.args.base) c.args.mesh.now c.args.lengths.now) _ c.in_err-mesh.field-0.0 refl
    c.in_err-mesh.ensures.tells c.from_residual.result c.from_residual.ensures.1

pub returns-in_err-base-clause-tells : goal.returns-in_err-base-clause-tells
returns-in_err-base-clause-tells g c =
    let front = c.in_ok-mesh in
    stopped (over (measured_front (behind c.args.base) c.args.mesh.now c.args.lengths.now) (front.mesh, front.lengths) refl
    front.ensures.tells front.ensures.later) c.in_err-base.field-0.0 c.in_err-base.ensures.tells
    c.from_residual-in_err-base.result c.from_residual-in_err-base.ensures.1

pub returns-clause-tells : goal.returns-clause-tells
returns-clause-tells g c =
    let front = c.in_ok-mesh in
    ended (past (over (measured_front (behind c.args.base) c.args.mesh.now c.args.lengths.now) (front.mesh, front.lengths) refl
    front.ensures.tells front.ensures.later) c.in_ok-base.base c.in_ok-base.ensures.tells) c.loops_of.result c.loops_of.ensures
