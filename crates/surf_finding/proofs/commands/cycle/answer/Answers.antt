use Rattle.surf_answers.proofs.Common.{refl, BasisVertices, GivesCycle}
use Rattle.surf_answers.proofs.Commands.{over, ended, stopped_over, small_front}
use Rattle.surf_finding.proofs.commands.cycle.answer.Goals as goal

pub returns-in_err-mesh-clause-tells : goal.returns-in_err-mesh-clause-tells
returns-in_err-mesh-clause-tells g c =
    stopped_over (small_front (λ mesh values files. GivesCycle mesh values) c.args.mesh.now c.args.lengths.now BasisVertices 20000) _
    c.in_err-mesh.field-0.0 refl c.in_err-mesh.ensures.tells c.from_residual.result c.from_residual.ensures.1

pub returns-clause-tells : goal.returns-clause-tells
returns-clause-tells g c =
    let front = c.in_ok-mesh in
    ended (over (small_front (λ mesh values files. GivesCycle mesh values) c.args.mesh.now c.args.lengths.now BasisVertices 20000)
    (front.mesh, front.lengths) refl front.ensures.tells front.ensures.later) c.cycle_of.result c.cycle_of.ensures
