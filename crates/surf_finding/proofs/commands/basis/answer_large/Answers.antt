use Rattle.surf_answers.proofs.Common.{refl, GivesBasis}
use Rattle.surf_answers.proofs.Commands.{over, ended, stopped_over, measured_front}
use Rattle.surf_finding.proofs.commands.basis.answer_large.Goals as goal

pub returns-in_err-mesh-clause-tells : goal.returns-in_err-mesh-clause-tells
returns-in_err-mesh-clause-tells g c =
    stopped_over (measured_front (λ mesh values files. GivesBasis mesh values) c.args.mesh.now c.args.lengths.now) _
    c.in_err-mesh.field-0.0 refl c.in_err-mesh.ensures.tells c.from_residual.result c.from_residual.ensures.1

pub returns-clause-tells : goal.returns-clause-tells
returns-clause-tells g c =
    let front = c.in_ok-mesh in
    ended (over (measured_front (λ mesh values files. GivesBasis mesh values) c.args.mesh.now c.args.lengths.now)
    (front.mesh, front.lengths) refl front.ensures.tells front.ensures.later) c.basis_of.result c.basis_of.ensures
