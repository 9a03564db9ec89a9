use Rattle.surf_answers.proofs.Common.{Some}
use Rattle.surf_answers.proofs.Commands.{confirm, OnRequest, IsSurfaceText, resumed, text_stopped}
use Rattle.surf_judging.proofs.commands.confirm.answer.Goals as goal

pub returns-in_err-mesh-clause-tells : goal.returns-in_err-mesh-clause-tells
returns-in_err-mesh-clause-tells g c =
    text_stopped _ _ _ IsSurfaceText _ _ c.in_err-mesh.field-0.0 c.in_err-mesh.ensures.tells c.from_residual.result c.from_residual.ensures.1

pub returns-clause-tells : goal.returns-clause-tells
returns-clause-tells g c =
    let read = c.in_ok-mesh in
    let held = read.ensures.held in
    resumed (g.S.Shelf.faults c.answer_on.new.shelf) (OnRequest (Some (confirm c.args.mesh.now c.args.walk.now c.args.cert.now)))
    read.ensures.holds read.ensures.later c.answer_on.result
    (c.answer_on.ensures.tells c.args.mesh.now held.0 held.1 held.2)
