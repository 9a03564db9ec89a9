use Rattle.surf_answers.proofs.Commands.{IsSurfaceText, begun, over, past, ended, text_stopped}
use Rattle.surf_looking.proofs.commands.info.answer.Goals as goal

pub returns-in_err-kind-clause-tells : goal.returns-in_err-kind-clause-tells
returns-in_err-kind-clause-tells g c =
    text_stopped _ _ _ IsSurfaceText _ _ c.in_err-kind.field-0.0 c.in_err-kind.ensures.tells c.from_residual.result c.from_residual.ensures.1

pub returns-clause-tells : goal.returns-clause-tells
returns-clause-tells g c =
    let read = c.in_ok-kind in
    let held = read.ensures.held in
    ended (past (over begun held.0 read.ensures.holds held.2.0 read.ensures.later) (held.1, read.kind) held.2.1)
    c.kind_info_of.result c.kind_info_of.ensures
