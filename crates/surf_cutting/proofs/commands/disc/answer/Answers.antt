use Rattle.surf_answers.proofs.Commands.{IsMeshText, begun, over, past, ended, text_stopped}
use Rattle.surf_cutting.proofs.commands.disc.answer.Goals as goal

pub returns-in_err-soup-clause-tells : goal.returns-in_err-soup-clause-tells
returns-in_err-soup-clause-tells g c =
    text_stopped _ _ _ IsMeshText _ _ c.in_err-soup.field-0.0 c.in_err-soup.ensures.tells c.from_residual.result c.from_residual.ensures.1

pub returns-clause-tells : goal.returns-clause-tells
returns-clause-tells g c =
    let read = c.in_ok-soup in
    let held = read.ensures.held in
    ended (past (over begun held.0 read.ensures.holds held.2.0 read.ensures.later) (held.1, read.soup) held.2.1)
    c.disc_of.result c.disc_of.ensures
