use Rattle.surf_answers.proofs.Commands.{IsSurfaceText, begun, over, past, ended, stopped, stopped_over, text_stopped}
use Rattle.surf_looking.proofs.commands.dist.answer.Goals as goal

pub returns-in_err-mesh-clause-tells : goal.returns-in_err-mesh-clause-tells
returns-in_err-mesh-clause-tells g c =
    text_stopped _ _ _ IsSurfaceText _ _ c.in_err-mesh.field-0.0 c.in_err-mesh.ensures.tells c.from_residual.result c.from_residual.ensures.1

pub returns-in_err-lengths-clause-tells : goal.returns-in_err-lengths-clause-tells
returns-in_err-lengths-clause-tells g c =
    let read = c.in_ok-mesh in
    let held = read.ensures.held in
    stopped_over (past (over begun held.0 read.ensures.holds held.2.0 read.ensures.later) (held.1, read.mesh) held.2.1)
    _ c.in_err-lengths.field-0.0 read.ensures.holds c.in_err-lengths.ensures.tells
    c.from_residual-in_err-lengths.result c.from_residual-in_err-lengths.ensures.1

pub returns-in_err-base-clause-tells : goal.returns-in_err-base-clause-tells
returns-in_err-base-clause-tells g c =
    let read = c.in_ok-mesh in
    let held = read.ensures.held in
    let lengths = c.in_ok-lengths in
    stopped (over (past (over begun held.0 read.ensures.holds held.2.0 read.ensures.later) (held.1, read.mesh) held.2.1)
    lengths.lengths read.ensures.holds lengths.ensures.tells lengths.ensures.later) c.in_err-base.field-0.0 c.in_err-base.ensures.tells
    c.from_residual-in_err-base.result c.from_residual-in_err-base.ensures.1

pub returns-clause-tells : goal.returns-clause-tells
returns-clause-tells g c =
    let read = c.in_ok-mesh in
    let held = read.ensures.held in
    let lengths = c.in_ok-lengths in
    ended (past (over (past (over begun held.0 read.ensures.holds held.2.0 read.ensures.later) (held.1, read.mesh) held.2.1)
    lengths.lengths read.ensures.holds lengths.ensures.tells lengths.ensures.later) c.in_ok-base.base c.in_ok-base.ensures.tells)
    c.dist_of.result c.dist_of.ensures
