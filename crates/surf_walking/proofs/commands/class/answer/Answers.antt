use Rattle.surf_answers.proofs.Commands.{IsSurfaceText, begun, over, past, ended, stopped, stopped_over, text_stopped}
use Rattle.surf_walking.proofs.commands.class.answer.Goals as goal

pub returns-in_err-mesh-clause-tells : goal.returns-in_err-mesh-clause-tells
returns-in_err-mesh-clause-tells g c =
    text_stopped _ _ _ IsSurfaceText _ _ c.in_err-mesh.field-0.0 c.in_err-mesh.ensures.tells c.from_residual.result c.from_residual.ensures.1

pub returns-in_err-test_loops-clause-tells : goal.returns-in_err-test_loops-clause-tells
returns-in_err-test_loops-clause-tells g c =
    let read = c.in_ok-mesh in
    let held = read.ensures.held in
    stopped (past (over begun held.0 read.ensures.holds held.2.0 read.ensures.later) (held.1, read.mesh) held.2.1)
    c.in_err-test_loops.field-0.0 c.in_err-test_loops.ensures.tells c.from_residual-in_err-test_loops.result
    c.from_residual-in_err-test_loops.ensures.1

pub returns-in_err-walk-clause-tells : goal.returns-in_err-walk-clause-tells
returns-in_err-walk-clause-tells g c =
    let read = c.in_ok-mesh in
    let held = read.ensures.held in
    stopped_over (past (past (over begun held.0 read.ensures.holds held.2.0 read.ensures.later) (held.1, read.mesh) held.2.1)
    tt c.in_ok-test_loops.ensures.tells) _ c.in_err-walk.field-0.0 read.ensures.holds c.in_err-walk.ensures.tells
    c.from_residual-in_err-walk.result c.from_residual-in_err-walk.ensures.1

pub returns-clause-tells : goal.returns-clause-tells
returns-clause-tells g c =
    let read = c.in_ok-mesh in
    let held = read.ensures.held in
    let walk = c.in_ok-walk in
    ended (over (past (past (over begun held.0 read.ensures.holds held.2.0 read.ensures.later) (held.1, read.mesh) held.2.1)
    tt c.in_ok-test_loops.ensures.tells) walk.walk read.ensures.holds walk.ensures.tells walk.ensures.later)
    c.class_of.result c.class_of.ensures
