use Rattle.std.proofs.Common.{refl, arith}
use Rattle.surf_answers.proofs.Composing.{begun, over, past, ended, stopped, stopped_over}
use Rattle.surf_walking.proofs.commands.same.answer_on.Goals as goal

pub returns-in_err-test_loops-clause-tells : goal.returns-in_err-test_loops-clause-tells
returns-in_err-test_loops-clause-tells g c = λ name bytes parts from.
    stopped (past (over begun bytes refl from.0 (omega arith)) (parts, c.args.mesh.now) from.1)
    c.in_err-test_loops.field-0.0 c.in_err-test_loops.ensures.tells c.from_residual.result
    c.from_residual.ensures.1

pub returns-in_err-walk-clause-tells : goal.returns-in_err-walk-clause-tells
returns-in_err-walk-clause-tells g c = λ name bytes parts from.
    stopped_over (past (past (over begun bytes refl from.0 (omega arith)) (parts, c.args.mesh.now) from.1) tt
    c.in_ok-test_loops.ensures.tells) _ c.in_err-walk.field-0.0 refl c.in_err-walk.ensures.tells
    c.from_residual-in_err-walk.result c.from_residual-in_err-walk.ensures.1

pub returns-in_err-other-clause-tells : goal.returns-in_err-other-clause-tells
returns-in_err-other-clause-tells g c = λ name bytes parts from.
    stopped_over (over (past (past (over begun bytes refl from.0 (omega arith)) (parts, c.args.mesh.now) from.1) tt
    c.in_ok-test_loops.ensures.tells) c.in_ok-walk.walk refl c.in_ok-walk.ensures.tells c.in_ok-walk.ensures.later)
    _ c.in_err-other.field-0.0 c.in_ok-walk.ensures.holds c.in_err-other.ensures.tells
    c.from_residual-in_err-other.result c.from_residual-in_err-other.ensures.1

pub returns-clause-tells : goal.returns-clause-tells
returns-clause-tells g c = λ name bytes parts from.
    ended (over (over (past (past (over begun bytes refl from.0 (omega arith)) (parts, c.args.mesh.now) from.1) tt
    c.in_ok-test_loops.ensures.tells) c.in_ok-walk.walk refl c.in_ok-walk.ensures.tells c.in_ok-walk.ensures.later)
    c.in_ok-other.other c.in_ok-walk.ensures.holds c.in_ok-other.ensures.tells c.in_ok-other.ensures.later)
    c.class_of.result c.class_of.ensures
