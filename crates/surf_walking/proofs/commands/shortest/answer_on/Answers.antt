use Rattle.std.proofs.Common.{refl, arith}
use Rattle.surf_answers.proofs.Composing.{begun, over, past, ended, stopped, stopped_over}
use Rattle.surf_walking.proofs.commands.shortest.answer_on.Goals as goal

pub returns-in_err-test_loops-clause-tells : goal.returns-in_err-test_loops-clause-tells
returns-in_err-test_loops-clause-tells g c = λ name bytes parts from.
    stopped (past (over begun bytes refl from.0 (omega arith)) (parts, c.args.mesh.now) from.1)
    c.in_err-test_loops.field-0.0 c.in_err-test_loops.ensures.tells c.from_residual.result
    c.from_residual.ensures.1

pub returns-in_err-test_cover_loops-clause-tells : goal.returns-in_err-test_cover_loops-clause-tells
returns-in_err-test_cover_loops-clause-tells g c = λ name bytes parts from.
    stopped (past (past (over begun bytes refl from.0 (omega arith)) (parts, c.args.mesh.now) from.1) tt
    c.in_ok-test_loops.ensures.tells) c.in_err-test_cover_loops.field-0.0 c.in_err-test_cover_loops.ensures.tells
    c.from_residual-in_err-test_cover_loops.result c.from_residual-in_err-test_cover_loops.ensures.1

pub returns-in_err-test_cover_nodes-clause-tells : goal.returns-in_err-test_cover_nodes-clause-tells
returns-in_err-test_cover_nodes-clause-tells g c = λ name bytes parts from.
    stopped (past (past (past (over begun bytes refl from.0 (omega arith)) (parts, c.args.mesh.now) from.1) tt
    c.in_ok-test_loops.ensures.tells) tt c.in_ok-test_cover_loops.ensures.tells)
    c.in_err-test_cover_nodes.field-0.0 c.in_err-test_cover_nodes.ensures.tells
    c.from_residual-in_err-test_cover_nodes.result c.from_residual-in_err-test_cover_nodes.ensures.1

pub returns-in_err-lengths-clause-tells : goal.returns-in_err-lengths-clause-tells
returns-in_err-lengths-clause-tells g c = λ name bytes parts from.
    stopped_over (past (past (past (past (over begun bytes refl from.0 (omega arith)) (parts, c.args.mesh.now)
    from.1) tt c.in_ok-test_loops.ensures.tells) tt c.in_ok-test_cover_loops.ensures.tells) tt
    c.in_ok-test_cover_nodes.ensures.tells) _ c.in_err-lengths.field-0.0 refl c.in_err-lengths.ensures.tells
    c.from_residual-in_err-lengths.result c.from_residual-in_err-lengths.ensures.1

pub returns-in_err-walk-clause-tells : goal.returns-in_err-walk-clause-tells
returns-in_err-walk-clause-tells g c = λ name bytes parts from.
    stopped_over (over (past (past (past (past (over begun bytes refl from.0 (omega arith)) (
      parts,
      c.args.mesh.now,
    ) from.1) tt c.in_ok-test_loops.ensures.tells) tt c.in_ok-test_cover_loops.ensures.tells) tt
    c.in_ok-test_cover_nodes.ensures.tells) c.in_ok-lengths.lengths refl c.in_ok-lengths.ensures.tells
    c.in_ok-lengths.ensures.later) _ c.in_err-walk.field-0.0 c.in_ok-lengths.ensures.holds
    c.in_err-walk.ensures.tells c.from_residual-in_err-walk.result c.from_residual-in_err-walk.ensures.1

pub returns-clause-tells : goal.returns-clause-tells
returns-clause-tells g c = λ name bytes parts from.
    ended (over (over (past (past (past (past (over begun bytes refl from.0 (omega arith)) (parts, c.args.mesh.now)
    from.1) tt c.in_ok-test_loops.ensures.tells) tt c.in_ok-test_cover_loops.ensures.tells) tt
    c.in_ok-test_cover_nodes.ensures.tells) c.in_ok-lengths.lengths refl c.in_ok-lengths.ensures.tells
    c.in_ok-lengths.ensures.later) c.in_ok-walk.walk c.in_ok-lengths.ensures.holds c.in_ok-walk.ensures.tells
    c.in_ok-walk.ensures.later) c.shortest_of.result c.shortest_of.ensures
