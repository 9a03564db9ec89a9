use Rattle.std.proofs.Common.{refl, arith}
use Rattle.surf_answers.proofs.Composing.{begun, over, over_as, past, ended, stopped_over}
use Rattle.surf_judging.proofs.commands.confirm.answer_on.Goals as goal

pub returns-in_err-walk-clause-tells : goal.returns-in_err-walk-clause-tells
returns-in_err-walk-clause-tells g c = λ name bytes parts from.
    stopped_over (past (over begun bytes refl from.0 (omega arith)) (parts, c.args.mesh.now) from.1) _
    c.in_err-walk.field-0.0 refl c.in_err-walk.ensures.tells c.from_residual.result c.from_residual.ensures.1

pub returns-in_err-text-clause-tells : goal.returns-in_err-text-clause-tells
returns-in_err-text-clause-tells g c = λ name bytes parts from.
    stopped_over (over (past (over begun bytes refl from.0 (omega arith)) (parts, c.args.mesh.now) from.1)
    c.in_ok-walk.walk refl c.in_ok-walk.ensures.tells c.in_ok-walk.ensures.later) _ c.in_err-text.field-0.0
    c.in_ok-walk.ensures.holds c.in_err-text.ensures.tells c.from_residual-in_err-text.result
    c.from_residual-in_err-text.ensures.1

pub returns-clause-tells : goal.returns-clause-tells
returns-clause-tells g c = λ name bytes parts from.
    ended (over_as (over (past (over begun bytes refl from.0 (omega arith)) (parts, c.args.mesh.now) from.1)
    c.in_ok-walk.walk refl c.in_ok-walk.ensures.tells c.in_ok-walk.ensures.later) c.in_ok-text.text.items
    c.in_ok-walk.ensures.holds c.in_ok-text.ensures.tells c.in_ok-text.ensures.later _ c.deref.ensures.value)
    c.judge_text.result c.judge_text.ensures
