use Rattle.surf_answers.proofs.Composing.{alone, past_alone, stopped_alone}
use Rattle.surf_judging.proofs.commands.check.judge_text.Goals as goal

pub returns-in_err-cert : goal.returns-in_err-cert
returns-in_err-cert c =
    stopped_alone alone c.in_err-cert.field-0.0 c.in_err-cert.ensures c.from_residual.result
    c.from_residual.ensures.1

pub returns-in_err-test_trees : goal.returns-in_err-test_trees
returns-in_err-test_trees c =
    stopped_alone (past_alone alone c.in_ok-cert.cert c.in_ok-cert.ensures) c.in_err-test_trees.field-0.0
    c.in_err-test_trees.ensures.tells c.from_residual-in_err-test_trees.result
    c.from_residual-in_err-test_trees.ensures.1

pub returns : goal.returns
returns c =
    (past_alone (past_alone alone c.in_ok-cert.cert c.in_ok-cert.ensures) tt c.in_ok-test_trees.ensures.tells).so
    c.judge.result c.judge.ensures
