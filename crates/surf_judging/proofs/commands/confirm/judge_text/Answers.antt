use Rattle.surf_class.specs.Seen.{seen}
use Rattle.surf_answers.proofs.Composing.{alone, past_alone, stopped_alone}
use Rattle.surf_judging.proofs.commands.confirm.judge_text.Goals as goal

pub returns-in_err-evidence : goal.returns-in_err-evidence
returns-in_err-evidence c =
    stopped_alone alone c.in_err-evidence.field-0.0 c.in_err-evidence.ensures c.from_residual.result
    c.from_residual.ensures.1

pub returns : goal.returns
returns c =
    (past_alone alone (seen c.in_ok-evidence.evidence) c.in_ok-evidence.ensures).so c.judge_evidence.result
    c.judge_evidence.ensures
