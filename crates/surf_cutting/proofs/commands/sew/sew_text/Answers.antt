use Rattle.surf_answers.proofs.Composing.{alone, past_alone, stopped_alone}
use Rattle.surf_cutting.proofs.commands.sew.sew_text.Goals as goal

pub returns-in_err-text : goal.returns-in_err-text
returns-in_err-text c =
    stopped_alone alone c.in_err-text.field-0.0 c.in_err-text.ensures.tells c.from_residual.result
    c.from_residual.ensures.1

pub returns : goal.returns
returns c =
    (past_alone alone (c.in_ok-text.text, c.in_ok-text.copies) c.in_ok-text.ensures.tells).so
    c.sew_mesh.result c.sew_mesh.ensures
