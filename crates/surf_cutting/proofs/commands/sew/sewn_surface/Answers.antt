use Rattle.surf_answers.proofs.Composing.{alone, past_alone, stopped_alone}
use Rattle.surf_cutting.proofs.commands.sew.sewn_surface.Goals as goal

pub returns-in_err-mesh : goal.returns-in_err-mesh
returns-in_err-mesh c =
    stopped_alone alone c.in_err-mesh.field-0.0 c.in_err-mesh.ensures c.from_residual.result c.from_residual.ensures.1

pub returns : goal.returns
returns c = (past_alone alone c.in_ok-mesh.mesh c.in_ok-mesh.ensures).so c.sewn_text.result c.sewn_text.ensures
