use Rattle.surf_answers.proofs.Common.{subst, Mesh, GivesMesh, Concludes}
use Rattle.surf_answers.proofs.Commands.{alone, past_alone, stopped_alone}
use Rattle.surf_looking.proofs.commands.gen_shape.answer.Goals as goal

pub returns-in_err-test_vertices : goal.returns-in_err-test_vertices
returns-in_err-test_vertices c = λ files.
    stopped_alone alone c.in_err-test_vertices.field-0.0 c.in_err-test_vertices.ensures.tells c.from_residual.result c.from_residual.ensures.1

pub returns-in_err-test_faces : goal.returns-in_err-test_faces
returns-in_err-test_faces c = λ files.
    stopped_alone (past_alone alone tt c.in_ok-test_vertices.ensures.tells) c.in_err-test_faces.field-0.0 c.in_err-test_faces.ensures.tells
    c.from_residual-in_err-test_faces.result c.from_residual-in_err-test_faces.ensures.1

pub returns : goal.returns
returns c = λ files.
    (past_alone (past_alone alone tt c.in_ok-test_vertices.ensures.tells) tt c.in_ok-test_faces.ensures.tells).so c.made_of.result
    (subst (λ (m : Mesh). Concludes (GivesMesh m) c.made_of.result) c.in_ok-soup.ensures.mesh c.made_of.ensures)
