use Rattle.surf_answers.proofs.Common.{◌<◌, ℕ, List, sym, subst, Mesh, loop_count, GivesSummary, Concludes}
use Rattle.surf_answers.proofs.Commands.{made_values, alone, past_alone, stopped_alone}
use Rattle.surf_finding.proofs.commands.try_shape.answer.Goals as goal

pub returns-in_err-test_vertices : goal.returns-in_err-test_vertices
returns-in_err-test_vertices c = λ files.
    stopped_alone alone c.in_err-test_vertices.field-0.0 c.in_err-test_vertices.ensures.tells c.from_residual.result c.from_residual.ensures.1

pub returns-in_err-test_faces : goal.returns-in_err-test_faces
returns-in_err-test_faces c = λ files.
    stopped_alone (past_alone alone tt c.in_ok-test_vertices.ensures.tells) c.in_err-test_faces.field-0.0 c.in_err-test_faces.ensures.tells
    c.from_residual-in_err-test_faces.result c.from_residual-in_err-test_faces.ensures.1

pub returns-in_err-test_shape_loops : goal.returns-in_err-test_shape_loops
returns-in_err-test_shape_loops c = λ files.
    stopped_alone (past_alone (past_alone alone tt c.in_ok-test_vertices.ensures.tells) tt c.in_ok-test_faces.ensures.tells)
    c.in_err-test_shape_loops.field-0.0 c.in_err-test_shape_loops.ensures.tells
    c.from_residual-in_err-test_shape_loops.result c.from_residual-in_err-test_shape_loops.ensures.1

pub returns-in_err-test_search : goal.returns-in_err-test_search
returns-in_err-test_search c = λ files.
    stopped_alone (past_alone (past_alone (past_alone alone tt c.in_ok-test_vertices.ensures.tells) tt c.in_ok-test_faces.ensures.tells)
    tt c.in_ok-test_shape_loops.ensures.tells) c.in_err-test_search.field-0.0 c.in_err-test_search.ensures.tells
    c.from_residual-in_err-test_search.result c.from_residual-in_err-test_search.ensures.1

pub returns : goal.returns
returns c = λ files.
    (past_alone (past_alone (past_alone (past_alone alone tt c.in_ok-test_vertices.ensures.tells) tt c.in_ok-test_faces.ensures.tells)
    tt c.in_ok-test_shape_loops.ensures.tells) tt c.in_ok-test_search.ensures.tells).so c.summary_of.result
    (subst (λ (m : Mesh). Concludes (GivesSummary m (made_values m c.args.scatter)) c.summary_of.result) c.in_ok-mesh.ensures
    (subst (λ (lengths : List ℕ). Concludes (GivesSummary c.in_ok-mesh.mesh lengths) c.summary_of.result) c.in_ok-lengths.ensures.values c.summary_of.ensures))

pub summary_of-requires-clause-some : goal.summary_of-requires-clause-some
summary_of-requires-clause-some c = subst (λ (m : Mesh). 0 < loop_count m) (sym c.in_ok-mesh.ensures) c.in_ok-test_shape_loops.ensures.some
