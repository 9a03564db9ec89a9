use Rattle.surf_answers.proofs.Common.{Err, refl}
use Rattle.surf_answers.proofs.Commands.{MeasuresSmall, IsSurfaceText, begun, over, past, stopped, last_stopped}
use Rattle.surf_answers.proofs.Commands.{refused, small_so, text_stopped}
use Rattle.surf_answers.proofs.surfaces.small_surface.Goals as goal

pub returns-in_err-mesh-clause-tells : goal.returns-in_err-mesh-clause-tells
returns-in_err-mesh-clause-tells g c =
    refused (g.S.Shelf.holds c.args.shelf.now) (g.S.Shelf.faults c.args.shelf.now) _ (MeasuresSmall c.args.limit.0 c.args.limit.1 c.args.name.now c.args.word.now) c.in_err-mesh.field-0.0 c.from_residual.result c.from_residual.ensures.1
    (text_stopped _ _ _ IsSurfaceText _ _ c.in_err-mesh.field-0.0 c.in_err-mesh.ensures.tells (Err c.in_err-mesh.field-0.0) refl)

pub returns-in_err-test_loops-clause-tells : goal.returns-in_err-test_loops-clause-tells
returns-in_err-test_loops-clause-tells g c =
    let read = c.in_ok-mesh in
    let held = read.ensures.held in
    let e = c.in_err-test_loops.field-0.0 in
    refused (g.S.Shelf.holds c.args.shelf.now) (g.S.Shelf.faults c.args.shelf.now) _ (MeasuresSmall c.args.limit.0 c.args.limit.1 c.args.name.now c.args.word.now) e c.from_residual-in_err-test_loops.result c.from_residual-in_err-test_loops.ensures.1
    (stopped (past (over begun held.0 read.ensures.holds held.2.0 read.ensures.later) (held.1, read.mesh) held.2.1) e c.in_err-test_loops.ensures.tells (Err e) refl)

pub returns-in_err-test_vertices-clause-tells : goal.returns-in_err-test_vertices-clause-tells
returns-in_err-test_vertices-clause-tells g c =
    let read = c.in_ok-mesh in
    let held = read.ensures.held in
    let e = c.in_err-test_vertices.field-0.0 in
    refused (g.S.Shelf.holds c.args.shelf.now) (g.S.Shelf.faults c.args.shelf.now) _ (MeasuresSmall c.args.limit.0 c.args.limit.1 c.args.name.now c.args.word.now) e c.from_residual-in_err-test_vertices.result c.from_residual-in_err-test_vertices.ensures.1
    (stopped (past (past (over begun held.0 read.ensures.holds held.2.0 read.ensures.later) (held.1, read.mesh) held.2.1) tt c.in_ok-test_loops.ensures.tells)
    e c.in_err-test_vertices.ensures (Err e) refl)

pub returns-in_err-lengths-clause-tells : goal.returns-in_err-lengths-clause-tells
returns-in_err-lengths-clause-tells g c =
    let read = c.in_ok-mesh in
    let held = read.ensures.held in
    let e = c.in_err-lengths.field-0.0 in
    refused (g.S.Shelf.holds c.args.shelf.now) (g.S.Shelf.faults c.args.shelf.now) _ (MeasuresSmall c.args.limit.0 c.args.limit.1 c.args.name.now c.args.word.now) e c.from_residual-in_err-lengths.result c.from_residual-in_err-lengths.ensures.1
    (last_stopped (past (past (past (over begun held.0 read.ensures.holds held.2.0 read.ensures.later) (held.1, read.mesh) held.2.1) tt c.in_ok-test_loops.ensures.tells)
    tt c.in_ok-test_vertices.ensures) _ e read.ensures.holds c.in_err-lengths.ensures.tells)

pub returns-clause-tells : goal.returns-clause-tells
returns-clause-tells g c =
    let read = c.in_ok-mesh in
    let held = read.ensures.held in
    small_so c.args.name.now c.args.word.now read.mesh held.0 c.in_ok-lengths.lengths held.1 read.ensures.holds held.2 c.in_ok-test_loops.ensures.tells
    read.ensures.holds c.in_ok-lengths.ensures.tells c.args.limit.0 c.args.limit.1 c.in_ok-test_vertices.ensures
