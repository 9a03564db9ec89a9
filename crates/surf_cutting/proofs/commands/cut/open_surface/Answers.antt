use Rattle.surf_answers.proofs.Common.{Err, refl}
use Rattle.surf_answers.proofs.Commands.{extent_of, begun, over, past, stopped, stopped_over, refused}
use Rattle.surf_cutting.specs.Cutting.{CutsOpen}
use Rattle.surf_cutting.proofs.Cutting.{cut_open}
use Rattle.surf_cutting.proofs.commands.cut.open_surface.Goals as goal

pub returns-in_err-test_loops-clause-tells : goal.returns-in_err-test_loops-clause-tells
returns-in_err-test_loops-clause-tells g c =
    let e = c.in_err-test_loops.field-0.0 in
    refused (g.S.Shelf.holds c.args.shelf.now) (g.S.Shelf.faults c.args.shelf.now) _ (CutsOpen (extent_of c.args.extent) c.args.mesh.now c.args.lengths.now c.args.base) e c.from_residual.result c.from_residual.ensures.1
    (stopped begun e c.in_err-test_loops.ensures.tells (Err e) refl)

pub returns-in_err-lengths-clause-tells : goal.returns-in_err-lengths-clause-tells
returns-in_err-lengths-clause-tells g c =
    let e = c.in_err-lengths.field-0.0 in
    refused (g.S.Shelf.holds c.args.shelf.now) (g.S.Shelf.faults c.args.shelf.now) _ (CutsOpen (extent_of c.args.extent) c.args.mesh.now c.args.lengths.now c.args.base) e c.from_residual-in_err-lengths.result c.from_residual-in_err-lengths.ensures.1
    (stopped_over (past begun tt c.in_ok-test_loops.ensures.tells) _ e refl c.in_err-lengths.ensures.tells (Err e) refl)

pub returns-in_err-base-clause-tells : goal.returns-in_err-base-clause-tells
returns-in_err-base-clause-tells g c =
    let e = c.in_err-base.field-0.0 in
    refused (g.S.Shelf.holds c.args.shelf.now) (g.S.Shelf.faults c.args.shelf.now) _ (CutsOpen (extent_of c.args.extent) c.args.mesh.now c.args.lengths.now c.args.base) e c.from_residual-in_err-base.result c.from_residual-in_err-base.ensures.1
    (stopped (over (past begun tt c.in_ok-test_loops.ensures.tells) c.in_ok-lengths.lengths refl c.in_ok-lengths.ensures.tells c.in_ok-lengths.ensures.later)
    e c.in_err-base.ensures.tells (Err e) refl)

pub returns-in_err-kind-clause-tells : goal.returns-in_err-kind-clause-tells
returns-in_err-kind-clause-tells g c =
    let e = c.in_err-kind.field-0.0 in
    refused (g.S.Shelf.holds c.args.shelf.now) (g.S.Shelf.faults c.args.shelf.now) _ (CutsOpen (extent_of c.args.extent) c.args.mesh.now c.args.lengths.now c.args.base) e c.from_residual-in_err-kind.result c.from_residual-in_err-kind.ensures.1
    (stopped_over (past (over (past begun tt c.in_ok-test_loops.ensures.tells) c.in_ok-lengths.lengths refl c.in_ok-lengths.ensures.tells c.in_ok-lengths.ensures.later)
    c.in_ok-base.base c.in_ok-base.ensures.tells) _ e c.in_ok-lengths.ensures.holds c.in_err-kind.ensures.tells (Err e) refl)

pub returns-clause-tells : goal.returns-clause-tells
returns-clause-tells g c =
    cut_open (extent_of c.args.extent) c.args.mesh.now c.args.lengths.now c.args.base c.in_ok-test_loops.ensures.tells
    c.in_ok-lengths.lengths c.in_ok-lengths.ensures.tells c.in_ok-lengths.ensures.later c.in_ok-base.base c.in_ok-base.ensures.tells
    _ c.in_ok-lengths.ensures.holds c.in_ok-kind.ensures.tells c.in_ok-kind.ensures.later c.disc_at.result c.disc_at.ensures.tells
