use Rattle.surf_surfaces.proofs.Common.{◌<◌, arith, subst, sym, map, primal, cells_of, edge_count}
use Rattle.surf_mesh.specs.Links.{IsRow, edge_link}
use Rattle.surf_sheetcheck.proofs.TakenLaws.{taken_first_none, taken_first_more, taken_first_all}
use Rattle.surf_sheetcheck.proofs.serving.serve_at.Goals as goal

pub loop-e-init : goal.loop-e-init
loop-e-init c = taken_first_none c.args.case.now c.args.task.now.row.now c.edges_at-e-items.result.now c.args.left.now c.requires.lefts

pub serve_edge-requires-clause-edge : goal.serve_edge-requires-clause-edge
serve_edge-requires-clause-edge c =
    subst (λ e. e < edge_count c.args.case.now.mesh.now) (sym c.e-item.is)
    (c.edges_at-e-items.ensures.inside c.loop-e.e-index c.e-item.result c.loop-e-test.true)

pub loop-e-preserved : goal.loop-e-preserved
loop-e-preserved c =
    let mesh = c.args.case.now.mesh.now in
    let items = c.edges_at-e-items.result.now in
    let le = subst (λ e. e < edge_count mesh) (sym c.e-item.is)
    (c.edges_at-e-items.ensures.inside c.loop-e.e-index c.e-item.result c.loop-e-test.true) in
    taken_first_more c.args.case.now c.args.task.now.row.now items c.loop-e.e-index c.e-item.result c.args.left.now c.loop-e.left
    c.serve_edge.new.left c.loop-e-test.true c.e-item.is le c.loop-e.invariant c.serve_edge.ensures.lefts c.serve_edge.ensures.taken
    c.serve_edge.ensures.kept (λ i l. c.edges_at-e-items.ensures.inside i 0 l)

pub returns-clause-taken : goal.returns-clause-taken
returns-clause-taken c =
    let mesh = c.args.case.now.mesh.now in
    let items = c.edges_at-e-items.result.now in
    let row = subst (λ x. IsRow (primal (cells_of mesh)) x (map (edge_link mesh x) items)) c.new.ensures c.edges_at-e-items.ensures.row in
    (taken_first_all c.args.case.now c.args.task.now.row.now c.args.v items c.loop-e.e-index c.args.left.now c.loop-e.left row
    (omega (arith, c.loop-e-test.false, c.loop-e.auto.e-index-end)) c.loop-e.invariant).0

pub returns-clause-kept : goal.returns-clause-kept
returns-clause-kept c =
    let mesh = c.args.case.now.mesh.now in
    let items = c.edges_at-e-items.result.now in
    let row = subst (λ x. IsRow (primal (cells_of mesh)) x (map (edge_link mesh x) items)) c.new.ensures c.edges_at-e-items.ensures.row in
    (taken_first_all c.args.case.now c.args.task.now.row.now c.args.v items c.loop-e.e-index c.args.left.now c.loop-e.left row
    (omega (arith, c.loop-e-test.false, c.loop-e.auto.e-index-end)) c.loop-e.invariant).1
