use Rattle.surf_surfaces.proofs.Common.{arith, subst, map, primal, cells_of}
use Rattle.surf_mesh.specs.Links.{IsRow, edge_link}
use Rattle.surf_sheetcheck.specs.Tables.{IsLongIn}
use Rattle.surf_sheetcheck.proofs.LookLaws.{seen_more, seen_row}
use Rattle.surf_sheetcheck.proofs.looks.lesser_short.Goals as goal

pub loop-e-preserved : goal.loop-e-preserved
loop-e-preserved c =
    let P = IsLongIn c.args.case.now c.args.task.now c.args.distance.now c.args.labels.now in
    record {
      short = c.lesser-least.ensures.short;
      lower = omega (arith, c.lesser-least.ensures.lower, c.loop-e.invariant.lower);
      seen = seen_more P c.edges_at-e-items.result.now c.loop-e.e-index c.e-item.result c.loop-e.least c.lesser-least.result
          c.loop-e-test.true c.e-item.is c.lesser-least.ensures.lower c.loop-e.invariant.seen c.lesser-least.ensures.seen;
    }

pub returns-clause-seen : goal.returns-clause-seen
returns-clause-seen c =
    let mesh = c.args.case.now.mesh.now in
    let P = IsLongIn c.args.case.now c.args.task.now c.args.distance.now c.args.labels.now in
    let items = c.edges_at-e-items.result.now in
    let row = subst (λ x. IsRow (primal (cells_of mesh)) x (map (edge_link mesh x) items)) c.new.ensures c.edges_at-e-items.ensures.row in
    seen_row mesh P c.args.v items row c.loop-e.e-index c.loop-e.least (omega (arith, c.loop-e-test.false)) c.loop-e.invariant.seen
