use Rattle.surf_surfaces.proofs.Common.{arith, edge_count}
use Rattle.surf_sheetcheck.specs.Tables.{IsLongIn, label_in}
use Rattle.surf_sheetcheck.proofs.LookLaws.{far_long, least_from, seen_ends, seen_next}
use Rattle.surf_sheetcheck.proofs.looks.least_short.Goals as goal

pub loop-i-preserved : goal.loop-i-preserved
loop-i-preserved c =
    let mesh = c.args.case.now.mesh.now in
    let P = IsLongIn c.args.case.now c.args.task.now c.args.distance.now c.args.labels.now in
    record {
      short = c.lesser_short-least.ensures.short;
      seen = seen_next mesh P c.args.order.now c.loop-i.i c.loop-i.least c.lesser_short-least.result c.lesser_short-least.ensures.lower
          c.loop-i.invariant.seen c.lesser_short-least.ensures.seen;
    }

pub returns : goal.returns
returns c =
    let case = c.args.case.now in
    let task = c.args.task.now in
    let mesh = case.mesh.now in
    let P = IsLongIn case task c.args.distance.now c.args.labels.now in
    let row = task.row.now in
    record {
      least = least_from (edge_count mesh) P c.loop-i.least (omega (arith, c.law_of_surface.ensures.edges)) c.loop-i.invariant.short
          (seen_ends mesh case.lengths.now P task.part.items task.limit c.args.distance.now c.args.order.now c.law_of_surface.ensures.surface
          c.requires.searched.settled c.loop-i.i c.loop-i.least (omega (arith, c.loop-i-test.false)) c.loop-i.invariant.seen
          (λ e l u v. far_long mesh case.lengths.now case.cert.now c.requires.ready.by_length row task.limit c.args.distance.now
          (label_in c.args.labels.now) e c.requires.task.numbered c.requires.task.limit u v));
    }
