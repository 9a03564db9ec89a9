use Rattle.surf_surfaces.proofs.Common.{◌<◌, ◌≤◌, ◌+◌, ◌*◌, arith, ◌∙◌}
use Rattle.surf_sheets.specs.Sheets.{way_over}
use Rattle.surf_sheetcheck.specs.Parts.{size_at}
use Rattle.surf_sheetcheck.specs.Tables.{IsLongIn, distance_in, label_in}
use Rattle.surf_sheetcheck.proofs.LookLaws.{long_none, long_last, long_at, tells_as}
use Rattle.surf_sheetcheck.proofs.looks.is_long.Goals as goal

pub is_as_long-requires-clause-walk : goal.is_as_long-requires-clause-walk
is_as_long-requires-clause-walk c =
    let below : c.in-Some.i < c.range-from.result.1 = c.in-Some.ensures.last.1 in
    omega (arith, below, c.range-from.ensures.to, c.requires.task.numbered)

pub returns-in-None : goal.returns-in-None
returns-in-None c =
    let case = c.args.case.now in
    let task = c.args.task.now in
    let sum = c.bits.ensures ∙ c.crossed-sum.ensures.crossed in
    record {
      long = long_none case.mesh.now case.lengths.now case.cert.now c.requires.ready.by_length task.row.now c.requires.task.numbered
          (distance_in task.limit c.args.distance.now) (label_in c.args.labels.now) c.args.e c.bits.result sum
          (λ i from to. c.in-None.ensures.last i (omega (arith, from, c.range-from.ensures.from)) (omega (arith, to, c.range-from.ensures.to)));
    }

pub returns-in-Some : goal.returns-in-Some
returns-in-Some c =
    let case = c.args.case.now in
    let task = c.args.task.now in
    let mesh = case.mesh.now in
    let lengths = case.lengths.now in
    let cert = case.cert.now in
    let i = c.in-Some.i in
    let d = distance_in task.limit c.args.distance.now in
    let p = label_in c.args.labels.now in
    let sum = c.bits.ensures ∙ c.crossed-sum.ensures.crossed in
    let last = c.in-Some.ensures.last in
    record {
      long = tells_as c.is_as_long.result
          (size_at mesh lengths cert i + 2 * task.row.now.margin ≤ way_over mesh lengths d c.args.e)
          (IsLongIn case task c.args.distance.now c.args.labels.now c.args.e)
          (λ long. long_last mesh lengths cert c.requires.ready.by_length task.row.now c.requires.task.numbered d p c.args.e c.bits.result sum
          i (omega (arith, last.0, c.range-from.ensures.from)) (omega (arith, last.1, c.range-from.ensures.to)) last.2
          (λ j more below. last.3 j more (omega (arith, below, c.range-from.ensures.to))) long)
          (λ long. long_at mesh lengths cert c.requires.ready.by_length task.row.now c.requires.task.numbered d p c.args.e c.bits.result sum
          i (omega (arith, last.0, c.range-from.ensures.from)) (omega (arith, last.1, c.range-from.ensures.to)) last.2 long)
          c.is_as_long.ensures.as_long;
    }
