use Rattle.surf_surfaces.proofs.Common.{◌≡◌, ◌<◌, ℕ, length, ap, sym, subst, arith, edge_count, with_items, with_items_is}
use Rattle.surf_lengths.proofs.Positive.{lengths_positive}
use Rattle.surf_sheets.specs.Rows.{SheetRow}
use Rattle.surf_sheetcheck.specs.Used.{IsStillUsed}
use Rattle.surf_sheetcheck.specs.Tables.{IsLongIn, IsLeastShort, IsFresh, distance_in, label_in}
use Rattle.surf_sheetcheck.specs.Serving.{IsTaken, IsKept, IsNearBy}
use Rattle.surf_sheetcheck.proofs.PutLaws.{searched_used}
use Rattle.surf_sheetcheck.proofs.ServeLaws.{left_more}
use Rattle.surf_sheetcheck.proofs.Verdicts.{follows, holds, short}
use Rattle.surf_sheetcheck.proofs.sheets.judge_sheet.Goals as goal

pub put_back-requires-clause-used : goal.put_back-requires-clause-used
put_back-requires-clause-used c =
    let desk = c.fill.new.desk in
    subst (λ ds. IsStillUsed c.args.case.now.mesh.now ds desk.labels desk.order.items 0) (sym c.deref_mut.ensures.value)
    (searched_used c.args.case.now c.in_ok-task.task desk.distance.items desk.labels desk.order.items c.in_ok-fill.ensures.searched)

pub returns-clause-judged : goal.returns-clause-judged
returns-clause-judged c =
    let case = c.args.case.now in
    let mesh = case.mesh.now in
    let task = c.in_ok-task.task in
    let n = c.args.place in
    let desk = c.fill.new.desk in
    let dist = desk.distance.items in
    let order = desk.order.items in
    let old = c.args.left.now in
    let new = c.serve.new.left in
    let surface = c.law_of_surface.ensures.surface in
    let positive = lengths_positive mesh case.lengths.now c.law_of_lengths.ensures.lengths c.requires.ready.measured in
    let is = c.in_ok-task.ensures.task in
    let row_is = c.in_ok-task.ensures.row in
    let searched = c.in_ok-fill.ensures.searched in
    let least = subst (λ ds. IsLeastShort (edge_count mesh) (IsLongIn case task ds desk.labels) c.least_short-least.result) c.deref.ensures.value
    c.least_short-least.ensures.least in
    let taken = subst (λ (r : SheetRow). (e : ℕ) → e < edge_count mesh → IsNearBy case r (distance_in task.limit dist) e → IsTaken case r old new e) row_is
    (subst (λ ds. (e : ℕ) → e < edge_count mesh → IsNearBy case task.row.now (distance_in task.limit ds) e → IsTaken case task.row.now old new e) c.deref-3.ensures.value c.serve.ensures.taken) in
    let kept = subst (λ (r : SheetRow). (e : ℕ) → e < edge_count mesh → (IsNearBy case r (distance_in task.limit dist) e → ⊥) → IsKept case old new e) row_is
    (subst (λ ds. (e : ℕ) → e < edge_count mesh → (IsNearBy case task.row.now (distance_in task.limit ds) e → ⊥) → IsKept case old new e) c.deref-3.ensures.value c.serve.ensures.kept) in
    let rule = follows case task n dist desk.labels order surface is row_is searched in
    record {
      holds = λ none. holds case task n dist desk.labels order surface is row_is searched (least.none none);
      served = left_more case c.requires.ready surface positive n old new c.requires.left (distance_in task.limit dist) rule.distances taken kept;
      short = λ some. (
        distance_in task.limit dist,
        label_in desk.labels,
        short case task n dist desk.labels order surface is row_is searched c.least_short-least.result (least.first some),
      );
    }

pub returns-clause-fresh : goal.returns-clause-fresh
returns-clause-fresh c =
    let mesh = c.args.case.now.mesh.now in
    let desk = c.fill.new.desk in
    let new = c.put_back.new.distance in
    let kept : (with_items desk.distance new).items ≡ new = with_items_is desk.distance new (omega (arith, c.deref_mut.ensures.len, c.put_back.auto.distance)) in
    let size : length new ≡ mesh.vertices = omega (arith, c.put_back.auto.distance, ap length c.deref_mut.ensures.value, c.in_ok-fill.ensures.searched.room) in
    subst (λ ds. IsFresh mesh ds c.put_back.new.labels desk.heap c.put_back.new.order.items) (sym kept) (record {
      distances = size;
      free = c.put_back.ensures.free;
      room = c.put_back.ensures.room;
      none = c.put_back.ensures.none;
      places = c.in_ok-fill.ensures.places;
      empty = c.in_ok-fill.ensures.empty;
      unlisted = c.put_back.ensures.unlisted;
    })
