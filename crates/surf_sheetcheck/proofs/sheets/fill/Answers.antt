use Rattle.surf_surfaces.proofs.Common.{◌≡◌, length, ap, sym, subst, ◌∙◌, arith, primal, cells_of, with_items, with_items_is}
use Rattle.surf_surfaces.specs.Walk.{edge_length}
use Rattle.surf_sheetcheck.specs.Searches.{AreSettled}
use Rattle.surf_sheetcheck.specs.Tables.{AreLabelsUpTo}
use Rattle.surf_sheetcheck.proofs.LabelLaws.{if_ok}
use Rattle.surf_sheetcheck.proofs.sheets.fill.Goals as goal

pub returns-clause-searched : goal.returns-clause-searched
returns-clause-searched c =
    let case = c.args.case.now in
    let task = c.args.task.now in
    let mesh = case.mesh.now in
    let g = primal (cells_of mesh) in
    let len = edge_length case.lengths.now in
    let part = task.part.items in
    let dist = c.settle.new.distance in
    let order = c.settle.new.order.items in
    let labels = c.label_others.new.labels in
    let table = c.args.desk.now.distance in
    let size : length dist ≡ mesh.vertices = omega (arith, c.settle.auto.distance, c.deref_mut.ensures.len, ap length c.deref_mut.ensures.value, c.requires.fresh.distances) in
    let kept : (with_items table dist).items ≡ dist = with_items_is table dist (omega (arith, c.deref_mut.ensures.len, c.settle.auto.distance)) in
    let settled : AreSettled g len part task.limit dist order =
    subst (λ xs. AreSettled g len xs task.limit dist order) c.deref.ensures.value c.in_ok-settle.ensures.settled in
    if_ok c.label_others.result _ _ (λ (are : AreLabelsUpTo mesh case.lengths.now case.cert.now part task.limit c.deref-3.result.now c.deref-4.result.now (length c.deref-4.result.now) labels).
    let by_order = subst (λ xs. AreLabelsUpTo mesh case.lengths.now case.cert.now part task.limit c.deref-3.result.now xs (length xs) labels) c.deref-4.ensures.value are in
    let told : AreLabelsUpTo mesh case.lengths.now case.cert.now part task.limit (with_items table dist).items order (length order) labels =
    subst (λ xs. AreLabelsUpTo mesh case.lengths.now case.cert.now part task.limit xs order (length order) labels) c.deref-3.ensures.value by_order in
    record {
      room = ap length kept ∙ size;
      settled = subst (λ xs. AreSettled g len part task.limit xs order) (sym kept) settled;
      labelled = told;
    }) c.label_others.ensures.labels
