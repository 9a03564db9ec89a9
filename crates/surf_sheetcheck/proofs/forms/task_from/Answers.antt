use Rattle.surf_surfaces.proofs.Common.{◌≡◌, ◌<◌, ◌+◌, ◌-◌, ◌*◌, ◌/◌, ◌^◌, ℕ, List, length, get_or, ap, sym, subst, ◌∙◌, arith, get_or_default, All, Contains, pair_of, edges, steps}
use Rattle.surf_lengths.proofs.Positive.{lengths_positive}
use Rattle.surf_base.specs.Tables.{at}
use Rattle.surf_sheets.specs.Rows.{SheetRow}
use Rattle.surf_sheetcheck.specs.Parts.{no_row, sheet_at, size_at, HasRowForm, limit_of}
use Rattle.surf_sheetcheck.proofs.Tasks.{part_is, limit_more}
use Rattle.surf_sheetcheck.proofs.forms.task_from.Goals as goal

pub returns-clause-row : goal.returns-clause-row
returns-clause-row c =
    c.index-sheets-place.is ∙ ap (λ (xs : List SheetRow). get_or xs c.args.place c.index-sheets-place.result) c.sheets.ensures.sheets
    ∙ get_or_default c.args.case.now.cert.now.sheets c.args.place c.index-sheets-place.result no_row c.requires.place

pub returns-clause-task : goal.returns-clause-task
returns-clause-task c =
    let mesh = c.args.case.now.mesh.now in
    let lengths = c.args.case.now.lengths.now in
    let cert = c.args.case.now.cert.now in
    let ready = c.requires.ready in
    let row = c.index-sheets-place.result in
    let surface = c.law_of_surface.ensures.surface in
    let positive = lengths_positive mesh lengths c.law_of_lengths.ensures.lengths ready.measured in
    let row_is : row ≡ sheet_at cert c.args.place =
    c.index-sheets-place.is ∙ ap (λ (xs : List SheetRow). get_or xs c.args.place row) c.sheets.ensures.sheets
    ∙ get_or_default cert.sheets c.args.place row no_row c.requires.place in
    let form : HasRowForm mesh cert row = subst (HasRowForm mesh cert) (sym row_is) c.requires.form in
    let some = form.some in
    let numbered = form.numbered in
    let k_in : row.to - 1 < length cert.cycles = omega (arith, some, numbered) in
    let to_is : c.range-to.result.1 ≡ row.to = c.range-to.ensures.to in
    let sizes = c.args.case.now.sizes.items in
    let size : ℕ = size_at mesh lengths cert (row.to - 1) in
    let size_is : c.index-size.result.now ≡ size_at mesh lengths cert (row.to - 1) =
    c.index-size.ensures
    ∙ get_or_default sizes (c.range-to.result.1 - 1) c.index-size.result.now 0 (omega (arith, to_is, k_in, ready.sizes.count))
    ∙ ap (λ n. at sizes (n - 1)) to_is ∙ ready.sizes.each (row.to - 1) k_in in
    let margin_is : c.from.result ≡ row.margin = c.from.ensures ∙ c.margin.ensures.margin in
    let limit : (c.index-size.result.now + 2 * c.from.result + 1) / 2 ≡ limit_of mesh lengths cert row =
    ap (λ n. (n + 2 * c.from.result + 1) / 2) size_is
    ∙ ap (λ m. (size_at mesh lengths cert (row.to - 1) + 2 * m + 1) / 2) margin_is in
    let part = c.in_ok-part.ensures.part in
    let is = part_is mesh lengths cert surface ready.closed c.requires.paired row form in
    let small_size : at sizes (row.to - 1) < 2 ^ 96 = ready.sizes.small (row.to - 1) k_in in
    let small_margin : (sheet_at cert c.args.place).margin < 2 ^ 64 = (ready.fits.sheets c.args.place no_row c.requires.place).margin in
    let margin_same = ap (λ (r : SheetRow). r.margin) row_is in
    let each = ready.sizes.each (row.to - 1) k_in in
    record {
      part = part;
      limit = limit;
      some = some;
      numbered = numbered;
      positive = subst (λ n. row.margin < n) (sym limit) (limit_more mesh lengths cert surface ready.closed c.requires.paired positive row form);
      small = omega (arith, size_is, each, small_size, margin_is, margin_same, small_margin);
      begins = subst (λ xs. 0 < length xs) (sym part) is.begins;
      inside = subst (λ xs. All (λ v. v < mesh.vertices) xs) (sym part) is.inside;
      along = subst (λ xs. All (λ s. Contains (edges mesh) (pair_of s)) (steps xs)) (sym part) is.along;
    }
