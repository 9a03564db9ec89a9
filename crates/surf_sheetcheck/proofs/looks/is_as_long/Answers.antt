use Rattle.surf_surfaces.proofs.Common.{◌≡◌, ◌+◌, ◌*◌, ap, ◌∙◌, arith, get_or_default}
use Rattle.surf_sheets.specs.Sheets.{way_over}
use Rattle.surf_sheetcheck.specs.Parts.{size_at}
use Rattle.surf_sheetcheck.specs.Tables.{distance_in}
use Rattle.surf_sheetcheck.proofs.LookLaws.{leb_tells}
use Rattle.surf_sheetcheck.proofs.looks.is_as_long.Goals as goal

pub returns : goal.returns
returns c =
    let mesh = c.args.case.now.mesh.now in
    let lengths = c.args.case.now.lengths.now in
    let cert = c.args.case.now.cert.now in
    let sizes = c.args.case.now.sizes.items in
    let ready = c.requires.ready in
    let row = c.args.task.now.row.now in
    let i = c.args.i in
    let size_is : c.index.result.now ≡ size_at mesh lengths cert i =
    c.index.ensures ∙ get_or_default sizes i c.index.result.now 0 (omega (arith, c.requires.walk, ready.sizes.count))
    ∙ ready.sizes.each i c.requires.walk in
    let margin_is : c.from.result ≡ row.margin = c.from.ensures ∙ c.margin.ensures.margin in
    record {
      as_long = leb_tells (c.index.result.now + 2 * c.from.result) c.way_along.result (size_at mesh lengths cert i + 2 * row.margin)
          (way_over mesh lengths (distance_in c.args.task.now.limit c.args.distance.now) c.args.e)
          (ap (λ n. n + 2 * c.from.result) size_is ∙ ap (λ m. size_at mesh lengths cert i + 2 * m) margin_is) c.way_along.ensures.way;
    }
