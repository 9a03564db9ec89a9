use Rattle.surf_surfaces.proofs.Common.{◌≡◌, ◌<◌, ℕ, None, length, map, set, get_or, ap, ◌∙◌, arith, length-map, get_or_default, Option, List}
use Rattle.surf_base.specs.Tables.{at}
use Rattle.surf_sheetcheck.specs.Labels.{shared_label}
use Rattle.surf_sheetcheck.proofs.Sharing.{share_is}
use Rattle.surf_sheetcheck.proofs.labels.Labels.share.Goals as goal

pub returns : goal.returns
returns c =
    let s = c.self.inside in
    let ids = s.ids.items in
    let rows = s.rows.items in
    let size = length-map ids (shared_label rows) in
    let view = ap (λ (xs : List (Option ℕ)). length xs) c.self.view_is in
    let inside : c.args.from < length ids = omega (arith, c.requires.other, size, view) in
    let is : c.index.result.now ≡ at ids c.args.from =
    c.index.ensures ∙ get_or_default ids c.args.from c.index.result.now 0 inside in
    record {
      shared = ap (λ n. map (shared_label rows) (set ids c.args.v n)) is
          ∙ share_is ids rows c.args.v c.args.from inside
          ∙ ap (λ (xs : List (Option ℕ)). set xs c.args.v (get_or xs c.args.from None)) c.self.view_is;
    }
