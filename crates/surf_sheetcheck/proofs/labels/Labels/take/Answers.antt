use Rattle.surf_surfaces.proofs.Common.{ℕ, None, set, ap, ◌∙◌, Option, List}
use Rattle.surf_base.specs.Tables.{nobody}
use Rattle.surf_sheetcheck.specs.Labels.{shared_label}
use Rattle.surf_sheetcheck.proofs.Sharing.{map_set}
use Rattle.surf_sheetcheck.proofs.labels.Labels.take.Goals as goal

pub returns : goal.returns
returns c =
    let s = c.self.inside in
    record {
      taken = map_set (shared_label s.rows.items) s.ids.items c.args.v nobody
          ∙ ap (λ (xs : List (Option ℕ)). set xs c.args.v None) c.self.view_is;
    }
