use Rattle.surf_surfaces.proofs.Common.{rules, ◌≡◌, map, replicate, ap, ◌∙◌}
use Rattle.surf_base.specs.Tables.{nobody}
use Rattle.surf_sheetcheck.specs.Labels.{shared_label}
use Rattle.surf_sheetcheck.proofs.Sharing.{map_replicate}
use Rattle.surf_sheetcheck.proofs.labels.Labels.make.Goals as goal

pub returns : goal.returns
returns c =
    let items : c.in_ok-vec.field-0.items ≡ replicate c.args.vertices nobody = search rules in
    record { none = ap (map (shared_label _)) items ∙ map_replicate (shared_label _) c.args.vertices nobody }
