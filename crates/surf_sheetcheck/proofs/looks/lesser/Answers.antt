use Rattle.surf_surfaces.proofs.Common.{◌<◌, sym, subst, edge_count}
use Rattle.surf_sheetcheck.specs.Tables.{IsLongIn}
use Rattle.surf_sheetcheck.proofs.looks.lesser.Goals as goal

pub returns-clause-short : goal.returns-clause-short
returns-clause-short c =
    λ ne. (
      subst (λ x. x < edge_count c.args.case.now.mesh.now) (sym c.number-2.ensures) c.requires.edge,
      λ long. c.if-is_long.ensures.long
          (subst (IsLongIn c.args.case.now c.args.task.now c.args.distance.now c.args.labels.now) c.number-2.ensures long),
    )
