use Rattle.surf_surfaces.proofs.Common.{◌<◌, sym, subst}
use Rattle.surf_surfaces.proofs.classes.ClassLaws.{some_vertex}
use Rattle.surf_sheetfind.proofs.vertices.signatures_of.Goals as goal

pub greedy-requires-clause-base : goal.greedy-requires-clause-base
greedy-requires-clause-base c =
    subst (λ n. n < c.args.mesh.now.vertices) (sym c.new.ensures) (some_vertex c.args.mesh.now c.law_of_surface.ensures.surface)
