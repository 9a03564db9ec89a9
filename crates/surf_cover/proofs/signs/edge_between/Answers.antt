use Rattle.surf_surfaces.proofs.Common.{sym, ap, ◌∙◌, edges, place_of}
use Rattle.surf_surfaces.proofs.meshes.EdgeLaws.{place_of-ends}
use Rattle.surf_cover.proofs.signs.edge_between.Goals as goal

pub returns-clause-edge : goal.returns-clause-edge
returns-clause-edge c =
    let mesh = c.args.mesh.now in
    let (inside, is) = c.in-Some.ensures in
    sym (place_of-ends mesh c.in-Some.edge inside) ∙ ap (λ p. place_of p (edges mesh)) is
