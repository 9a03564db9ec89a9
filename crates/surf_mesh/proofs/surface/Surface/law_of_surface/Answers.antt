use Rattle.surf_surfaces.proofs.Common.{ap, arith, face_count, edge_count}
use Rattle.surf_soup.proofs.SideTables.{three_each}
use Rattle.surf_soup.proofs.HalfLaws.{edges_few}
use Rattle.surf_mesh.proofs.surface.Surface.law_of_surface.Goals as goal

pub returns-clause-faces : goal.returns-clause-faces
returns-clause-faces c =
    let kept = c.self.invariant in
    omega (
      arith,
      three_each c.self.inside.vertices c.self.inside.faces kept.surface.is_mesh,
      kept.few,
      ap face_count c.self.view_is,
    )

pub returns-clause-edges : goal.returns-clause-edges
returns-clause-edges c =
    let kept = c.self.invariant in
    omega (arith, edges_few _ kept.surface, kept.few, ap edge_count c.self.view_is)
