use Rattle.surf_surfaces.proofs.Common.{length, ap, arith, Mesh}
use Rattle.surf_soup.proofs.SideTables.{three_each}
use Rattle.surf_soup.proofs.soup.Soup.law_of_soup.Goals as goal

pub returns-clause-faces : goal.returns-clause-faces
returns-clause-faces c =
    let kept = c.self.invariant in
    omega (
      arith,
      three_each c.self.inside.vertices c.self.inside.faces kept.is_mesh,
      kept.few,
      ap (λ (m : Mesh). length m.faces) c.self.view_is,
    )
