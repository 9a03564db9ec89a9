use Rattle.std.proofs.Common.{ap, ◌∙◌}
use Rattle.surf_soup.specs.Darts.{DartTables}
use Rattle.surf_soup.proofs.darts.Darts.vertices.Goals as goal

pub returns : goal.returns
returns c = c.vertices.ensures.count ∙ ap (λ (t : DartTables). t.mesh.vertices) c.self.view_is
