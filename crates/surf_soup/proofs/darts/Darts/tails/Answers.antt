use Rattle.std.proofs.Common.{ap, ◌∙◌}
use Rattle.surf_soup.specs.Darts.{DartTables}
use Rattle.surf_soup.specs.Vertices.{all_corners}
use Rattle.surf_soup.proofs.darts.Darts.tails.Goals as goal

pub returns : goal.returns
returns c = c.corners.ensures ∙ ap (λ (t : DartTables). all_corners t.mesh) c.self.view_is
