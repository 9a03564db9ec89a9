use Rattle.std.proofs.Common.{subst}
use Rattle.surf_soup.specs.Darts.{DartTables}
use Rattle.surf_soup.specs.First.{AreFirstSides}
use Rattle.surf_soup.proofs.darts.Darts.firsts.Goals as goal

pub returns : goal.returns
returns c = subst (λ (t : DartTables). AreFirstSides t.mesh c.self.inside.first.now) c.self.view_is c.self.invariant.firsts
