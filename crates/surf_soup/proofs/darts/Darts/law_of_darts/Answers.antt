use Rattle.std.proofs.Common.{subst}
use Rattle.surf_soup.specs.Darts.{DartTables}
use Rattle.surf_soup.specs.Ring.{AreDartTables}
use Rattle.surf_soup.specs.Vertices.{AllMet}
use Rattle.surf_soup.proofs.darts.Darts.law_of_darts.Goals as goal

pub returns-clause-tables : goal.returns-clause-tables
returns-clause-tables c =
    subst (λ (t : DartTables). AreDartTables t.mesh t.mate) c.self.view_is c.self.invariant.tables

pub returns-clause-met : goal.returns-clause-met
returns-clause-met c = subst (λ (t : DartTables). AllMet t.mesh) c.self.view_is c.self.invariant.met
