use Rattle.std.proofs.Common.{arith}
use Rattle.surf_disc.proofs.TableLaws.{none_crowded}
use Rattle.surf_disc.proofs.check.refuse_crowded.Goals as goal

pub returns-clause-ok : goal.returns-clause-ok
returns-clause-ok c = none_crowded c.args.tabled.now.soup.now c.law_of_soup.ensures.mesh _ _ _ _ _ c.args.tabled.now.is_table _
    (omega (arith, c.law_of_soup.ensures.few)) c.in_default.ensures
