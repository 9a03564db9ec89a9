use Rattle.surf_geom.proofs.Greatest.{measures_are_greatest, measures_are_one}
use Rattle.surf_geom.proofs.laws.law_of_measures.Goals as goal

pub returns : goal.returns
returns c = record { greatest = measures_are_greatest; one = measures_are_one }
