use Rattle.surf_outcomes.proofs.Existing.{outcomes_exist}
use Rattle.surf_outcomes.proofs.law_of_outcomes.Goals as goal

pub returns : goal.returns
returns c = record { exist = outcomes_exist }
