use Rattle.surf_orientation.proofs.NameLaws.{named_rounds_are_even}
use Rattle.surf_orientation.proofs.law_of_rounds.Goals as goal

pub returns : goal.returns
returns c = named_rounds_are_even
