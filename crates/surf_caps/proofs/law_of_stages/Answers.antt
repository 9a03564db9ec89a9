use Rattle.surf_caps.proofs.Images.{stages_meet}
use Rattle.surf_caps.proofs.Places.{stages_have_places}
use Rattle.surf_caps.proofs.law_of_stages.Goals as goal

pub returns : goal.returns
returns c = record { places = stages_have_places; meet = stages_meet }
