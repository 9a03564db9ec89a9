-- An outcome comes of words over files.
use Rattle.surf_run.specs.Leads.{Leads}
use Rattle.surf_words.specs.Words.{request_of}
use Rattle.surf_outcomes.specs.Outcomes.{OutcomesExist}
use Rattle.surf_outcomes.proofs.Requests.{requests_have_outcomes}
use Rattle.surf_outcomes.proofs.Shapes.{words_are_shaped}

pub outcomes_exist : OutcomesExist
unfolding Leads
outcomes_exist words files = requests_have_outcomes files (request_of words) (words_are_shaped words)
