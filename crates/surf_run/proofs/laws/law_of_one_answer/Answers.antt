use Rattle.surf_run.proofs.Unique.{outcomes_are_one, answers_are_one}
use Rattle.surf_run.proofs.laws.law_of_one_answer.Goals as goal

pub returns : goal.returns
returns c = record { outcomes = outcomes_are_one; answers = answers_are_one }
