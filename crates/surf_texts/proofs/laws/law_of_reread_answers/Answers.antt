use Rattle.surf_texts.proofs.Rereading.{walks_are_reread, one_walk_is_reread, distances_are_reread}
use Rattle.surf_texts.proofs.laws.law_of_reread_answers.Goals as goal

pub returns : goal.returns
returns c = record { walks = walks_are_reread; one_walk = one_walk_is_reread; distances = distances_are_reread }
