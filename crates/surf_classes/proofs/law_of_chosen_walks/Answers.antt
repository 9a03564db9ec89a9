use Rattle.surf_classes.proofs.Rounds.{homologous_by_signature}
use Rattle.surf_classes.proofs.ChosenWalks.{chosen_walk_is_one, null_choice_is_vertex}
use Rattle.surf_classes.proofs.law_of_chosen_walks.Goals as goal

pub returns : goal.returns
returns c = record {
  homologous = homologous_by_signature;
  one = chosen_walk_is_one;
  null = null_choice_is_vertex;
}
