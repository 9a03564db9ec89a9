use Rattle.surf_opening.proofs.openings.ChosenOpenings.{full_cuts_are_chosen, trimmed_cuts_are_chosen, opened_are_chosen, chosen_cuts_are_one, chosen_are_openings, chosen_are_one, full_openings_are_counted, chosen_exist}
use Rattle.surf_opening.proofs.cuts.ChosenTrees.{chosen_trees_divide, openings_at_are_one}
use Rattle.surf_opening.proofs.law_of_chosen_cuts.Goals as goal

pub returns : goal.returns
returns c = record {
  full = full_cuts_are_chosen;
  trimmed = trimmed_cuts_are_chosen;
  opened = opened_are_chosen;
  cuts = chosen_cuts_are_one;
  discs = chosen_are_openings;
  one = chosen_are_one;
  copies = full_openings_are_counted;
  exist = chosen_exist;
  divide = chosen_trees_divide;
  at_base = openings_at_are_one;
}
