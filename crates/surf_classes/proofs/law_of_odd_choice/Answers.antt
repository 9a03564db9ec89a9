use Rattle.surf_classes.proofs.PairSums.{odd_sums_are_sums_over_edges}
use Rattle.surf_classes.proofs.OddChoice.{odd_choice_is_right, odd_choice_is_one, odd_choice_is_filtered, classes_are_decided, joint_signatures_add}
use Rattle.surf_classes.proofs.AllTrees.{odd_choice_is_that_of_all_trees}
use Rattle.surf_classes.proofs.law_of_odd_choice.Goals as goal

pub returns : goal.returns
returns c = record {
  right = odd_choice_is_right;
  one = odd_choice_is_one;
  all_trees = odd_choice_is_that_of_all_trees;
  decided = classes_are_decided;
  signatures = joint_signatures_add;
  sums = odd_sums_are_sums_over_edges;
  filtered = odd_choice_is_filtered;
}
