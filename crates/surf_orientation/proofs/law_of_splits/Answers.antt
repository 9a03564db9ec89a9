use Rattle.surf_orientation.proofs.GenusLaws.{connected_graphs_have_trees, surfaces_have_splits, characteristics_are_at_most_two, counts_are_at_most_two_more}
use Rattle.surf_orientation.proofs.law_of_splits.Goals as goal

pub returns : goal.returns
returns c = record {
  trees = connected_graphs_have_trees;
  splits = surfaces_have_splits;
  at_most_two =
      characteristics_are_at_most_two;
  counts = counts_are_at_most_two_more;
}
