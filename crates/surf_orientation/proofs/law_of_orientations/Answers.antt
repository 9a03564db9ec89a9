use Rattle.surf_orientation.proofs.OneSidedLaws.{orientations_fit, misfits_are_one_sided, surfaces_are_two_sided_or_one_sided, tree_chains_go_by_step}
use Rattle.surf_orientation.proofs.MisfitLaws.{orientations_are_determined}
use Rattle.surf_orientation.proofs.law_of_orientations.Goals as goal

pub returns : goal.returns
returns c = record {
  fit = orientations_fit;
  misfit = misfits_are_one_sided;
  kinds = surfaces_are_two_sided_or_one_sided;
  determined = orientations_are_determined;
  by_step = tree_chains_go_by_step;
}
