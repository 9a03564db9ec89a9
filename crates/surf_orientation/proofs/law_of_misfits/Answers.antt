use Rattle.surf_orientation.proofs.MisfitLaws.{misfits_are_even, two_sided_where_misfits_are_boundary, spheres_are_two_sided, one_sided_characteristics_are_at_most_one}
use Rattle.surf_orientation.proofs.law_of_misfits.Goals as goal

pub returns : goal.returns
returns c = record {
  even = misfits_are_even;
  boundary = two_sided_where_misfits_are_boundary;
  spheres =
      spheres_are_two_sided;
  one_sided = one_sided_characteristics_are_at_most_one;
}
