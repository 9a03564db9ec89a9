use Rattle.surf_surfaces.proofs.walks.ShortestWalkLaws.{chosen_loops_are_in_order, chosen_loops_are_least_in_order, chosen_basis_is_in_order, chosen_basis_is_least_in_order}
use Rattle.surf_surfaces.proofs.law_of_chosen_places.Goals as goal

pub returns : goal.returns
returns c = record {
  loops = chosen_loops_are_least_in_order;
  loops_in_order = chosen_loops_are_in_order;
  basis = chosen_basis_is_least_in_order;
  basis_in_order = chosen_basis_is_in_order;
}
