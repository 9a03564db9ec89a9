use Rattle.surf_surfaces.proofs.classes.NoLongerLaws.{shortest_is_first_in_order}
use Rattle.surf_surfaces.proofs.walks.ShortestWalkLaws.{shortest_loops_are_shortest_not_null, shortest_of_bases_are_shortest_not_null, shortest_not_null_is_nonseparating, least_bases_measure_shortest, bases_have_shortest, first_loop_is_shortest_not_null, first_of_basis_is_shortest_not_null}
use Rattle.surf_surfaces.proofs.law_of_shortest_walks.Goals as goal

pub returns : goal.returns
returns c = record {
  loops = shortest_loops_are_shortest_not_null;
  bases = shortest_of_bases_are_shortest_not_null;
  nonseparating = shortest_not_null_is_nonseparating;
  some = bases_have_shortest;
  in_order = shortest_is_first_in_order;
  measure = least_bases_measure_shortest;
  first_loop = first_loop_is_shortest_not_null;
  first_of_basis = first_of_basis_is_shortest_not_null;
}
