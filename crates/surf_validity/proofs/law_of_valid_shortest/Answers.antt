use Rattle.surf_validity.proofs.PlaceLaws.{shortest_of_valid_loops, shortest_of_valid_bases, valid_bases_have_shortest, valid_bases_measure_shortest}
use Rattle.surf_validity.proofs.law_of_valid_shortest.Goals as goal

pub returns : goal.returns
returns c = record {
  loops = shortest_of_valid_loops;
  bases = shortest_of_valid_bases;
  some = valid_bases_have_shortest;
  length = valid_bases_measure_shortest;
}
