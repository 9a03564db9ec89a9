use Rattle.surf_orientation.proofs.GenusLaws.{counts_are_even, genus_is_half, genus_is_loop_count, left_edges_are_twice_genus}
use Rattle.surf_orientation.proofs.law_of_genus.Goals as goal

pub returns : goal.returns
returns c = record {
  even = counts_are_even;
  half = genus_is_half;
  loops = genus_is_loop_count;
  left =
      left_edges_are_twice_genus;
}
