use Rattle.surf_surfaces.proofs.walks.CycleLaws.{null_cycles_separate}
use Rattle.surf_surfaces.proofs.classes.LeastCycleLaws.{cycles_below_loops_are_shortest, least_loops_are_shortest_cycles, cycles_separate_on_sphere}
use Rattle.surf_surfaces.proofs.law_of_cycles.Goals as goal

pub returns : goal.returns
returns c = record {
  null = null_cycles_separate;
  below_loops = cycles_below_loops_are_shortest;
  least_loops =
      least_loops_are_shortest_cycles;
  sphere = cycles_separate_on_sphere;
}
