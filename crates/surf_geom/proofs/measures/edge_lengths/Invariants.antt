use Rattle.surf_surfaces.proofs.Common.{◌≡◌, take, Ok, edges}
use Rattle.surf_geom.specs.Lists.{each}
use Rattle.surf_geom.specs.Measures.{length_of}
use Rattle.surf_geom.proofs.measures.edge_lengths.Given as goal

abbrev pub invariant-loop-e : goal.invariant-loop-e
invariant-loop-e l = record { so_far : each (length_of l.points l.unit) (take l.e (edges l.mesh)) ≡ Ok l.lengths.items }
