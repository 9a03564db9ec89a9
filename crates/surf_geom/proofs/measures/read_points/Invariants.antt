use Rattle.surf_surfaces.proofs.Common.{◌≡◌, take, length, Ok, range_with_len}
use Rattle.surf_geom.specs.Lists.{each}
use Rattle.surf_geom.specs.Points.{point_in}
use Rattle.surf_geom.proofs.measures.read_points.Given as goal

abbrev pub invariant-loop-v : goal.invariant-loop-v
invariant-loop-v l = record {
  so_far : each (point_in l.text.vertex_lines) (take l.v (range_with_len 0 (length l.text.vertex_lines))) ≡ Ok l.points.items;
}
