use Rattle.surf_surfaces.proofs.Common.{◌-◌, ◌*◌, ℕ, List, length, ap, sym, ◌∙◌, subst, arith, edges, one-le-pow}
use Rattle.std.specs.List.{All}
use Rattle.surf_geom.specs.declared.points.Point.{Point}
use Rattle.surf_geom.specs.Points.{IsNear}
use Rattle.surf_geom.specs.Measures.{length_of}
use Rattle.surf_geom.proofs.EachLaws.{each_length}
use Rattle.surf_geom.proofs.Near.{points_near}
use Rattle.surf_geom.proofs.Fitting.{lengths_positive}
use Rattle.surf_geom.proofs.measures.measure.Goals as goal

pub edge_lengths-requires-clause-near : goal.edge_lengths-requires-clause-near
edge_lengths-requires-clause-near c =
    subst (λ (points : List Point). All IsNear points) (sym c.deref.ensures.value) (points_near c.args.text.now.vertex_lines c.in_ok-points.points.items c.in_ok-points.ensures.points)

pub edge_lengths-requires-clause-some : goal.edge_lengths-requires-clause-some
edge_lengths-requires-clause-some c = omega (arith, c.pow-unit.ensures, one-le-pow (2 * (9 - c.args.k)) 10 (omega arith))

pub from_values-requires-clause-positive : goal.from_values-requires-clause-positive
from_values-requires-clause-positive c = lengths_positive c.deref.result.now c.pow-unit.result (edges c.args.mesh.now) c.in_ok-lengths.lengths.items c.in_ok-lengths.ensures.lengths

pub returns-clause-count : goal.returns-clause-count
returns-clause-count c =
    ap (λ (ns : List ℕ). length ns) c.from_values.ensures.values ∙ each_length (length_of c.deref.result.now c.pow-unit.result) (edges c.args.mesh.now) c.in_ok-lengths.lengths.items c.in_ok-lengths.ensures.lengths
