use Rattle.std.proofs.Common.{◌≡◌, ℕ, ap, ◌∙◌}
use Rattle.surf_geom.specs.Points.{square_distance, point_at}
use Rattle.surf_geom.specs.Measures.{measure_of, fitting}
use Rattle.surf_geom.proofs.Greatest.{measure_is_root}
use Rattle.surf_geom.proofs.measures.edge_length.Goals as goal

pub returns : goal.returns
returns c =
    let unit = c.args.unit in
    let u = c.args.u in
    let v = c.args.v in
    let points = c.args.points.now in
    let root = measure_is_root unit c.square_distance-square.result c.root.result c.requires.some c.root.ensures.root in
    let square : c.square_distance-square.result ≡ square_distance (point_at points u) (point_at points v) =
    c.square_distance-square.ensures.square ∙ ap (λ (i : ℕ). square_distance (point_at points i) (point_at points c.index-2.result)) c.index.ensures ∙ ap (λ (i : ℕ). square_distance (point_at points u) (point_at points i)) c.index-2.ensures in
    record { length = c.fitting_length.ensures.length ∙ ap (fitting (u, v)) (root ∙ ap (measure_of unit) square) }
