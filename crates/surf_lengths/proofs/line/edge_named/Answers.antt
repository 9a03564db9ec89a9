use Rattle.std.proofs.Common.{◌≤◌, sym, arith, inl, inr}
use Rattle.surf_lengths.proofs.EdgeNames.{edge_found, edge_inside, far_ends}
use Rattle.surf_lengths.proofs.line.edge_named.Goals as goal
use Rattle.surf_lengths.proofs.line.edge_named.Goals.{else-u-vertices-via-then-u-vertices+else-v-vertices, else-u-vertices-via-else-u-vertices}

pub returns-then-v-vertices : goal.returns-then-v-vertices
returns-then-v-vertices c = record { edge = edge_found c.args.mesh.now c.args.u c.args.v c.find_edge.result (rw (c.new.ensures, c.new-then-v-vertices.ensures) at c.find_edge.ensures.edge); inside = edge_inside c.args.mesh.now c.args.u c.args.v c.find_edge.result (rw (c.new.ensures, c.new-then-v-vertices.ensures) at c.find_edge.ensures.edge) }

pub returns-else-u-vertices : goal.returns-else-u-vertices
returns-else-u-vertices c =
    let mesh = c.args.mesh.now in
    let all : mesh.vertices ≤ c.from-vertices.result = omega (arith, c.vertices.ensures.count, c.from-vertices.ensures) in
    elim c.else-u-vertices.branch [
      | else-u-vertices-via-then-u-vertices+else-v-vertices b ↦ record { edge = sym (far_ends mesh c.vertices.ensures.surface.is_mesh c.args.u c.args.v (inr (omega (arith, all, b.if-v-vertices.false)))); inside = tt }
      | else-u-vertices-via-else-u-vertices b ↦ record { edge = sym (far_ends mesh c.vertices.ensures.surface.is_mesh c.args.u c.args.v (inl (omega (arith, all, b.if-u-vertices.false)))); inside = tt }
    ]
