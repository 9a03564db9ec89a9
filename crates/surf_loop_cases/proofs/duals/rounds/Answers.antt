use Rattle.std.proofs.Common.{arith}
use Rattle.surf_loop_cases.proofs.Signed.{two_loops_small}
use Rattle.surf_loop_cases.proofs.duals.rounds.Goals as goal

pub make-requires : goal.make-requires
make-requires c = record {
  small = two_loops_small c.args.mesh.now (omega (arith, c.vertices-2.ensures.count, c.if-vertices-gt16384.false))
      (omega (arith, c.vertices.ensures.count, c.faces.ensures.count, c.edges.ensures.count, c.if-edges-cells.false));
}
