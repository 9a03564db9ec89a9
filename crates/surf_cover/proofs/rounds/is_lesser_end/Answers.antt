use Rattle.std.proofs.Common.{arith}
use Rattle.surf_cover.proofs.Best.{no_lesser_end}
use Rattle.surf_cover.proofs.rounds.is_lesser_end.Goals as goal

pub returns : goal.returns
returns c = record {
  end = no_lesser_end c.args.mesh.now c.args.v c.edges_at-edge-items.result.now c.args.cotree.now.signatures c.args.number
      c.edges_at-edge-items.ensures.row (λ k l. c.loop-edge.invariant k (omega (arith, l, c.loop-edge-test.false)));
}
