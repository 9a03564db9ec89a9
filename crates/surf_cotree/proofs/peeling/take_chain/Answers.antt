use Rattle.surf_surfaces.proofs.Common.{dual, cells_of, ◌≡◌, length, arith, edge_count}
use Rattle.surf_cotree.proofs.Leaves.{taken_peeled, taken_smaller}
use Rattle.surf_cotree.proofs.peeling.take_chain.Goals as goal

pub loop-hangs-smaller : goal.loop-hangs-smaller
loop-hangs-smaller c =
    let long : length c.loop-hangs.marks ≡ edge_count c.args.mesh.now = omega (arith, c.requires.marks, c.loop-hangs.auto.marks) in
    taken_smaller (dual (cells_of c.args.mesh.now)) c.loop-hangs.marks c.take_leaf.new.marks c.loop-hangs.face c.in-Some.on c.in-Some.field-0-0 c.in-Some.ensures.taken long c.loop-hangs.invariant.inside

pub loop-hangs-preserved : goal.loop-hangs-preserved
loop-hangs-preserved c =
    let long : length c.loop-hangs.marks ≡ edge_count c.args.mesh.now = omega (arith, c.requires.marks, c.loop-hangs.auto.marks) in
    record {
      inside = c.in-Some.ensures.taken.1.other_in;
      peeled = λ allowed before. taken_peeled (dual (cells_of c.args.mesh.now)) c.loop-hangs.marks c.take_leaf.new.marks c.loop-hangs.face c.in-Some.on c.in-Some.field-0-0 c.in-Some.ensures.taken long c.loop-hangs.invariant.inside allowed (c.loop-hangs.invariant.peeled allowed before);
    }
