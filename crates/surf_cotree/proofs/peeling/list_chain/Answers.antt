use Rattle.surf_cotree.proofs.Common.{◌≡◌, length, arith, sym, subst, dual, cells_of, edge_count, outside, IsPeeledBy}
use Rattle.surf_cotree.proofs.Leaves.{taken_listed}
use Rattle.surf_cotree.proofs.peeling.list_chain.Goals as goal

pub loop-hangs-preserved : goal.loop-hangs-preserved
loop-hangs-preserved c =
    let long : length c.loop-hangs.marks ≡ edge_count c.args.mesh.now = omega (arith, c.requires.marks, c.loop-hangs.auto.marks) in
    record {
      inside = c.in-Some.ensures.taken.1.other_in;
      peeled = λ allowed before. taken_listed (dual (cells_of c.args.mesh.now)) c.loop-hangs.marks c.take_leaf.new.marks c.loop-hangs.face _ _ c.in-Some.ensures.taken long c.loop-hangs.invariant.inside allowed c.loop-hangs.leaves c.loop-hangs.count (omega (arith, c.if-count-leaves.true)) (c.loop-hangs.invariant.peeled allowed before);
    }

pub returns-in_default : goal.returns-in_default
returns-in_default c = record {
  peeled = λ allowed before. subst (λ m. IsPeeledBy (dual (cells_of c.args.mesh.now)) allowed c.loop-hangs.leaves c.loop-hangs.count (outside m)) (sym c.in_default.ensures.taken) (c.loop-hangs.invariant.peeled allowed before);
}
