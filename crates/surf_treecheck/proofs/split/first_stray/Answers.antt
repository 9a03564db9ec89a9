use Rattle.surf_treecheck.proofs.Common.{◌+◌, take, sym, subst, IsLeastStray}
use Rattle.surf_treecheck.proofs.Strays.{next_stray}
use Rattle.surf_treecheck.proofs.split.first_stray.Goals as goal

pub loop-i-preserved : goal.loop-i-preserved
loop-i-preserved c =
    let mesh = c.args.mesh.now in
    let left = c.args.left.now in
    subst (IsLeastStray mesh (take (c.loop-i.i + 1) left)) (sym c.with_pair-least.ensures.least)
    (next_stray mesh left c.loop-i.i c.index-left-i.result c.index-left-i-in-loop-i.result c.loop-i.least
    c.loop-i-test.true c.loop-i.invariant)
