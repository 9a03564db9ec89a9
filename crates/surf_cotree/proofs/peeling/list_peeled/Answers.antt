use Rattle.surf_cotree.proofs.Common.{dual, cells_of, outside}
use Rattle.surf_cotree.proofs.Leaves.{peeled_none}
use Rattle.surf_cotree.proofs.peeling.list_peeled.Goals as goal

pub loop-face-init : goal.loop-face-init
loop-face-init c = peeled_none (dual (cells_of c.args.mesh.now)) (outside c.args.marks.now) c.args.leaves.now

pub loop-face-preserved : goal.loop-face-preserved
loop-face-preserved c = c.list_chain-count.ensures.peeled (outside c.args.marks.now) c.loop-face.invariant
