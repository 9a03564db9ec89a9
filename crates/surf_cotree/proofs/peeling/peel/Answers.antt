use Rattle.surf_cotree.proofs.Common.{dual, cells_of, outside}
use Rattle.surf_cotree.proofs.Leaves.{peeled_to_first}
use Rattle.surf_cotree.proofs.peeling.peel.Goals as goal

pub loop-face-init : goal.loop-face-init
loop-face-init c = peeled_to_first (dual (cells_of c.args.mesh.now)) (outside c.args.marks.now)

pub loop-face-preserved : goal.loop-face-preserved
loop-face-preserved c = c.take_chain.ensures.peeled (outside c.args.marks.now) c.loop-face.invariant
