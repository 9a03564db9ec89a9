use Rattle.surf_treecheck.proofs.Common.{HoldsBelow, HasBase}
use Rattle.surf_treecheck.proofs.shape.fits_bases.Given as goal

-- the bases before are their places
abbrev pub invariant-loop-x : goal.invariant-loop-x
invariant-loop-x l = HoldsBelow l.x (HasBase l.cert)
