use Rattle.surf_treecheck.specs.First.{HoldsBelow}
use Rattle.surf_certcheck.specs.BasisFaults.{IsAlong}
use Rattle.surf_certcheck.proofs.cycles.is_along_edges.Given as goal

-- the steps before are along edges
abbrev pub invariant-loop-i : goal.invariant-loop-i
invariant-loop-i l = HoldsBelow l.i (IsAlong l.mesh l.list)
