use Rattle.surf_treecheck.proofs.Common.{ℕ, List, Weighed, Split, HoldsBelow}
use Rattle.surf_certcheck.proofs.Common.{HasFrame, IsCoveredIn}
use Rattle.surf_certcheck.proofs.cover.SummedTree.first_uncovered.Given as goal

-- the loops of the edges before are covered
abbrev pub invariant-loop-e : goal.invariant-loop-e
invariant-loop-e l = (d : Split) (cycles : List (Weighed ℕ)) → HasFrame l.self d cycles →
    HoldsBelow l.e (IsCoveredIn l.self d cycles)
