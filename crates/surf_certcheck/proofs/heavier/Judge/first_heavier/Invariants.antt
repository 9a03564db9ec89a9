use Rattle.surf_treecheck.proofs.Common.{HasNoShorter, HoldsBelow}
use Rattle.surf_certcheck.proofs.heavier.Judge.first_heavier.Given as goal

-- no left edge before could be exchanged
abbrev pub invariant-loop-e : goal.invariant-loop-e
invariant-loop-e l = HoldsBelow l.e (HasNoShorter l.self.mesh.now l.self.lengths.now l.self.cert.now)
