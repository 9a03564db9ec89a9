use Rattle.surf_surfaces.proofs.Common.{ℕ, ◌<◌, ◌-◌, get_or, face_count, IsFaceOf}
use Rattle.surf_check.specs.Growth.{TreeGrows, IsCrossed}
use Rattle.surf_check.proofs.growth.grow.Given as goal

abbrev pub invariant-loop-k : goal.invariant-loop-k
invariant-loop-k l = record {
  grows : TreeGrows l.mesh l.tree;
  done : (i : ℕ) → i < l.k → (s : ℕ) → IsFaceOf l.mesh s (get_or l.tree.listed.items i 0) →
      IsCrossed l.mesh l.tree.seen.items s;
}

abbrev pub decreases-loop-k : goal.decreases-loop-k
decreases-loop-k l = face_count l.mesh - l.k
