use Rattle.surf_cotree.proofs.Common.{ℕ, ◌<◌, ◌-◌, Bool, length, dual, cells_of, face_count, outside, IsPeeledBy}
use Rattle.surf_cotree.proofs.peeling.list_chain.Given as goal

abbrev pub invariant-loop-hangs : goal.invariant-loop-hangs
invariant-loop-hangs l = record {
  inside : l.face < face_count l.mesh;
  peeled : (allowed : ℕ → Bool) → IsPeeledBy (dual (cells_of l.mesh)) allowed l.initial.leaves l.initial.count (outside l.initial.marks) → IsPeeledBy (dual (cells_of l.mesh)) allowed l.leaves l.count (outside l.marks);
}

abbrev pub decreases-loop-hangs : goal.decreases-loop-hangs
decreases-loop-hangs l = length l.leaves - l.count
