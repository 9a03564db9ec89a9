use Rattle.surf_cotree.proofs.Common.{ℕ, ◌<◌, Bool, count_below, dual, cells_of, face_count, edge_count, outside, IsPeeledTo}
use Rattle.surf_cotree.proofs.peeling.take_chain.Given as goal

abbrev pub invariant-loop-hangs : goal.invariant-loop-hangs
invariant-loop-hangs l = record {
  inside : l.face < face_count l.mesh;
  peeled : (allowed : ℕ → Bool) → IsPeeledTo (dual (cells_of l.mesh)) allowed (outside l.initial.marks) → IsPeeledTo (dual (cells_of l.mesh)) allowed (outside l.marks);
}

abbrev pub decreases-loop-hangs : goal.decreases-loop-hangs
decreases-loop-hangs l = count_below (edge_count l.mesh) (outside l.marks)
