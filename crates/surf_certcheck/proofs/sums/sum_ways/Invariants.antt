use Rattle.surf_treecheck.proofs.Common.{◌≡◌, ◌<◌, ℕ, length, slice_index, Split, certified_tree}
use Rattle.surf_certcheck.proofs.Common.{way_class, AreTaken}
use Rattle.surf_certcheck.proofs.sums.sum_ways.Given as goal

-- the vertices before in the list have their sums
abbrev pub invariant-loop-k : goal.invariant-loop-k
invariant-loop-k l = record {
  summed : (d : Split) (to : ℕ → ℕ) → AreTaken l.mesh d to l.signs.sets → (j : ℕ) → j < l.k →
      slice_index l.sums.sets (slice_index l.order j) ≡ to (way_class l.mesh d (certified_tree l.mesh l.rows) (slice_index l.order j));
  room : length l.sums.sets ≡ l.mesh.vertices;
  width : l.sums.width ≡ l.signs.width;
}
