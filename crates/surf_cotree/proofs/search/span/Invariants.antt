use Rattle.surf_cotree.proofs.Common.{◌≡◌, length, eqb, count_below, dual, face_count, cells_of, nobody, at, reached, outside, spanned_tree, IsPrim}
use Rattle.surf_cotree.proofs.search.span.Given as goal

abbrev pub invariant-loop-face : goal.invariant-loop-face
invariant-loop-face gen l = record {
  places : length l.heap ≡ face_count l.network.mesh.now;
  root : at l.up 0 ≡ nobody;
  prim : IsPrim (dual (cells_of l.network.mesh.now)) (outside l.network.marks.now) (gen.W.Weights.weight l.weight) (reached l.depth) (spanned_tree 0 l.parent l.up l.depth) l.heap (count_below (face_count l.network.mesh.now) (λ v. eqb (at l.depth v) nobody));
}

abbrev pub decreases-loop-face : goal.decreases-loop-face
decreases-loop-face gen l = count_below (face_count l.network.mesh.now) (λ v. eqb (at l.depth v) nobody)
