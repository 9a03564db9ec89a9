use Rattle.surf_treecheck.proofs.Common.{◌≡◌, length, IsPermutation, range_with_len, HoldsBelow}
use Rattle.surf_certcheck.proofs.Bases.{AreCovered}
use Rattle.surf_certcheck.proofs.cover.first_uncovered.Given as goal

-- the loops at the bases before are covered
abbrev pub invariant-loop-x : goal.invariant-loop-x
invariant-loop-x l = record {
  all : IsPermutation (range_with_len 0 l.case.mesh.now.vertices) l.order;
  room : length l.sums.sets ≡ l.case.mesh.now.vertices;
  width : l.sums.width ≡ l.frame.signs.width;
  covered : HoldsBelow l.x (AreCovered l.case.mesh.now l.case.lengths.now l.case.cert.now);
}
