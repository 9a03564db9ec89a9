use Rattle.surf_sew.proofs.Common.{◌≡◌, ◌≢◌, [], take, drop, AllPairs, first_repeat, Marked, sewn_face}
use Rattle.surf_sew.proofs.sewing.sew_face.Given as goal

abbrev pub invariant-loop-c : goal.invariant-loop-c
invariant-loop-c l = record {
  so_far : first_repeat (take l.c-index (sewn_face l.origins l.face)) (drop l.c-index (sewn_face l.origins l.face)) ≡ first_repeat [] (sewn_face l.origins l.face);
  distinct : AllPairs (λ a b. a ≢ b) (take l.c-index (sewn_face l.origins l.face));
  marked : Marked l.marks l.stamp (take l.c-index (sewn_face l.origins l.face));
  corners : l.corners.items ≡ take l.c-index (sewn_face l.origins l.face);
}
