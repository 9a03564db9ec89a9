use Rattle.surf_surfaces.proofs.Common.{◌≡◌, length}
use Rattle.surf_shown.specs.Shown.{AreFirstTo}
use Rattle.surf_shown.proofs.judging.are_shown.Given as goal

abbrev pub invariant-loop-round : goal.invariant-loop-round
invariant-loop-round l = record {
  first : AreFirstTo l.claim l.from;
  count : length l.ends.items ≡ l.claim.mesh.now.vertices;
}
