use Rattle.surf_surfaces.proofs.Common.{length, eqb-true}
use Rattle.surf_shown.proofs.Judged.{all_first}
use Rattle.surf_shown.proofs.judging.are_shown.Goals as goal

pub returns : goal.returns
returns c = record {
  places = λ same.
      all_first c.args.claim.now c.loop-round.from c.law_of_surface.ensures.surface c.requires.claim
      (eqb-true c.loop-round.from (length c.args.claim.now.loops.now) same)
      c.loop-round.invariant.first;
}
