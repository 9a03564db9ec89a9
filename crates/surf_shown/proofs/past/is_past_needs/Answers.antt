use Rattle.surf_surfaces.proofs.Common.{refl, arith, leb-true, subst, min, take, numbers, Spanned}
use Rattle.surf_choice.specs.Candidates.{signatures}
use Rattle.surf_choice.specs.Places.{place_of}
use Rattle.surf_shown.proofs.PastLoops.{needs_past, past_at_end}
use Rattle.surf_shown.proofs.past.is_past_needs.Goals as goal

pub returns-then-end-from : goal.returns-then-end-from
returns-then-end-from c = record {
  past = λ short i low high.
      (let le = leb-true c.min-end.result c.args.from short in
      needs_past c.args.claim.now.loops.now c.args.margin i c.in-Some.count c.args.to c.args.found.now c.requires.claim.in_place
      c.in-Some.ensures.sum.0 (subst (λ s. Spanned numbers (signatures (take c.in-Some.count c.args.claim.now.loops.now)) s)
      c.bits.ensures c.in-Some.ensures.sum.1) high
      (λ less. absurd (omega (arith, less, low, le, c.min-end.ensures))));
}

pub returns-else-end-from : goal.returns-else-end-from
returns-else-end-from c = record {
  past = λ on i low high.
      needs_past c.args.claim.now.loops.now c.args.margin i c.in-Some.count c.args.to c.args.found.now c.requires.claim.in_place
      c.in-Some.ensures.sum.0 (subst (λ s. Spanned numbers (signatures (take c.in-Some.count c.args.claim.now.loops.now)) s)
      c.bits.ensures c.in-Some.ensures.sum.1) high
      (λ less. past_at_end c.args.claim.now.loops.now c.args.claim.now.loops.now c.args.margin c.min-end.result (min c.in-Some.count c.args.to)
      c.index-claim-end.result (place_of c.args.found.now.candidate) refl c.min-end.ensures
      (omega (arith, less)) (omega (arith, c.in-Some.ensures.sum.0)) (c.is_past.ensures.past on));
}
