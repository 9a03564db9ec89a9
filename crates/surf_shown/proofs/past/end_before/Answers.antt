use Rattle.surf_surfaces.proofs.Common.{ℕ, ◌-◌, ◌≤◌, length, arith, refl}
use Rattle.surf_choice.specs.Places.{place_of}
use Rattle.surf_shown.proofs.PastLoops.{end_past, past_at_end}
use Rattle.surf_shown.proofs.past.end_before.Goals as goal

pub returns-then-is_past-clause-past : goal.returns-then-is_past-clause-past
returns-then-is_past-clause-past c = λ i low less place out.
    let kept = c.args.claim.now.loops.now in
    let end : ℕ = c.args.to - (c.loop-k.k - c.args.from) in
    let inside : end ≤ length kept = omega (arith, c.requires.to) in
    end_past kept c.args.margin end i c.args.limit.now c.in-Some.last place c.requires.claim.in_place c.in-Some.is inside less out
    (past_at_end kept c.args.claim.now.loops.now c.args.margin end end c.index-claim-end.result (place_of c.in-Some.last)
    refl refl (omega (arith, less)) inside (c.is_past.ensures.past c.if-is_past.true))
