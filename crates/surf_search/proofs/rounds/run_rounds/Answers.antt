use Rattle.surf_search.proofs.Common.{sym, subst, arith, IsLoopCount, lengths_positive, surface_of}
use Rattle.surf_search.proofs.Rounded.{round_inside, round_places}
use Rattle.surf_search.proofs.rounds.run_rounds.Goals as goal

pub returns-clause-inside : goal.returns-clause-inside
returns-clause-inside c =
    let f = surface_of c.args.plan.now.surface.now in
    let positive = lengths_positive f.mesh f.lengths c.law_of_lengths.ensures.lengths c.requires.lengths in
    round_inside f c.law_of_surface.ensures.surface positive c.args.choice.now.width c.requires.signed c.run_round.new.reached
    c.run_round.new.choice c.in_ok-run_round.ensures.kept

pub returns-clause-places : goal.returns-clause-places
returns-clause-places c =
    let f = surface_of c.args.plan.now.surface.now in
    let positive = lengths_positive f.mesh f.lengths c.law_of_lengths.ensures.lengths c.requires.lengths in
    let new = c.run_round.new.choice in
    let full : IsLoopCount f.mesh new.width =
    subst (IsLoopCount f.mesh) (sym c.run_round.ensures.width) (subst (IsLoopCount f.mesh) (sym c.run_short_rounds.ensures.width) c.requires.full) in
    round_places f c.law_of_surface.ensures.surface positive c.args.choice.now.width c.requires.signed c.run_round.new.reached new
    c.in_ok-run_round.ensures.kept
    (λ v v_in. c.in_ok-run_round.ensures.least v (omega (arith, v_in, c.run_round.ensures.count, c.run_short_rounds.ensures.count, c.requires.reached)))
    c.law_of_choice.ensures.few full
