use Rattle.surf_search.proofs.Common.{◌≡◌, ◌<◌, ◌≤◌, ℕ, List, length, ◌∙◌, subst, arith, lengths_positive, surface_of, cap_at}
use Rattle.surf_search.proofs.Rounded.{round_raised}
use Rattle.surf_search.proofs.rounds.run_round.Goals as goal

pub returns-clause-kept : goal.returns-clause-kept
returns-clause-kept c =
    let f = surface_of c.args.plan.now.surface.now in
    let positive = lengths_positive f.mesh f.lengths c.law_of_lengths.ensures.lengths c.requires.lengths in
    let caps = c.in_ok-caps.caps.items in
    let reached = c.search_rising.new.reached in
    let count : length caps ≡ f.mesh.vertices = c.in_ok-caps.ensures.count ∙ c.requires.reached in
    round_raised f c.args.plan.now.vertices.now c.args.most c.args.reached.now caps reached c.raise_to.new.reached c.args.choice.now
    c.search_rising.new.choice c.law_of_surface.ensures.surface positive c.requires.met c.requires.kept c.in_ok-caps.ensures.capped count
    (λ k e l. (let a = c.requires.vertices k e l in omega (arith, a, count)))
    (subst (λ (xs : List ℕ). (v : ℕ) → v < length xs → cap_at xs v ≤ cap_at reached v) c.deref.ensures.value
    c.in_ok-search_rising.ensures.each) c.raise_to.ensures.raised c.in_ok-search_rising.ensures.kept
