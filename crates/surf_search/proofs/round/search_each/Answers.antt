use Rattle.surf_search.proofs.Common.{◌≡◌, ◌<◌, ◌≤◌, ℕ, get_or, set, length-set, sym, ap, ◌∙◌, subst, arith, inl, inr, cases_lt, get_or_default, or_left, ◌&&◌, surface_of, is_marked, IsBarring, KeepsInRound, cap_at, in_caps, in_round, is_within_cap}
use Rattle.surf_search.proofs.Capping.{no_less_on}
use Rattle.surf_search.proofs.Rounded.{IsRaisedAt, raised_at, round_fewer, visited_caps}
use Rattle.surf_search.proofs.round.search_each.Goals as goal

pub loop-v-preserved : goal.loop-v-preserved
loop-v-preserved c =
    let f = surface_of c.args.round.now.surface.now in
    let inv = c.loop-v.invariant in
    let vs = c.args.vertices.now in
    let caps = c.args.caps.now in
    let reached = c.loop-v.reached in
    let before = c.loop-v.round.marks.items in
    let after = c.visit.new.round.marks.items in
    let i = c.loop-v.v-index in
    let v = c.v-item.result in
    let cap = get_or caps c.index.result 0 in
    let new = set reached c.index-in-loop-v-2.result c.max.result in
    let here : cap ≡ cap_at caps v = ap (cap_at caps) c.index.ensures in
    let at_index : (d : ℕ) → get_or vs i d ≡ v =
    λ d. get_or_default vs i d v c.loop-v-test.true ∙ sym c.v-item.is in
    let v_in : v < f.mesh.vertices = subst (λ u. u < f.mesh.vertices) (at_index 0) (c.requires.vertices i 0 c.loop-v-test.true) in
    let raised : IsRaisedAt reached new v cap =
    raised_at reached c.index-in-loop-v.result c.index-in-loop-v-2.result v cap c.max.result c.index-in-loop-v.ensures
    c.index-in-loop-v-2.ensures (omega (arith, v_in, inv.count, c.requires.reached))
    c.max.ensures in
    let keeps : KeepsInRound f c.args.round.now.least cap before after c.loop-v.choice c.visit.new.choice =
    subst (λ n. KeepsInRound f n cap before after c.loop-v.choice c.visit.new.choice) inv.least
    (subst (λ s. KeepsInRound (surface_of s.now) c.loop-v.round.least cap before after c.loop-v.choice c.visit.new.choice) inv.surface
    c.in_ok-visit.ensures.kept) in
    record {
      surface = c.in_ok-visit.ensures.surface ∙ inv.surface;
      least = c.in_ok-visit.ensures.least ∙ inv.least;
      width = c.visit.ensures.width ∙ inv.width;
      count = length-set reached c.index-in-loop-v-2.result c.max.result ∙ inv.count;
      more = no_less_on c.args.reached.now reached new inv.more raised.no_less;
      barring = subst (λ s. IsBarring (surface_of s.now) c.visit.new.finder after) inv.surface c.visit.ensures.barring;
      each = λ k d l. elim (cases_lt k i) [
        | inl less ↦ let a = inv.each k d less in let b = raised.no_less (get_or vs k d) in omega (arith, a, b)
        | inr more ↦
            let same : k ≡ i = omega (arith, l, more) in
            let is : get_or vs k d ≡ v = ap (λ j. get_or vs j d) same ∙ at_index d in
            let a = ap (cap_at caps) is in
            let b = ap (cap_at new) is in
            let there = raised.there in
            omega (arith, a, b, here, there)
      ];
      kept = λ bound low.
          (let le : bound ≤ cap = (let a = low i 0 (omega arith) in let b = ap (cap_at caps) (at_index 0) in omega (arith, a, b, here)) in
          let fall : (k d : ℕ) → k < i → cap ≤ cap_at caps (get_or vs k d) =
          λ k d l. (let falls = c.requires.falling k i d (omega (arith, l)) c.loop-v-test.true in
          let e = ap (cap_at caps) (at_index d) in
          omega (arith, falls, e, here)) in
          let up : (u : ℕ) → u < f.mesh.vertices → c.args.round.now.least ≤ cap_at reached u =
          λ u l. (let a = c.requires.least u (omega (arith, l, c.requires.reached)) in let b = inv.more u in omega (arith, a, b)) in
          visited_caps f reached new after v cap bound c.visit.new.choice c.law_of_surface.ensures.surface c.requires.barring.positive
          c.in_ok-visit.ensures.marked le raised.each (keeps reached up (inv.kept cap fall)));
    }

pub returns-clause-kept : goal.returns-clause-kept
returns-clause-kept c =
    let f = surface_of c.args.round.now.surface.now in
    let marks = c.loop-v.round.marks.items in
    round_fewer f (in_round c.loop-v.reached marks 0) (in_caps c.loop-v.reached) c.loop-v.choice c.law_of_surface.ensures.surface
    c.requires.barring.positive
    (λ z p on. or_left (in_caps c.loop-v.reached z p) (is_marked marks z && is_within_cap 0 p) on)
    (c.loop-v.invariant.kept 0 (λ k d l. omega arith))
