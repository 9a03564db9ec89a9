use Rattle.surf_search.proofs.Common.{◌∙◌, refl, IsBarring, ◌≤◌, ℕ, All, Bool, List, sym, subst, inl, inr, arith, All-contains, on_ok_weaker, IsTrue, AreFalling, lengths_positive, surface_of, is_marked, AreKeptUpTo, cap_at, in_caps, in_round}
use Rattle.std.specs.Prelude.{OnOk}
use Rattle.surf_finder.proofs.PassedOver.{none_marked}
use Rattle.surf_search.proofs.Rounded.{round_begun, unbarred_is}
use Rattle.surf_search.proofs.round.search_rising.Goals as goal

pub bar_first-requires-clause-done : goal.bar_first-requires-clause-done
bar_first-requires-clause-done c v on =
    let is = c.in_ok-vec.ensures.items_if_clones_equal (λ y same. same) in
    absurd (none_marked _ v (subst (λ (ms : List Bool). IsTrue (is_marked ms v)) is on))

pub search_each-done-requires-clause-falling : goal.search_each-done-requires-clause-falling
search_each-done-requires-clause-falling c =
    subst (λ (xs : List ℕ). AreFalling c.args.caps.now xs) (sym c.deref.ensures.value) c.in_ok-vertices.ensures.falling

pub search_each-done-requires-clause-kept : goal.search_each-done-requires-clause-kept
search_each-done-requires-clause-kept c =
    let f = surface_of c.args.surface.now in
    subst (λ s. (bound : ℕ) → AreKeptUpTo (surface_of s.now) (in_round c.args.reached.now c.bar_first.new.round.marks.items bound)
    c.args.choice.now) (sym c.bar_first.ensures.surface)
    (round_begun f c.args.reached.now c.args.choice.now c.bar_first.new.round.marks.items c.bar_first.ensures.done
    c.law_of_surface.ensures.surface (lengths_positive f.mesh f.lengths c.law_of_lengths.ensures.lengths c.requires.lengths) c.requires.kept)

pub returns-clause-kept : goal.returns-clause-kept
returns-clause-kept c =
    subst (λ s. OnOk c.search_each-done.result (AreKeptUpTo (surface_of s.now) (in_caps c.search_each-done.new.reached) c.search_each-done.new.choice))
    c.bar_first.ensures.surface c.search_each-done.ensures.kept

pub returns-clause-each : goal.returns-clause-each
returns-clause-each c =
    let caps = c.args.caps.now in
    let list = c.in_ok-vertices.vertices.items in
    let new = c.search_each-done.new.reached in
    on_ok_weaker c.search_each-done.result
    (λ each. (let all : All (λ v. cap_at caps v ≤ cap_at new v) list =
    subst (λ (xs : List ℕ). All (λ v. cap_at caps v ≤ cap_at new v) xs) c.deref.ensures.value each in
    λ v l. elim (c.in_ok-vertices.ensures.rising v l) [
      | inl low ↦ (let x = c.search_each-done.ensures.more v in omega (arith, low, x))
      | inr has ↦ All-contains (λ u. cap_at caps u ≤ cap_at new u) list v all has
    ])) c.search_each-done.ensures.each

pub returns-clause-same : goal.returns-clause-same
returns-clause-same c =
    let g = c.search_each-done.new.finder in
    let marks = c.search_each-done.new.round.marks.items in
    let barring = subst (λ s. IsBarring (surface_of s.now) g marks) c.bar_first.ensures.surface c.search_each-done.ensures.barring in
    c.unbar.ensures.unbarred ∙ unbarred_is (surface_of c.args.surface.now) g marks barring refl ∙ sym c.requires.finder
