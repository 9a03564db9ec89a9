use Rattle.surf_search.proofs.Common.{◌≡◌, ◌<◌, ◌≤◌, ◌^◌, ◌-◌, ℕ, All, List, length, take, get_or, false, sym, ap, ◌∙◌, subst, arith, on_ok_weaker, IsTrue, IsPermutation, All-take, Signed, independent_of, signed_earlier, place_of, is_sought, AreFirstFound}
use Rattle.surf_z2.specs.Order.{merge}
use Rattle.surf_finder.specs.declared.told_loops.Ties.TheVariants.{LesserBase}
use Rattle.surf_search.proofs.LeftOut.{first_kept, first_permuted, first_small}
use Rattle.surf_finder.proofs.Marked.{written_back}
use Rattle.surf_search.proofs.round.keep_at.Goals as goal

pub keep-requires : goal.keep-requires
keep-requires c =
    let f = c.args.finder.now in
    let n = c.count_sooner-count.result in
    let width = c.args.choice.now.width in
    let list = c.sort_loops.new.found in
    let whole = written_back list _ _ (omega (arith, c.sort_loops.auto.found, c.deref_mut.ensures.len)) in
    let same = subst (λ (xs : List Signed). IsPermutation xs list) c.deref_mut.ensures.value c.sort_loops.ensures.same in
    let small = first_small LesserBase f.mesh f.lengths c.law_of_finder.ensures.surface c.law_of_finder.ensures.positive f.signs width c.requires.signed c.args.wide.now c.args.base list
    (first_permuted LesserBase f.mesh f.lengths f.signs c.args.wide.now c.args.base c.find.new.found.items list same c.in_ok-find.ensures.found) in
    record {
      small = All-take (λ (s : Signed). s.signature < 2 ^ width) n c.deref-2.result.now
          (subst (λ (xs : List Signed). All (λ s. s.signature < 2 ^ width) xs) (sym (c.deref-2.ensures.value ∙ whole)) small);
    }

pub returns-clause-found : goal.returns-clause-found
returns-clause-found c =
    let f = c.args.finder.now in
    let list = c.sort_loops.new.found in
    let whole = written_back list _ _ (omega (arith, c.sort_loops.auto.found, c.deref_mut.ensures.len)) in
    let same = subst (λ (xs : List Signed). IsPermutation xs list) c.deref_mut.ensures.value c.sort_loops.ensures.same in
    on_ok_weaker c.keep.result
    (λ kept. subst (λ (xs : List Signed). AreFirstFound LesserBase f.mesh f.lengths f.signs c.args.wide.now c.args.base xs) (sym whole)
    (first_permuted LesserBase f.mesh f.lengths f.signs c.args.wide.now c.args.base c.find.new.found.items list same c.in_ok-find.ensures.found))
    c.keep.ensures.kept

pub returns-clause-kept : goal.returns-clause-kept
returns-clause-kept c =
    let f = c.args.finder.now in
    let old = c.args.choice.now in
    let limit = c.args.limit.now in
    let n = c.count_sooner-count.result in
    let list = c.sort_loops.new.found in
    let whole = written_back list _ _ (omega (arith, c.sort_loops.auto.found, c.deref_mut.ensures.len)) in
    let first : c.deref.result.now ≡ list = c.deref.ensures.value ∙ whole in
    let second : c.deref-2.result.now ≡ list = c.deref-2.ensures.value ∙ whole in
    let same = subst (λ (xs : List Signed). IsPermutation xs list) c.deref_mut.ensures.value c.sort_loops.ensures.same in
    let found = first_permuted LesserBase f.mesh f.lengths f.signs c.args.wide.now c.args.base c.find.new.found.items list same c.in_ok-find.ensures.found in
    on_ok_weaker c.keep.result
    (λ kept. first_kept f old.width c.law_of_finder.ensures.surface c.law_of_finder.ensures.positive c.requires.few.0 c.requires.few.1 c.requires.signed
    limit c.args.wide.now c.args.base n list found c.sort_loops.ensures.sorted c.requires.wide
    (subst (λ (xs : List Signed). n ≤ length xs) first c.count_sooner-count.ensures.count)
    (subst (λ (xs : List Signed). (s : Signed) → 0 < n → IsTrue (is_sought limit (place_of (get_or xs (n - 1) s).candidate))) first
    c.count_sooner-count.ensures.last)
    (subst (λ (xs : List Signed). (k : ℕ) (s : Signed) → n ≤ k → k < length xs →
    is_sought limit (place_of (get_or xs k s).candidate) ≡ false) first c.count_sooner-count.ensures.late)
    old c.keep.new.self
    (kept ∙ ap (λ (xs : List Signed). record old { kept = independent_of (merge signed_earlier old.kept (take n xs)) }) second))
    c.keep.ensures.kept
