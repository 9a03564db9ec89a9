use Rattle.surf_search.proofs.Common.{◌≡◌, ℕ, ◌<◌, ◌++◌, ◌∷◌, [], List, All, length, length-append, sym, ap, ◌∙◌, subst, arith, All-permutation, All-push, AreFalling, AreRising}
use Rattle.surf_search.proofs.Capping.{rising_same, rising_more, rising_permuted}
use Rattle.surf_finder.proofs.Marked.{written_back}
use Rattle.surf_search.proofs.round.list_rising.Goals as goal
use Rattle.surf_search.proofs.round.list_rising.Goals.{then-far-cap+in_ok-push, else-far-cap}

pub loop-v-preserved : goal.loop-v-preserved
loop-v-preserved c =
    let caps = c.args.caps.now in
    let reached = c.args.reached.now in
    let old = c.loop-v.list.items in
    elim c.if-far-cap.branch [
      | then-far-cap+in_ok-push w ↦
          let is : w.push.new.self.items ≡ old ++ c.loop-v.v ∷ [] =
          w.in_ok-push.ensures.items ∙ ap (λ (v : ℕ). old ++ v ∷ []) w.new.ensures in
          let v_in : c.loop-v.v < length caps = omega (arith, c.loop-v-test.true) in
          rw w.list-is (record {
            inside = subst (λ (xs : List ℕ). All (λ u. u < length caps) xs) (sym is)
                (All-push (λ u. u < length caps) old c.loop-v.v c.loop-v.invariant.inside v_in);
            few = (let n = length-append old (c.loop-v.v ∷ []) in let m = ap (λ (xs : List ℕ). length xs) is in
                let le = c.loop-v.invariant.few in omega (arith, n, m, le));
            rising = rising_more caps reached c.loop-v.v old w.push.new.self.items c.loop-v.invariant.rising is;
          })
      | else-far-cap w ↦ rw w.list-is (record {
        inside = c.loop-v.invariant.inside;
        few = (let le = c.loop-v.invariant.few in omega (arith, le));
        rising = rising_same caps reached c.loop-v.v old c.loop-v.invariant.rising w.if-far-cap.false;
      })
    ]

pub returns-clause-inside : goal.returns-clause-inside
returns-clause-inside c =
    let caps = c.args.caps.now in
    let last = written_back c.sort_falling.new.vertices _ _ (omega (arith, c.sort_falling.auto.vertices, c.deref_mut.ensures.len)) in
    subst (λ (xs : List ℕ). All (λ v. v < length caps) xs) (sym last)
    (All-permutation (λ v. v < length caps) c.deref_mut.result.now c.sort_falling.new.vertices c.sort_falling.ensures.same
    (subst (λ (xs : List ℕ). All (λ v. v < length caps) xs) (sym c.deref_mut.ensures.value) c.loop-v.invariant.inside))

pub returns-clause-rising : goal.returns-clause-rising
returns-clause-rising c =
    let caps = c.args.caps.now in
    let reached = c.args.reached.now in
    let last = written_back c.sort_falling.new.vertices _ _ (omega (arith, c.sort_falling.auto.vertices, c.deref_mut.ensures.len)) in
    let past = c.loop-v-test.false in
    let full : AreRising caps reached (length caps) c.loop-v.list.items =
    λ v l. c.loop-v.invariant.rising v (omega (arith, l, past)) in
    subst (λ (xs : List ℕ). AreRising caps reached (length caps) xs) (sym last)
    (rising_permuted caps reached (length caps) c.deref_mut.result.now c.sort_falling.new.vertices c.sort_falling.ensures.same
    (subst (λ (xs : List ℕ). AreRising caps reached (length caps) xs) (sym c.deref_mut.ensures.value) full))

pub returns-clause-falling : goal.returns-clause-falling
returns-clause-falling c =
    let last = written_back c.sort_falling.new.vertices _ _ (omega (arith, c.sort_falling.auto.vertices, c.deref_mut.ensures.len)) in
    subst (λ (xs : List ℕ). AreFalling c.args.caps.now xs) (sym last) c.sort_falling.ensures.falling
