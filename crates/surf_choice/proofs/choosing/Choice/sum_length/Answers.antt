use Rattle.surf_choice.proofs.Common.{◌≡◌, ℕ, ◌<◌, ◌≤◌, ◌-◌, take, length, get_or, sym, ap, subst, ◌∙◌, arith, get_or_default, take_all, IsInOrder, numbers, Spanned, Signed, Chosen, signatures, IsSumOfLength, stands_before}
use Rattle.surf_choice.proofs.Fronts.{spanned_more}
use Rattle.surf_choice.proofs.Changed.{rows_span_front}
use Rattle.surf_choice.proofs.Longer.{sum_no_longer}
use Rattle.surf_choice.proofs.Sifted.{as_many}
use Rattle.surf_choice.proofs.choosing.Choice.sum_length.Goals as goal

pub index-requires : goal.index-requires
index-requires c =
    let t = c.self.inside in
    let n = as_many t.kept.items t.rows.rows c.self.invariant.5 in
    let le = c.in-Some.ensures.reach.0 in
    omega (arith, n, le, c.if-count-eq0.false)

pub returns-clause-sum : goal.returns-clause-sum
returns-clause-sum c =
    let t = c.self.inside in
    let s = c.args.set.now in
    let kept = t.kept.items in
    let n = c.in-Some.count in
    let last = c.index.result.now in
    let many = as_many kept t.rows.rows c.self.invariant.5 in
    let le : n ≤ length t.rows.rows = c.in-Some.ensures.reach.0 in
    let count_in : n ≤ length kept = omega (arith, many, le) in
    let sum : Spanned numbers (signatures (take n kept)) s =
    (rows_span_front t.rows.rows kept n s c.self.invariant.5).0 c.in-Some.ensures.reach.1 in
    λ some. subst (λ (k : Chosen). IsSumOfLength k.kept last.candidate.length s) c.self.view_is (record {
      count = n;
      count_in = count_in;
      sum = sum;
      none = λ zero_is. absurd (c.if-count-eq0.false zero_is);
      last = λ k d same.
          (let at : k ≡ n - 1 = omega (arith, same) in
          let k_in : k < length kept = omega (arith, same, count_in) in
          let is : last ≡ get_or kept k d =
          subst (λ j. last ≡ get_or kept j last) (sym at) c.index.ensures ∙ get_or_default kept k last d k_in in
          ap (λ (x : Signed). x.candidate.length) (sym is));
    })

pub returns-clause-least : goal.returns-clause-least
returns-clause-least c =
    let t = c.self.inside in
    let s = c.args.set.now in
    let kept = t.kept.items in
    let n = c.in-Some.count in
    let last = c.index.result.now in
    let many = as_many kept t.rows.rows c.self.invariant.5 in
    let le : n ≤ length t.rows.rows = c.in-Some.ensures.reach.0 in
    let n_in : n ≤ length kept = omega (arith, many, le) in
    subst (λ (k : Chosen). IsInOrder stands_before k.kept → (m : ℕ) → IsSumOfLength k.kept m s → last.candidate.length ≤ m) c.self.view_is
    (λ order m h. subst (λ (x : Signed). x.candidate.length ≤ m) (sym c.index.ensures)
    (sum_no_longer kept n m s last order h n_in c.if-count-eq0.false (λ j l sum. c.in-Some.ensures.least j l
    ((rows_span_front t.rows.rows kept j s c.self.invariant.5).1 sum))))

pub returns-in_default-clause-least : goal.returns-in_default-clause-least
returns-in_default-clause-least c =
    let t = c.self.inside in
    let s = c.args.set.now in
    let kept = t.kept.items in
    let rows = t.rows.rows in
    subst (λ (k : Chosen). IsInOrder stands_before k.kept → (m : ℕ) → IsSumOfLength k.kept m s → 18446744073709551615 ≤ m) c.self.view_is
    (λ order m h.
    absurd (c.in_default.ensures.reach (subst (λ xs. Spanned numbers xs s) (take_all (length rows) rows (omega arith))
    (spanned_more h.count (length rows) rows s
    (let many = as_many kept rows c.self.invariant.5 in let le = h.count_in in omega (arith, many, le))
    ((rows_span_front rows kept h.count s c.self.invariant.5).1 h.sum)))))
