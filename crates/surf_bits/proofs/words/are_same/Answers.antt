use Rattle.surf_z2.proofs.Common.{ℕ, ◌≡◌, ◌≤◌, ◌<◌, ◌^◌, ◌∙◌, get_or, length, inl, inr, sym, arith, get_or_past, number}
use Rattle.std.proofs.lemmas.Bool.{cases_lt, eq-eqb, ne_eqb}
use Rattle.surf_bits.proofs.Same.{same_words, words_same}
use Rattle.surf_bits.proofs.words.are_same.Goals as goal

pub returns-then-word_at : goal.returns-then-word_at
returns-then-word_at c =
    let us = c.args.first.now in
    let vs = c.args.second.now in
    let fits : (i : ℕ) → get_or us i 0 < 2 ^ 64 = λ i. omega (arith, c.type_inv.first i) in
    let fits' : (i : ℕ) → get_or vs i 0 < 2 ^ 64 = λ i. omega (arith, c.type_inv.second i) in
    record {
      same = sym (ne_eqb (number us) (number vs) (λ e. c.if-word_at.true
          (c.word_at.ensures ∙ words_same us vs fits fits' e c.loop-i.i ∙ sym c.word_at-in-loop-i.ensures)));
    }

pub returns : goal.returns
returns c =
    let us = c.args.first.now in
    let vs = c.args.second.now in
    let each : (k : ℕ) → get_or us k 0 ≡ get_or vs k 0 = λ k. elim (cases_lt k c.loop-i.i) [
      | inl less ↦ c.loop-i.invariant k less
      | inr past ↦
          let end = c.max-i-end.ensures in
          let one : length us ≤ k = omega (arith, end, past, c.loop-i-test.false) in
          let two : length vs ≤ k = omega (arith, end, past, c.loop-i-test.false) in
          get_or_past us k 0 one ∙ sym (get_or_past vs k 0 two)
    ] in
    record { same = sym (eq-eqb (number us) (number vs) (same_words us vs each)) }
