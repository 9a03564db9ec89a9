use Rattle.surf_z2.proofs.Common.{◌≡◌, ◌<◌, ◌≤◌, ◌*◌, MatchBool, MatchOption, IsTrue, length, ap, subst, ◌∙◌, arith, Spanned, numbers, has}
use Rattle.surf_bits.specs.Rows.{left_of, sieve_rows}
use Rattle.surf_bits.proofs.Rows.{rows_few, spans_tells}
use Rattle.surf_bits.proofs.sieve.Sieve.spans.Goals as goal

pub left_of-left-requires-clause-few : goal.left_of-left-requires-clause-few
left_of-left-requires-clause-few c =
    let t = c.self.inside in
    let few : length t.pivots.items ≤ t.width = rows_few t.width t.stride t.pivots.items t.reduced.items t.originals.items c.self.invariant.0 in
    omega (arith, few, c.deref.ensures.value, c.self.invariant.0.width_most)

pub returns : goal.returns
returns c =
    let t = c.self.inside in
    let ps = t.pivots.items in
    let rs = t.reduced.items in
    let os = t.originals.items in
    let left = c.left_of-left.result in
    let e : left ≡ left_of (sieve_rows t.stride ps rs os) c.args.s =
    c.left_of-left.ensures.left os ∙ ap (λ xs. left_of (sieve_rows t.stride xs c.deref-2.result.now os) c.args.s) c.deref.ensures.value
    ∙ ap (λ xs. left_of (sieve_rows t.stride ps xs os) c.args.s) c.deref-2.ensures.value in
    subst (λ s. MatchBool c.is_none.result (Spanned numbers s.admitted c.args.s) (Spanned numbers s.admitted c.args.s → ⊥)) c.self.view_is
    (spans_tells t.width t.stride ps rs os c.args.s left c.first_bit.result c.is_none.result (64 * length c.words.result.now) c.self.invariant.0 e
    (subst (λ n. MatchOption c.first_bit.result (n ≡ 0) (λ k. (k < 64 * length c.words.result.now) × IsTrue (has n k))) c.words.ensures.set c.first_bit.ensures) c.is_none.ensures)
