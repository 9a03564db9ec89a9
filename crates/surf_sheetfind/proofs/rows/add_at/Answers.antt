use Rattle.surf_surfaces.proofs.Common.{◌≡◌, ◌<◌, ◌*◌, ◌^◌, ℕ, length, set, cond, slice_index, bit_xor, has, true, false, numbers, refl, sym, ap, ◌∙◌, subst, inl, inr, cases_eq, eq-eqb, ne_eqb, get_or-set_same, get_or-set_other, length-set, xor_lt}
use Rattle.surf_base.specs.Tables.{at}
use Rattle.surf_signatures.specs.Tables.{Signed, words_for}
use Rattle.surf_paired.specs.Paired.{moved}
use Rattle.surf_sheetfind.proofs.Tables.{moved_on, moved_off}
use Rattle.surf_sheetfind.proofs.rows.add_at.Goals as goal

pub put-requires-clause-fits : goal.put-requires-clause-fits
put-requires-clause-fits c =
    let n : ℕ = 64 * words_for c.args.rows.now.width in
    let is : c.bits.result ≡ bit_xor c.copy-sum.result c.of-then-bit.result = c.bits.ensures ∙ c.add.ensures in
    subst (λ x. x < 2 ^ n) (sym is)
    (xor_lt n c.copy-sum.result c.of-then-bit.result
    (subst (λ x. x < 2 ^ n) (sym c.copy-sum.ensures.same) c.requires.fits) c.of-then-bit.ensures.within)

pub returns-then-bit : goal.returns-then-bit
returns-then-bit c =
    let old = c.args.rows.now.sets in
    let v = c.args.row in
    let k = c.args.k in
    let other = c.args.other.now in
    let here : c.of.result ≡ at old v = c.of.ensures.set ∙ ap (slice_index old) c.new-v.ensures in
    let on : has (at old v) k ≡ true = ap (λ x. has x k) (sym here) ∙ sym c.bit.ensures ∙ c.if-bit.true in
    let again : c.of-then-bit.result ≡ at old v = c.of-then-bit.ensures.set ∙ ap (slice_index old) c.new-v.ensures in
    let x : ℕ = c.bits.result in
    let x_is : x ≡ moved k other (at old v) =
    c.bits.ensures ∙ c.add.ensures ∙ ap (λ a. bit_xor a c.of-then-bit.result) c.copy-sum.ensures.same
    ∙ ap (bit_xor other) again ∙ numbers.comm other (at old v) ∙ sym (moved_on k other (at old v) on) in
    let sets_are : c.put.new.self.sets ≡ set old v x =
    ap (λ (s : Signed). s.sets) c.put.ensures.put ∙ ap (λ i. set old i x) c.new-v.ensures in
    record {
      added = λ j. elim (cases_eq v j) [
        | inl same ↦
            ap (λ xs. at xs j) sets_are ∙ ap (at (set old v x)) (sym same) ∙ get_or-set_same old v x 0 c.requires.row ∙ x_is
            ∙ ap (λ i. moved k other (at old i)) same
            ∙ sym (ap (λ b. cond b (moved k other (at old j)) (at old j)) (eq-eqb v j same))
        | inr ne ↦
            ap (λ xs. at xs j) sets_are ∙ get_or-set_other old v j x 0 (λ s. ne (sym s))
            ∙ sym (ap (λ b. cond b (moved k other (at old j)) (at old j)) (ne_eqb v j ne))
      ];
      count = ap length sets_are ∙ length-set old v x;
      width = ap (λ (s : Signed). s.width) c.put.ensures.put;
    }

pub returns-else-bit : goal.returns-else-bit
returns-else-bit c =
    let old = c.args.rows.now.sets in
    let v = c.args.row in
    let k = c.args.k in
    let other = c.args.other.now in
    let here : c.of.result ≡ at old v = c.of.ensures.set ∙ ap (slice_index old) c.new-v.ensures in
    let off : has (at old v) k ≡ false = ap (λ x. has x k) (sym here) ∙ sym c.bit.ensures ∙ c.if-bit.false in
    record {
      added = λ j. elim (cases_eq v j) [
        | inl same ↦
            ap (at old) (sym same) ∙ sym (moved_off k other (at old v) off) ∙ ap (λ i. moved k other (at old i)) same
            ∙ sym (ap (λ b. cond b (moved k other (at old j)) (at old j)) (eq-eqb v j same))
        | inr ne ↦ sym (ap (λ b. cond b (moved k other (at old j)) (at old j)) (ne_eqb v j ne))
      ];
      count = refl;
      width = refl;
    }
