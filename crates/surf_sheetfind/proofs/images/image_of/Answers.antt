use Rattle.surf_surfaces.proofs.Common.{rules, ◌≡◌, ◌<◌, ◌+◌, ◌*◌, ◌^◌, ℕ, suc, true, false, cond, slice_index, bit_xor, has, numbers, sym, ap, ◌∙◌, subst, arith, xor_lt, pow_pos, eqb-true}
use Rattle.surf_signatures.specs.Tables.{words_for}
use Rattle.surf_paired.specs.Paired.{image, sum_of_rows}
use Rattle.surf_paired.proofs.Rows.{image_none}
use Rattle.surf_sheetfind.proofs.images.image_of.Goals as goal
use Rattle.surf_sheetfind.proofs.images.image_of.Goals.{then-bit, else-bit}

pub loop-k-init : goal.loop-k-init
loop-k-init c =
    let n : ℕ = 64 * words_for c.args.rows.now.width in
    record { image = c.zero-sum.ensures; small = subst (λ x. x < 2 ^ n) (sym c.zero-sum.ensures) (pow_pos n) }

pub loop-k-preserved : goal.loop-k-preserved
loop-k-preserved c =
    let rows = c.args.rows.now.sets in
    let set = c.args.set.now in
    let k = c.loop-k.k in
    let before = c.loop-k.sum in
    let inv = c.loop-k.invariant in
    let n : ℕ = 64 * words_for c.args.rows.now.width in
    let one : k + 1 ≡ suc k = omega arith in
    let rest : ℕ = sum_of_rows (slice_index rows) set k in
    elim c.if-bit.branch [
      | then-bit w ↦
          let on : has set k ≡ true = sym c.bit.ensures ∙ w.if-bit.true in
          let row : w.of.result ≡ slice_index rows k = w.of.ensures.set ∙ ap (slice_index rows) w.new.ensures in
          let is : c.if-bit.sum ≡ bit_xor before w.of.result = w.sum-is ∙ w.add.ensures in
          record {
            image = is ∙ numbers.comm before w.of.result ∙ ap (λ r. bit_xor r before) row
                ∙ ap (bit_xor (slice_index rows k)) inv.image
                ∙ sym (ap (sum_of_rows (slice_index rows) set) one
                ∙ ap (λ b. cond b (bit_xor (slice_index rows k) rest) rest) on);
            small = subst (λ x. x < 2 ^ n) (sym is) (xor_lt n before w.of.result inv.small w.of.ensures.within);
          }
      | else-bit w ↦
          let off : has set k ≡ false = sym c.bit.ensures ∙ w.if-bit.false in
          record {
            image = w.sum-is ∙ inv.image
                ∙ sym (ap (sum_of_rows (slice_index rows) set) one
                ∙ ap (λ b. cond b (bit_xor (slice_index rows k) rest) rest) off);
            small = subst (λ x. x < 2 ^ n) (sym w.sum-is) inv.small;
          }
    ]

pub returns-then-is_empty : goal.returns-then-is_empty
returns-then-is_empty c =
    let rows = c.args.rows.now.sets in
    let none : c.args.set.now ≡ 0 = eqb-true c.args.set.now 0 (sym c.is_empty.ensures.empty ∙ c.if-is_empty.true) in
    let n : ℕ = 64 * words_for c.args.rows.now.width in
    record {
      image = c.zero-sum.ensures ∙ sym (image_none rows) ∙ ap (image rows) (sym none);
      small = subst (λ x. x < 2 ^ n) (sym c.zero-sum.ensures) (pow_pos n);
    }

pub returns : goal.returns
returns c =
    let rows = c.args.rows.now.sets in
    let end : c.loop-k.k ≡ c.args.count = search rules in
    record {
      image = c.loop-k.invariant.image
          ∙ ap (sum_of_rows (slice_index rows) c.args.set.now) (end ∙ sym c.requires.count);
      small = c.loop-k.invariant.small;
    }
