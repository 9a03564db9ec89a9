use Rattle.surf_surfaces.proofs.Common.{◌<◌, ◌≡◌, ◌^◌, ◌&&◌, ℕ, true, false, not, has, bit_xor, ap, sym, subst, ◌∙◌, arith}
use Rattle.surf_sheetcheck.specs.Tables.{is_within}
use Rattle.surf_sheetcheck.proofs.SetLaws.{out, out_already, out_small, cleared_more, cleared_none}
use Rattle.surf_sheetcheck.proofs.sets.clear_within.Goals as goal
use Rattle.surf_sheetcheck.proofs.sets.clear_within.Goals.{then-bit, else-bit}

pub loop-i-init : goal.loop-i-init
loop-i-init c = record { cleared = cleared_none c.args.from c.args.set.now; small = λ n l. l }

pub loop-i-preserved : goal.loop-i-preserved
loop-i-preserved c =
    let set = c.loop-i.set in
    let i = c.loop-i.i in
    let inv = c.loop-i.invariant in
    let bit : c.bit.result ≡ has set i = c.bit.ensures ∙ ap (λ x. has x i) c.bits.ensures in
    elim c.if-bit.branch [
      | then-bit w ↦
          let on : has set i ≡ true = sym bit ∙ w.if-bit.true in
          let new_is : c.if-bit.set ≡ bit_xor set (2 ^ i) =
          w.set-is ∙ w.add.ensures ∙ ap (bit_xor set) (w.bits-then-bit.ensures ∙ w.unit.ensures) in
          record {
            cleared = cleared_more c.args.from i c.args.set.now set c.if-bit.set c.loop-i.auto.i inv.cleared
                (λ j. ap (λ x. has x j) new_is ∙ out set i on j);
            small = λ n l. subst (λ x. x < 2 ^ n) (sym new_is) (out_small set i n on (inv.small n l));
          }
      | else-bit w ↦
          let off : has set i ≡ false = sym bit ∙ w.if-bit.false in
          record {
            cleared = cleared_more c.args.from i c.args.set.now set c.if-bit.set c.loop-i.auto.i inv.cleared
                (λ j. ap (λ x. has x j) w.set-is ∙ out_already set i off j);
            small = λ n l. subst (λ x. x < 2 ^ n) (sym w.set-is) (inv.small n l);
          }
    ]

pub returns : goal.returns
returns c =
    let most = c.loop-i.auto.i-end c.requires.ordered in
    let end : c.loop-i.i ≡ c.args.to = omega (arith, most, c.loop-i-test.false) in
    record {
      cleared = subst (λ n. (j : ℕ) → has c.loop-i.set j ≡ (has c.args.set.now j && not (is_within c.args.from n j))) end
          c.loop-i.invariant.cleared;
      small = c.loop-i.invariant.small;
    }
