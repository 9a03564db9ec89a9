use Rattle.surf_choice.proofs.Common.{◌≡◌, ◌<◌, ◌≤◌, ◌*◌, ◌^◌, length, bit_xor, sym, ◌∙◌, subst, arith, xor_lt, numbers, Spanned, number}
use Rattle.surf_choice.proofs.Admitted.{row_step, differ_more, words_enough}
use Rattle.surf_choice.proofs.Greatest.{exponent_below, led_count}
use Rattle.surf_choice.proofs.echelon.reduce.Goals as goal

pub place_of-requires-clause-top : goal.place_of-requires-clause-top
place_of-requires-clause-top c =
    exponent_below c.in-Some.top (length c.args.places.now) (number c.loop-top.set) c.in-Some.ensures.greatest.has c.loop-top.invariant.small

pub bounds-rows-place : goal.bounds-rows-place
bounds-rows-place c =
    let n = led_count c.args.rows.now c.args.tops.now c.requires.echelon.led in
    let l = c.in-Some-place_of.ensures.place.0 in
    omega (arith, l, n)

pub add_to-requires : goal.add_to-requires
add_to-requires c =
    let all = row_step c.args.rows.now c.args.tops.now c.args.places.now c.in-Some-place_of.place c.in-Some.top c.index-rows-place.result c.bits.result (number c.loop-top.set)
    c.requires.echelon c.in-Some-place_of.ensures.place.0 c.in-Some-place_of.ensures.place.1 c.index-rows-place.is c.bits.ensures c.in-Some.ensures.greatest in
    record {
      fits = subst (λ n. c.bits.result < 2 ^ (64 * n)) (sym c.loop-top.invariant.words)
          (words_enough (length c.args.places.now) c.bits.result c.requires.echelon.few all.1);
    }

pub loop-top-smaller : goal.loop-top-smaller
loop-top-smaller c =
    let all = row_step c.args.rows.now c.args.tops.now c.args.places.now c.in-Some-place_of.place c.in-Some.top c.index-rows-place.result c.bits.result (number c.loop-top.set)
    c.requires.echelon c.in-Some-place_of.ensures.place.0 c.in-Some-place_of.ensures.place.1 c.index-rows-place.is c.bits.ensures c.in-Some.ensures.greatest in
    let less = all.0 in
    let has : 2 ^ c.in-Some.top ≤ number c.loop-top.set = c.in-Some.ensures.greatest.has in
    let is : number c.add_to.new.words ≡ bit_xor (number c.loop-top.set) c.bits.result = c.add_to.ensures.sum in
    let goes : number c.add_to.new.words < number c.loop-top.set = omega (arith, is, less, has) in
    goes

pub loop-top-preserved : goal.loop-top-preserved
loop-top-preserved c =
    let all = row_step c.args.rows.now c.args.tops.now c.args.places.now c.in-Some-place_of.place c.in-Some.top c.index-rows-place.result c.bits.result (number c.loop-top.set)
    c.requires.echelon c.in-Some-place_of.ensures.place.0 c.in-Some-place_of.ensures.place.1 c.index-rows-place.is c.bits.ensures c.in-Some.ensures.greatest in
    let left = number c.loop-top.set in
    let is : number c.add_to.new.words ≡ bit_xor left c.bits.result = c.add_to.ensures.sum in
    record {
      words = c.add_to.auto.words ∙ c.loop-top.invariant.words;
      small = subst (λ n. n < 2 ^ length c.args.places.now) (sym is) (xor_lt (length c.args.places.now) left c.bits.result c.loop-top.invariant.small all.1);
      differ = subst (λ n. Spanned numbers c.args.rows.now (bit_xor (number c.args.set.now) n)) (sym is)
          (differ_more c.args.rows.now (number c.args.set.now) left c.bits.result c.loop-top.invariant.differ all.2);
    }
