use Rattle.surf_choice.proofs.Common.{ℕ, List, ◌≡◌, ◌≢◌, length, set, bit_xor, ap, ◌∙◌, subst, arith, AllByRecursion, length-set, numbers, Spanned, number, xor_zero_l, Rows}
use Rattle.surf_choice.proofs.Admitted.{rows_few, row_room, echelon_more, words_enough, left_some, left_at}
use Rattle.surf_choice.proofs.Greatest.{led_count, exponent_below}
use Rattle.surf_choice.proofs.echelon.Echelon.admit.Goals as goal

pub add_to-requires : goal.add_to-requires
add_to-requires c = record {
  fits = words_enough c.args.self.now.width c.args.set.now c.law_of_echelon.ensures.width c.requires.small;
}

pub overflow_cast-len : goal.overflow_cast-len
overflow_cast-len c =
    let t = c.self.inside in
    omega (arith, rows_few t.rows.items t.tops.items t.places.items c.self.invariant.0, c.self.invariant.0.few, c.len.ensures)

pub index_mut-requires : goal.index_mut-requires
index_mut-requires c =
    let left = left_at c.self.inside.tops.items c.self.inside.places.items c.deref-2.result.now c.deref-3.result.now (number c.reduce.new.set) c.in-Some.top
    c.deref-2.ensures.value c.deref-3.ensures.value c.in-Some.ensures.left c.in-Some.ensures.small in
    let l = exponent_below c.in-Some.top (length c.self.inside.places.items) (number c.reduce.new.set) left.0.has left.2 in
    omega (arith, l)

pub push_reserved-requires : goal.push_reserved-requires
push_reserved-requires c =
    let t = c.self.inside in
    let left = left_at c.self.inside.tops.items c.self.inside.places.items c.deref-2.result.now c.deref-3.result.now (number c.reduce.new.set) c.in-Some.top
    c.deref-2.ensures.value c.deref-3.ensures.value c.in-Some.ensures.left c.in-Some.ensures.small in
    let room = row_room t.rows.items t.tops.items t.places.items (number c.reduce.new.set) c.in-Some.top c.self.invariant.0 left.0 left.2 left.1 in
    omega (arith, room, c.self.invariant.1)

pub push_reserved-requires-in-Some : goal.push_reserved-requires-in-Some
push_reserved-requires-in-Some c =
    let t = c.self.inside in
    let n = led_count t.rows.items t.tops.items c.self.invariant.0.led in
    let left = left_at c.self.inside.tops.items c.self.inside.places.items c.deref-2.result.now c.deref-3.result.now (number c.reduce.new.set) c.in-Some.top
    c.deref-2.ensures.value c.deref-3.ensures.value c.in-Some.ensures.left c.in-Some.ensures.small in
    let room = row_room t.rows.items t.tops.items t.places.items (number c.reduce.new.set) c.in-Some.top c.self.invariant.0 left.0 left.2 left.1 in
    omega (arith, room, n, c.self.invariant.2)

pub invariant_of-self : goal.invariant_of-self
invariant_of-self c =
    let t = c.self.inside in
    let left = left_at c.self.inside.tops.items c.self.inside.places.items c.deref-2.result.now c.deref-3.result.now (number c.reduce.new.set) c.in-Some.top
    c.deref-2.ensures.value c.deref-3.ensures.value c.in-Some.ensures.left c.in-Some.ensures.small in
    let top = c.in-Some.top in
    let n : c.len.result ≡ length t.rows.items = omega (arith, c.len.ensures) in
    let wide : length (set t.places.items top c.len.result) ≡ length t.places.items = length-set t.places.items top c.len.result in
    let row : c.add.new.self ≡ number c.reduce.new.set =
    c.add.ensures ∙ ap (λ x. bit_xor x c.over.result) c.zero-row.ensures ∙ xor_zero_l c.over.result ∙ c.over.ensures in (
      rw (c.push_reserved.ensures.items, c.push_reserved-in-Some.ensures.items, row)
          (echelon_more t.rows.items t.tops.items t.places.items (number c.reduce.new.set) top c.len.result c.self.invariant.0 left.0 left.2 left.1 n),
      omega (arith, wide, c.self.invariant.1, c.push_reserved.ensures.capacity),
      omega (arith, wide, c.self.invariant.2, c.push_reserved-in-Some.ensures.capacity),
    )

pub returns-in-Some-clause-sum : goal.returns-in-Some-clause-sum
returns-in-Some-clause-sum c =
    let t = c.self.inside in
    let w = c.args.set.now in
    let old : number c.add_to.new.words ≡ w = c.add_to.ensures.sum ∙ xor_zero_l w in
    let differ : Spanned numbers t.rows.items (bit_xor w (number c.reduce.new.set)) =
    subst (λ (xs : List ℕ). Spanned numbers xs (bit_xor w (number c.reduce.new.set))) c.deref.ensures.value
    (subst (λ x. Spanned numbers c.deref.result.now (bit_xor x (number c.reduce.new.set))) old c.in-Some.ensures.differ) in
    subst (λ (r : Rows). Spanned numbers r.rows w → ⊥) c.self.view_is
    (left_some t.rows.items t.tops.items w (number c.reduce.new.set) c.in-Some.top c.self.invariant.0.led differ
    c.in-Some.ensures.left.0 (subst (AllByRecursion (λ k. k ≢ c.in-Some.top)) c.deref-2.ensures.value c.in-Some.ensures.left.1))
