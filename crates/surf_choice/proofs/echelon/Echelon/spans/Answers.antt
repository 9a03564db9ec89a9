use Rattle.surf_choice.proofs.Common.{ℕ, List, ◌≡◌, ◌≤◌, length, take, bit_xor, MatchBool, sym, ap, ◌∙◌, subst, arith, xor_zero_l, length-take-le, numbers, Spanned, number, Rows, IsEchelon}
use Rattle.surf_choice.proofs.Admitted.{echelon_front, words_enough, left_tells}
use Rattle.surf_choice.proofs.Greatest.{led_count}
use Rattle.surf_choice.proofs.echelon.Echelon.spans.Goals as goal

pub add_to-requires : goal.add_to-requires
add_to-requires c = record {
  fits = words_enough c.args.self.now.width c.args.set.now c.law_of_echelon.ensures.width c.requires.small;
}

pub slice_bounds-reduce-end-2 : goal.slice_bounds-reduce-end-2
slice_bounds-reduce-end-2 c =
    let t = c.self.inside in
    let n = led_count t.rows.items t.tops.items c.self.invariant.0.led in
    let l : c.args.count ≤ length t.rows.items = subst (λ (r : Rows). c.args.count ≤ length r.rows) (sym c.self.view_is) c.requires.count in
    let same : length c.deref-2.result.now ≡ length t.tops.items = ap (λ (xs : List ℕ). length xs) c.deref-2.ensures.value in
    sym (length-take-le c.args.count c.deref-2.result.now (omega (arith, n, l, same)))

pub reduce-requires-clause-echelon : goal.reduce-requires-clause-echelon
reduce-requires-clause-echelon c =
    let t = c.self.inside in
    rw (c.deref.ensures.value, c.deref-2.ensures.value, c.deref-3.ensures.value)
    (echelon_front c.args.count t.rows.items t.tops.items t.places.items c.self.invariant.0)

pub returns : goal.returns
returns c =
    let t = c.self.inside in
    let n = c.args.count in
    let set = c.args.set.now in
    let old : number c.add_to.new.words ≡ set = c.add_to.ensures.sum ∙ xor_zero_l set in
    let are : IsEchelon (take n c.deref.result.now) (take n c.deref-2.result.now) c.deref-3.result.now =
    rw (c.deref.ensures.value, c.deref-2.ensures.value, c.deref-3.ensures.value)
    (echelon_front n t.rows.items t.tops.items t.places.items c.self.invariant.0) in
    let tells = left_tells (take n c.deref.result.now) (take n c.deref-2.result.now) set (number c.reduce.new.set) c.reduce.result c.is_none.result are.led
    (subst (λ x. Spanned numbers (take n c.deref.result.now) (bit_xor x (number c.reduce.new.set))) old c.reduce.ensures.differ) c.reduce.ensures.left c.is_none.ensures in
    record {
      sum = subst (λ (r : Rows). MatchBool c.is_none.result (Spanned numbers (take n r.rows) set) (Spanned numbers (take n r.rows) set → ⊥)) c.self.view_is
          (subst (λ (xs : List ℕ). MatchBool c.is_none.result (Spanned numbers (take n xs) set) (Spanned numbers (take n xs) set → ⊥)) c.deref.ensures.value tells);
    }
