use Rattle.surf_z2.proofs.Common.{◌<◌, ◌≤◌, ◌^◌, IsTrue, ◌++◌, ◌∷◌, [], length, sym, ap, subst, ◌∙◌, arith, Spanned, numbers, has}
use Rattle.surf_bits.proofs.Rows.{take_most}
use Rattle.std.specs.Int.Bits.{xor_zero_l, bit_xor}
use Rattle.surf_bits.proofs.Rows.{rows_few, none_left, left_tells, left_by_rows, room_to_admit, AreAdmitted, admitted_rows, admitted_list, row_room}
use Rattle.surf_bits.proofs.sieve.Sieve.admit.Goals as goal

pub left_of-left-requires-clause-few : goal.left_of-left-requires-clause-few
left_of-left-requires-clause-few c =
    let t = c.self.inside in
    let few : length t.pivots.items ≤ t.width = rows_few t.width t.stride t.pivots.items t.reduced.items t.originals.items c.self.invariant.0 in
    omega (arith, few, c.deref.ensures.value, c.self.invariant.0.width_most)

pub add_number-requires : goal.add_number-requires
add_number-requires c =
    let room = room_to_admit c.in-Some.pivot c.self.invariant.0 c.self.view_is c.requires (c.left_of-left.ensures.left c.self.inside.originals.items) c.deref.ensures.value c.deref-2.ensures.value c.words.ensures.set c.in-Some.ensures.1 in
    omega (arith, room, c.self.invariant.1)

pub add_row-requires : goal.add_row-requires
add_row-requires c =
    let t = c.self.inside in
    let room = room_to_admit c.in-Some.pivot c.self.invariant.0 c.self.view_is c.requires (c.left_of-left.ensures.left t.originals.items) c.deref.ensures.value c.deref-2.ensures.value c.words.ensures.set c.in-Some.ensures.1 in
    let fits = row_room t.width t.stride (length t.pivots.items) (length t.reduced.items) room c.self.invariant.0.reduced_length in
    omega (arith, fits, take_most t.stride c.words-in-Some.result.now, c.self.invariant.2)

pub add_row-requires-in-Some : goal.add_row-requires-in-Some
add_row-requires-in-Some c =
    let t = c.self.inside in
    let room = room_to_admit c.in-Some.pivot c.self.invariant.0 c.self.view_is c.requires (c.left_of-left.ensures.left t.originals.items) c.deref.ensures.value c.deref-2.ensures.value c.words.ensures.set c.in-Some.ensures.1 in
    let fits = row_room t.width t.stride (length t.pivots.items) (length t.originals.items) room c.self.invariant.0.originals_length in
    omega (arith, fits, take_most t.stride c.words-in-Some-2.result.now, c.self.invariant.3)

facts : (c : goal.After-add_row-in-Some) →
    AreAdmitted c.self.inside.width c.self.inside.stride c.self.inside.pivots.items c.self.inside.reduced.items c.self.inside.originals.items
    c.words-in-Some.result.now c.words-in-Some-2.result.now c.args.s c.left_of-left.result c.in-Some.pivot
facts c =
    let t = c.self.inside in
    let left = c.left_of-left.result in
    record {
      rows = c.self.invariant.0;
      small = subst (λ s. c.args.s < 2 ^ s.width) (sym c.self.view_is) c.requires;
      left_length = c.words-in-Some.ensures.many;
      left_words = c.words-in-Some.ensures.set;
      set_length = c.words-in-Some-2.ensures.many;
      set_words = c.words-in-Some-2.ensures.set ∙ c.add.ensures ∙ ap (λ n. bit_xor n c.args.s) c.zero-original.ensures ∙ xor_zero_l c.args.s;
      left_is = left_by_rows t.stride t.originals.items c.args.s (c.left_of-left.ensures.left t.originals.items) c.deref.ensures.value c.deref-2.ensures.value;
      left_small = c.left_of-left.ensures.small;
      pivot_in = omega (arith, c.in-Some.ensures.0, c.words.ensures.many);
      member = subst (λ n. IsTrue (has n c.in-Some.pivot)) c.words.ensures.set c.in-Some.ensures.1;
    }

pub invariant_of-self : goal.invariant_of-self
invariant_of-self c =
    let t = c.self.inside in (
      rw (c.add_number.ensures.items, c.add_row.ensures.items, c.add_row-in-Some.ensures.items)
          (admitted_rows t.width t.stride t.pivots.items t.reduced.items t.originals.items c.words-in-Some.result.now c.words-in-Some-2.result.now c.args.s c.left_of-left.result c.in-Some.pivot (facts c)),
      omega (arith, c.self.invariant.1, c.add_number.ensures.capacity),
      omega (arith, c.self.invariant.2, c.add_row.ensures.capacity),
      omega (arith, c.self.invariant.3, c.add_row-in-Some.ensures.capacity),
    )

pub returns-in-None-clause-answer : goal.returns-in-None-clause-answer
returns-in-None-clause-answer c =
    let t = c.self.inside in
    let os = t.originals.items in
    subst (λ s. Spanned numbers s.admitted c.args.s) c.self.view_is
    (none_left t.width t.stride t.pivots.items t.reduced.items os c.args.s c.left_of-left.result c.self.invariant.0
    (left_by_rows t.stride os c.args.s (c.left_of-left.ensures.left os) c.deref.ensures.value c.deref-2.ensures.value) (sym c.words.ensures.set ∙ c.in-None.ensures))

pub returns-in-Some-clause-answer : goal.returns-in-Some-clause-answer
returns-in-Some-clause-answer c sum =
    let t = c.self.inside in
    let a = facts c in
    left_tells t.width t.stride t.pivots.items t.reduced.items t.originals.items c.args.s c.left_of-left.result c.in-Some.pivot a.rows a.left_is a.member
    (subst (λ s. Spanned numbers s.admitted c.args.s) (sym c.self.view_is) sum)

pub returns-in-Some-clause-list : goal.returns-in-Some-clause-list
returns-in-Some-clause-list c =
    let t = c.self.inside in
    rw (c.add_number.ensures.items, c.add_row.ensures.items, c.add_row-in-Some.ensures.items)
    (admitted_list t.width t.stride t.pivots.items t.reduced.items t.originals.items c.words-in-Some.result.now c.words-in-Some-2.result.now c.args.s c.left_of-left.result c.in-Some.pivot (facts c)
    ∙ ap (λ s. s.admitted ++ c.args.s ∷ []) c.self.view_is)
