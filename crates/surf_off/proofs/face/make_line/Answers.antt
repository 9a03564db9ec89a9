use Rattle.std.proofs.Common.{◌≡◌, ◌<◌, ◌+◌, ◌-◌, ℕ, List, ◌∷◌, ◌++◌, length, map, get_or, drop, sym, ◌∙◌, ap, length-append, codes, arith}
use Rattle.surf_surfaces.proofs.Common.{decimal, length-map, get_or-map}
use Rattle.surf_text.specs.Numbers.{numbers_text}
use Rattle.surf_off.proofs.ShortFaces.{number_short, number_before, size_short, spaced_before}
use Rattle.surf_off.proofs.face.make_line.Goals as goal

pub put_whole-requires : goal.put_whole-requires
put_whole-requires g c = record { room = omega (arith, number_short c.number.result (omega (arith, c.number.type_inv)), c.loop-k.invariant.room, c.loop-k-test.true) }

pub put_byte-requires-in-loop-k : goal.put_byte-requires-in-loop-k
put_byte-requires-in-loop-k g c =
    let longer = number_before c.put_whole.new.self c.loop-k.slip c.number.result (omega (arith, c.number.type_inv)) c.put_whole.ensures.before in
    record { room = omega (arith, longer, c.loop-k.invariant.room, c.loop-k-test.true) }

pub loop-k-preserved : goal.loop-k-preserved
loop-k-preserved g c =
    let number = g.N.Numbered.number in
    let corners : List ℕ = map number c.args.corners.now in
    let i : ℕ = c.loop-k.k - 1 in
    let n : ℕ = c.number.result in
    let d = c.index-corners-k.result in
    let slip : List ℕ = c.loop-k.slip in
    let next : i + 1 ≡ c.loop-k.k = omega (arith, c.loop-k-test.true) in
    let inside : i < length c.args.corners.now = omega (arith, c.loop-k-test.true, c.loop-k.auto.k) in
    let lt : i < length corners = omega (arith, inside, length-map c.args.corners.now number) in
    let is : n ≡ get_or corners i (number d) = c.number.ensures ∙ ap number c.index-corners-k.is ∙ sym (get_or-map number c.args.corners.now i d (number d) inside) in
    let made : c.put_byte-in-loop-k.new.self ≡ 32 ∷ (decimal n ++ slip) = c.put_byte-in-loop-k.ensures.before ∙ ap (λ (t : List ℕ). 32 ∷ t) {y = decimal n ++ slip} c.put_whole.ensures.before in
    let so_far : slip ≡ numbers_text (drop (i + 1) corners) ++ codes "\n" = c.loop-k.invariant.text ∙ ap (λ (j : ℕ). numbers_text (drop j corners) ++ codes "\n") (sym next) in
    record {
      text = made ∙ ap (λ (x : ℕ). 32 ∷ (decimal x ++ slip)) is ∙ spaced_before corners i (number d) slip (codes "\n") lt so_far;
      room = omega (arith, ap length made, length-append (decimal n) slip, number_short n (omega (arith, c.number.type_inv)), c.loop-k.invariant.room, next);
    }

pub put_whole-requires-2 : goal.put_whole-requires-2
put_whole-requires-2 g c = record { room = omega (arith, size_short (length c.args.corners.now) c.requires.few, c.loop-k.invariant.room) }
