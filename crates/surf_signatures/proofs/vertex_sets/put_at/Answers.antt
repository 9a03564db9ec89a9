use Rattle.surf_surfaces.proofs.Common.{◌≡◌, ◌+◌, ◌*◌, ◌-◌, ◌∙◌, bit_xor, refl, ap, length, arith, number, ℕ, xor_zero_l, number_zero}
use Rattle.surf_signatures.proofs.Rewritten.{row_put}
use Rattle.surf_signatures.proofs.vertex_sets.put_at.Goals as goal

pub returns-clause-put : goal.returns-clause-put
returns-clause-put c v =
    let words = c.args.words in
    let start = c.args.vertex * words in
    let n : start + words - start ≡ words = omega arith in
    let size : length c.add_to.new.words ≡ words = omega (arith, c.add_to.auto.words, c.fill.auto.self, c.requires.room) in
    let cleared = c.fill.new.self in
    let none : number cleared ≡ 0 = number_zero cleared (λ k l. c.fill.ensures.clones k 0 (omega (arith, l, c.fill.auto.self)) refl) in
    let sum : number c.add_to.new.words ≡ c.args.numbers.now =
    c.add_to.ensures.sum ∙ ap (λ (k : ℕ). bit_xor k c.args.numbers.now) none ∙ xor_zero_l c.args.numbers.now in
    row_put words c.args.vertex c.args.table.now c.add_to.new.words size c.requires.room (start + words - start) v n ∙ rw sum refl
