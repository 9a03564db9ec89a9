use Rattle.surf_surfaces.proofs.Common.{◌≡◌, ◌+◌, ◌*◌, ◌-◌, bit_xor, ap, sym, ◌∙◌, length, drop, take, true, arith, has, number}
use Rattle.surf_signatures.specs.Tables.{row_of}
use Rattle.surf_signatures.proofs.Rewritten.{put_added}
use Rattle.surf_signatures.proofs.signs.add_at.Goals as goal

pub returns-then-bit-clause-added : goal.returns-then-bit-clause-added
returns-then-bit-clause-added c = λ e.
    let words = c.args.words in
    let start = c.args.edge * words in
    let table = c.args.table.now in
    let n : start + words - start ≡ words = omega arith in
    let size : length c.add_to.new.words ≡ words = omega (arith, c.add_to.auto.words, c.requires.room) in
    let old : c.over.result ≡ row_of words table c.args.edge =
    c.over.ensures ∙ ap (λ k. number (take k (drop start table))) n in
    let on : has (row_of words table c.args.edge) c.args.k ≡ true =
    ap (λ s. has s c.args.k) (sym old) ∙ sym c.bit.ensures ∙ c.if-bit.true in
    let new : number c.add_to.new.words ≡ bit_xor (row_of words table c.args.edge) c.args.other.now =
    c.add_to.ensures.sum ∙ ap (λ k. bit_xor (number (take k (drop start table))) c.args.other.now) n in
    put_added words c.args.edge table c.add_to.new.words size c.requires.room c.args.k c.args.other.now on new
    (start + words - start) e n
