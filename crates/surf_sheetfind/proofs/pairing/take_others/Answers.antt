use Rattle.surf_surfaces.proofs.Common.{◌<◌, ◌*◌, ◌^◌, ℕ, bit_xor, sym, ap, ◌∙◌, subst, pow_below, xor_lt}
use Rattle.surf_signatures.specs.Tables.{words_for}
use Rattle.surf_sheetcheck.proofs.SetLaws.{fits_words}
use Rattle.surf_paired.specs.Paired.{image}
use Rattle.surf_sheetfind.proofs.PairLaws.{others_taken}
use Rattle.surf_sheetfind.proofs.pairing.take_others.Goals as goal

pub add_where-requires-clause-fits : goal.add_where-requires-clause-fits
add_where-requires-clause-fits c =
    let n = c.args.n in
    let count = c.args.count in
    let m : ℕ = 64 * words_for c.args.rows.now.width in
    let unit : 2 ^ n < 2 ^ m =
    subst (λ w. 2 ^ n < 2 ^ (64 * words_for w)) (sym c.requires.rows.width)
    (fits_words count (2 ^ n) (pow_below n count c.requires.number)) in
    subst (λ x. x < 2 ^ m) (sym (c.add.ensures ∙ ap (bit_xor c.image_of-others.result) (c.bits-2.ensures ∙ c.unit.ensures)))
    (xor_lt m c.image_of-others.result (2 ^ n) c.image_of-others.ensures.small unit)

pub returns-clause-paired : goal.returns-clause-paired
returns-clause-paired c classes can own =
    let rows = c.args.rows.now.sets in
    let im = c.image_of-others.result in
    others_taken classes rows c.args.n c.args.class.now can im c.add.new.self c.add_where.new.rows.sets
    (c.image_of-others.ensures.image ∙ ap (image rows) c.bits.ensures)
    (c.add.ensures ∙ ap (bit_xor im) (c.bits-2.ensures ∙ c.unit.ensures)) own c.add_where.ensures.moved
