use Rattle.surf_surfaces.proofs.Common.{◌≡◌, ◌<◌, ◌*◌, ◌^◌, false, map, has, sym, ap, ◌∙◌, subst, arith, pow_below}
use Rattle.surf_signatures.specs.Tables.{words_for}
use Rattle.surf_sheetcheck.proofs.SetLaws.{fits_words}
use Rattle.surf_paired.specs.Paired.{image, moved}
use Rattle.surf_sheetfind.proofs.PairLaws.{own_given, none_left}
use Rattle.surf_sheetfind.proofs.pairing.give_own.Goals as goal

pub add_where-requires-clause-fits : goal.add_where-requires-clause-fits
add_where-requires-clause-fits c =
    let n = c.args.n in
    let count = c.args.count in
    subst (λ x. x < 2 ^ (64 * words_for c.args.rows.now.width)) (sym c.unit.ensures)
    (subst (λ m. 2 ^ n < 2 ^ (64 * words_for m)) (sym c.requires.rows.width)
    (fits_words count (2 ^ n) (pow_below n count c.requires.number)))

pub returns-in-Some-clause-own : goal.returns-in-Some-clause-own
returns-in-Some-clause-own c classes can =
    let rows = c.args.rows.now.sets in
    let n = c.args.n in
    let im = c.image_of-image.result in
    let first = c.in-Some.ensures.first in
    let is : im ≡ image rows c.args.class.now = c.image_of-image.ensures.image ∙ ap (image rows) c.bits.ensures in
    let read : c.bits-2.result ≡ im = c.bits-2.ensures in
    let off : has im n ≡ false =
    ap (λ x. has x n) (sym read) ∙ sym c.bit.ensures ∙ c.if-bit.false in
    own_given classes rows n c.args.class.now can im c.in-Some.k c.add_where.new.rows.sets is off first.0
    (ap (λ x. has x c.in-Some.k) (sym c.bits-3.ensures) ∙ first.2)
    (c.add_where.ensures.moved ∙ ap (λ x. map (moved c.in-Some.k x) rows) c.unit.ensures)

pub returns-in_default-clause-own : goal.returns-in_default-clause-own
returns-in_default-clause-own c classes can =
    let rows = c.args.rows.now.sets in
    let im = c.image_of-image.result in
    let is : im ≡ image rows c.args.class.now = c.image_of-image.ensures.image ∙ ap (image rows) c.bits.ensures in
    let many = c.requires.rows.count_is in
    absurd (none_left classes rows c.args.n c.args.class.now can im is (λ k past below.
    ap (λ x. has x k) (sym c.bits-3.ensures) ∙ c.in_default.ensures.first k past (omega (arith, below, many))))
