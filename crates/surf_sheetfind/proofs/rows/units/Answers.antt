use Rattle.surf_surfaces.proofs.Common.{◌≡◌, ◌<◌, ◌*◌, ◌^◌, sym, subst, ◌∙◌, pow_below}
use Rattle.surf_signatures.specs.Tables.{words_for}
use Rattle.surf_sheetcheck.proofs.SetLaws.{fits_words}
use Rattle.surf_sheetfind.proofs.rows.units.Goals as goal

pub put-requires-clause-fits : goal.put-requires-clause-fits
put-requires-clause-fits c =
    let k = c.loop-k.k in
    let n = c.args.count in
    let is : c.bits.result ≡ 2 ^ k = c.bits.ensures ∙ c.unit.ensures in
    subst (λ x. x < 2 ^ (64 * words_for c.loop-k.rows.width)) (sym is)
    (subst (λ m. 2 ^ k < 2 ^ (64 * words_for m)) (sym c.loop-k.invariant.width)
    (fits_words n (2 ^ k) (pow_below k n c.loop-k-test.true)))
