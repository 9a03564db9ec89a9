use Rattle.surf_surfaces.proofs.Common.{◌≡◌, ◌≤◌, ◌<◌, ◌*◌, ◌^◌, [], length, map, ap, sym, subst, ◌∙◌, arith, recursion_from_All, ext_get_or, get_or-map, length-map, slice_index_or}
use Rattle.surf_signatures.specs.Tables.{words_for}
use Rattle.surf_sheetcheck.specs.Cocycles.{set_of, row_at}
use Rattle.surf_sheetcheck.proofs.SetLaws.{set_small, fits_words}
use Rattle.surf_sheetcheck.proofs.sets.row_sets.Goals as goal

pub put-requires-clause-fits : goal.put-requires-clause-fits
put-requires-clause-fits c =
    let cert = c.args.cert.now in
    let n = c.loop-place.place in
    let w = length cert.cycles in
    let edges = ap length c.edges.ensures.edges in
    let in_rows : n < length cert.numbers = omega (arith, c.loop-place-test.true, edges, c.requires.fits.as_many) in
    let row_is : c.row.result.now ≡ row_at cert n = c.row.ensures ∙ ap (λ rows. slice_index_or rows n []) c.numbers.ensures.numbers in
    let fit = c.requires.fits.numbers n [] in_rows in
    let small : set_of (row_at cert n) < 2 ^ w =
    set_small w (row_at cert n) (recursion_from_All (λ i. (1 ≤ i) × (i ≤ w)) (row_at cert n) fit.each) in
    let is : c.bits.result ≡ set_of (row_at cert n) = c.bits.ensures ∙ c.set_from-set.ensures.set ∙ ap set_of row_is in
    subst (λ x. x < 2 ^ (64 * words_for c.loop-place.sets.width)) (sym is)
    (subst (λ m. set_of (row_at cert n) < 2 ^ (64 * words_for m)) (sym c.loop-place.invariant.width)
    (fits_words w (set_of (row_at cert n)) small))

pub returns : goal.returns
returns c =
    let cert = c.args.cert.now in
    let sets = c.loop-place.sets.sets in
    let inv = c.loop-place.invariant in
    let edges = ap length c.edges.ensures.edges in
    let size : length sets ≡ length cert.numbers = omega (arith, inv.room, edges, c.requires.fits.as_many) in
    let long = length-map cert.numbers set_of in
    record {
      sets = record {
        width = inv.width;
        sets = ext_get_or 0 sets (map set_of cert.numbers) (omega (arith, size, long)) (λ i l.
            let li : i < length cert.numbers = omega (arith, l, size) in
            inv.each i (omega (arith, li, edges, c.requires.fits.as_many, c.loop-place-test.false))
            ∙ sym (get_or-map set_of cert.numbers i [] 0 li));
      };
    }
