use Rattle.surf_near.proofs.Common.{◌≡◌, ◌<◌, ap, ◌∙◌, arith, false, [], slice_index_or, get_or_default, LinkTables}
use Rattle.surf_near.proofs.Barring.{barred_row, row_inside, row_lengths, length_least}
use Rattle.surf_near.proofs.links.Links.around.Goals as goal

pub returns : goal.returns
returns c =
    let inside = c.self.inside in
    let mesh = inside.mesh.now in
    let given = inside.lengths.now in
    let barred = inside.barred.items in
    let rows = inside.rows in
    let kept = c.self.invariant in
    let v = c.args.v in
    let v_in : v < mesh.vertices = omega (arith, c.requires.vertex, ap (λ (t : LinkTables). t.mesh.vertices) c.self.view_is) in
    let flag : c.index-3.result.now ≡ slice_index_or barred v false =
    c.index-3.ensures ∙ rw c.index-2.ensures (get_or_default barred v c.index-3.result.now false (omega (arith, v_in, kept.flags))) in
    rw (c.row.ensures, c.index.ensures, c.deref.ensures.value, flag, ← c.self.view_is) (record {
      row = barred_row mesh given barred rows kept.links v v_in;
      inside = row_inside mesh given barred rows kept.links v v_in;
      flags = kept.flags;
      lengths = row_lengths mesh given barred rows kept.links v v_in;
      given = length_least mesh given barred v (slice_index_or rows v []) (kept.links.at v v_in) kept.links.as_many kept.links.are_lengths;
    })
