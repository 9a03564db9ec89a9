use Rattle.surf_near.proofs.Common.{◌<◌, refl, length, ap, arith, LinkTables}
use Rattle.surf_near.proofs.Barring.{bar_keeps, bar_shuts}
use Rattle.surf_near.proofs.links.Links.bar.Goals as goal

pub returns : goal.returns
returns c =
    let inside = c.self.inside in
    let kept = c.self.invariant in
    let mesh = inside.mesh.now in
    let given = inside.lengths.now in
    let barred = inside.barred.items in
    let here : c.args.v < length barred = omega (arith, c.requires.vertex, ap (λ (t : LinkTables). t.mesh.vertices) c.self.view_is, kept.flags) in
    rw (c.index.ensures, ← c.self.view_is) (record {
      mesh = refl;
      rows = refl;
      given = refl;
      off = bar_keeps mesh given barred c.args.v here kept.links.as_many;
      shut = bar_shuts mesh given barred c.args.v here kept.links.as_many;
    })
