use Rattle.surf_near.proofs.Barring.{even_past}
use Rattle.surf_near.proofs.links.Links.even.Goals as goal

pub returns-then-is_past_bars : goal.returns-then-is_past_bars
returns-then-is_past_bars c =
    let inside = c.self.inside in
    let kept = c.self.invariant in
    let known = c.is_past_bars.ensures.past c.if-is_past_bars.true in
    record { even = rw (← c.self.view_is) (even_past inside.mesh.now inside.lengths.now inside.barred.items c.args.radius inside.barring kept.none known inside.even kept.even_is) }
