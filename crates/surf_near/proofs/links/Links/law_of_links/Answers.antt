use Rattle.surf_near.proofs.Barring.{barred_rows}
use Rattle.surf_near.proofs.links.Links.law_of_links.Goals as goal

pub returns : goal.returns
returns c =
    let inside = c.self.inside in
    record { links = rw (← c.self.view_is) (barred_rows inside.mesh.now inside.lengths.now inside.barred.items inside.rows c.self.invariant.links) }
