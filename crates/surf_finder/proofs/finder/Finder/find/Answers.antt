use Rattle.surf_finder.proofs.Common.{◌<◌, ◌++◌, sym, subst, on_ok_weaker, SurfaceTables, search_of, AreFirstFound, AreFirstTold}
use Rattle.surf_finder.proofs.Told.{first_told, links_positive, told_are_found}
use Rattle.surf_finder.proofs.finder.Finder.find.Goals as goal

pub returns-clause-found : goal.returns-clause-found
returns-clause-found c =
    let inside = c.self.inside in
    let mesh = inside.surface.mesh.now in
    let lengths = inside.links.lengths in
    let s = inside.surface.signatures.now in
    let limit = c.args.limit.now in
    let z = c.args.base in
    let t = c.reach.new.self.desk in
    let w = c.reach.new.self.ways in
    let surface = c.law_of_surface.ensures.surface in
    let lens = c.law_of_links.ensures.links.are_lengths in
    let positive = links_positive mesh inside.links.mesh lengths inside.links.rows c.self.invariant.0 c.law_of_links.ensures.links in
    let z_in : z < mesh.vertices = subst (λ (v : SurfaceTables). z < v.mesh.vertices) (sym c.self.view_is) c.requires.base in
    let near = c.reach.ensures.near in
    on_ok_weaker c.list_loops.result
    (λ told. subst (λ (v : SurfaceTables). AreFirstFound c.args.ties v.mesh v.lengths v.signs limit z c.list_loops.new.found.items) c.self.view_is
    (let found = c.list_loops.new.found.items in
    let (left, are, no_later) = first_told c.args.ties (search_of mesh lengths s t w z) limit found
    (subst (λ n. AreFirstTold c.args.ties (search_of mesh lengths s t w n) limit found) near.base_is told) in
    record {
      left = left;
      are = λ trees chosen d signs.
          told_are_found mesh lengths surface positive lens z z_in s t w limit near c.in_ok-reach.ensures.ways trees chosen d signs (left ++ found) are;
      no_later = no_later;
    }))
    c.list_loops.ensures.told
