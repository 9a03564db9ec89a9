use Rattle.surf_finder.proofs.Common.{◌<◌, sym, subst, SurfaceTables, search_of, IsFirstAt}
use Rattle.surf_finder.proofs.Told.{AreTold, links_positive, told_are_found}
use Rattle.surf_finder.proofs.finder.Finder.first_loop.Goals as goal

pub returns-clause-first : goal.returns-clause-first
returns-clause-first c =
    let inside = c.self.inside in
    let mesh = inside.surface.mesh.now in
    let lengths = inside.links.lengths in
    let s = inside.surface.signatures.now in
    let limit = c.args.limit.now in
    let z = c.args.base in
    let t = c.reach.new.self.desk in
    let w = c.reach.new.self.ways in
    let surface = c.law_of_surface.ensures.surface in
    let lens = c.law_of_links.ensures.links.are_lengths in
    let positive = links_positive mesh inside.links.mesh lengths inside.links.rows c.self.invariant.0 c.law_of_links.ensures.links in
    let z_in : z < mesh.vertices = subst (λ (v : SurfaceTables). z < v.mesh.vertices) (sym c.self.view_is) c.requires.base in
    let near = c.reach.ensures.near in
    let told = c.first_told.ensures.first in
    subst (λ (v : SurfaceTables). IsFirstAt v limit z c.first_told.result) c.self.view_is (record {
      found = told.found;
      are = λ trees chosen d are.
          told_are_found mesh lengths surface positive lens z z_in s t w limit near c.in_ok-reach.ensures.ways trees chosen d are told.found
          (subst (λ n. AreTold (search_of mesh lengths s t w n) limit told.found) near.base_is (record { each = told.each; all = told.all }));
      is_first = told.is_first;
    })
