use Rattle.surf_finder.proofs.Common.{◌≡◌, ◌<◌, map, slice_index, refl, sym, subst, arith, IfOk, get_or_default, IfOk-weaker, SurfaceTables, AreDistances}
use Rattle.surf_finder.proofs.Numbered.{settled_in}
use Rattle.surf_finder.proofs.Told.{links_positive, near_there, distances_are}
use Rattle.surf_finder.proofs.finder.Finder.distances.Goals as goal

pub list_distances-requires : goal.list_distances-requires
list_distances-requires c =
    let inside = c.self.inside in
    let mesh = inside.surface.mesh.now in
    let lengths = inside.links.lengths in
    let z = c.args.base in
    let t = c.grow.new.self.desk in
    let r = c.grow.ensures.reached in
    let surface = c.law_of_surface.ensures.surface in
    let positive = links_positive mesh inside.links.mesh lengths inside.links.rows c.self.invariant.0 c.law_of_links.ensures.links in
    let z_in : z < mesh.vertices = subst (λ (v : SurfaceTables). z < v.mesh.vertices) (sym c.self.view_is) c.requires.base in
    let near = near_there mesh inside.links.mesh lengths inside.links.lengths z r.went r.went t c.self.invariant.0 refl refl r.near in
    record {
      inside = λ k d l.
          (let v_in = subst (λ n. n < mesh.vertices) (get_or_default t.settled k 0 d l)
          (settled_in mesh lengths surface positive z r.went z_in inside.surface.signatures.now t near k l) in
          let n = near.made.distances in
          omega (arith, v_in, n));
    }

pub returns-clause-each : goal.returns-clause-each
returns-clause-each c =
    let inside = c.self.inside in
    let mesh = inside.surface.mesh.now in
    let lengths = inside.links.lengths in
    let z = c.args.base in
    let t = c.grow.new.self.desk in
    let r = c.grow.ensures.reached in
    let near = near_there mesh inside.links.mesh lengths inside.links.lengths z r.went r.went t c.self.invariant.0 refl refl r.near in
    subst (λ (v : SurfaceTables). IfOk c.list_distances.result (λ list. AreDistances v.mesh v.lengths z list.items)) c.self.view_is
    (IfOk-weaker c.list_distances.result (λ list. list.items ≡ map (slice_index t.distances) t.settled)
    (λ list. AreDistances mesh lengths z list.items)
    (λ list is. subst (AreDistances mesh lengths z) (sym is) (distances_are mesh lengths z r.went t near))
    c.list_distances.ensures.distances)
