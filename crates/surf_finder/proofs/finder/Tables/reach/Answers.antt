use Rattle.surf_finder.proofs.Common.{◌<◌, IsTrue, refl, sym, subst, IsNear, get_or_default, radius_of, is_near}
use Rattle.surf_finder.proofs.Numbered.{settled_in, settled_near}
use Rattle.surf_finder.proofs.Told.{links_positive, near_there}
use Rattle.surf_finder.proofs.finder.Tables.reach.Goals as goal

pub returns-clause-near : goal.returns-clause-near
returns-clause-near c =
    let net = c.args.links.now in
    near_there c.args.surface.now.mesh.now net.mesh net.lengths net.lengths c.args.base (radius_of c.args.limit.now) c.radius-far.result
    c.grow.new.self c.requires.links refl c.radius-far.ensures.radius c.grow.ensures.near

pub returns-clause-settled : goal.returns-clause-settled
returns-clause-settled c = λ k d l.
    let net = c.args.links.now in
    let mesh = c.args.surface.now.mesh.now in
    let t = c.grow.new.self in
    let positive = links_positive mesh net.mesh net.lengths net.rows c.requires.links c.law_of_links.ensures.links in
    let near = near_there mesh net.mesh net.lengths net.lengths c.args.base (radius_of c.args.limit.now) c.radius-far.result
    t c.requires.links refl c.radius-far.ensures.radius c.grow.ensures.near in
    let surface = c.law_of_surface.ensures.surface in
    let far = radius_of c.args.limit.now in
    let s = c.args.surface.now.signatures.now in
    subst (λ n. (n < mesh.vertices) × IsTrue (is_near t n)) (get_or_default t.settled k 0 d l) (
      settled_in mesh net.lengths surface positive c.args.base far c.requires.base s t near k l,
      settled_near mesh net.lengths surface positive c.args.base far c.requires.base s t near k l,
    )

pub returns-clause-known : goal.returns-clause-known
returns-clause-known c =
    let net = c.args.links.now in
    let near = c.grow.ensures.near in
    subst (λ b. IsNear net.mesh net.lengths b c.radius-far.result c.grow.new.self) (sym near.base_is) near
