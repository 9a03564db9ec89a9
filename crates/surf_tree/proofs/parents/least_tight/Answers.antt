use Rattle.surf_surfaces.proofs.Common.{◌≡◌, ◌≢◌, ◌<◌, ◌≤◌, ◌+◌, length, arith, map, length-map}
use Rattle.surf_base.specs.Tables.{at}
use Rattle.surf_tree.proofs.Offering.{link_of}
use Rattle.surf_tree.proofs.Choosing.{chosen_in, chosen_tight, chosen_least}
use Rattle.surf_tree.proofs.parents.least_tight.Goals as goal
use Rattle.surf_tree.proofs.parents.least_tight.Goals.{then-there-here+then-u-best, else-there-here, else-there-here-via-then-there-here+else-u-best, else-there-here-via-else-there-here}

pub bounds-distance-u : goal.bounds-distance-u
bounds-distance-u g c =
    let net = c.args.network.now in
    let graph = g.N.Network.graph net in
    let link = g.N.Network.link net c.args.node in
    let items = c.edges_at-e-items.result.now in
    let e = c.e-item.result in
    let u = c.across-u.result.0 in
    let n = c.loop-e.e-index in
    let long = length-map items link in
    let is = link_of link items n e u c.loop-e-test.true c.e-item.is c.across-u.ensures.end in
    let u_in : u < graph.nodes = (chosen_in graph (g.N.Network.weight net) (at c.args.distance.now) c.args.node (map link items) c.edges_at-e-items.ensures.row n u (link e).1 (omega arith) is).0 in
    omega (arith, c.requires.distances)

pub loop-e-preserved : goal.loop-e-preserved
loop-e-preserved g c =
    let net = c.args.network.now in
    let graph = g.N.Network.graph net in
    let len = g.N.Network.weight net in
    let link = g.N.Network.link net c.args.node in
    let dist = at c.args.distance.now in
    let v = c.args.node in
    let u = c.across-u.result.0 in
    let n = c.loop-e.e-index in
    let items = c.edges_at-e-items.result.now in
    let links = map link items in
    let number = (link c.e-item.result).1 in
    let row = c.edges_at-e-items.ensures.row in
    let long = length-map items link in
    let ln : n < length links = omega arith in
    let is = link_of link items n c.e-item.result u c.loop-e-test.true c.e-item.is c.across-u.ensures.end in
    let old = c.loop-e.invariant in
    elim c.if-there-here.branch [
      | then-there-here+then-u-best b ↦
          let tight : dist u + len number ≡ dist v = rw (c.from.ensures, c.across-u.ensures.length) at b.if-there-here.true in
          let less : u < c.loop-e.best = b.if-u-best.true in
          rw (b.best-is, b.up-is, b.number-up.ensures) (record {
            least = chosen_least graph len dist v links row n u number ln is c.loop-e.best u old.least (omega (arith, less)) (λ h. omega arith);
            tight = λ ne. chosen_tight graph len dist v links row n u number ln is tight;
          })
      | else-there-here b ↦ elim b.else-there-here.branch [
        | else-there-here-via-then-there-here+else-u-best d ↦
            let more : c.loop-e.best ≤ u = d.if-u-best.false in
            rw (b.best-is, b.up-is) (record {
              least = chosen_least graph len dist v links row n u number ln is c.loop-e.best c.loop-e.best old.least (omega arith) (λ h. more);
              tight = old.tight;
            })
        | else-there-here-via-else-there-here d ↦
            let loose : dist u + len number ≢ dist v = rw (c.from.ensures, c.across-u.ensures.length) at d.if-there-here.false in
            rw (b.best-is, b.up-is) (record {
              least = chosen_least graph len dist v links row n u number ln is c.loop-e.best c.loop-e.best old.least (omega arith) (λ h. absurd (loose h));
              tight = old.tight;
            })
      ]
    ]
