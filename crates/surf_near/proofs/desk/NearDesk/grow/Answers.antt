use Rattle.surf_near.proofs.Common.{◌∙◌, arith, get_or-take, length-take-le}
use Rattle.surf_near.proofs.Linking.{links_few, links_small, links_positive}
use Rattle.surf_near.proofs.NearTrees.{near_found}
use Rattle.surf_near.proofs.desk.NearDesk.grow.Goals as goal

pub forget-requires-clause-listed : goal.forget-requires-clause-listed
forget-requires-clause-listed c =
    let t = c.self.inside.tables in
    let kept = c.self.invariant in
    rw (c.deref.ensures.value, c.deref_mut.ensures.value) (λ v l settled.
    let (i, li, is) = kept.listed v l settled in
    let n = length-take-le t.count t.order.items kept.count_in in
    (i, omega arith, get_or-take t.count t.order.items i 0 li ∙ is))

pub returns : goal.returns
returns c =
    let net = c.args.links.now in
    let are = c.settle.ensures.links in
    record {
      near = near_found net.mesh net.lengths c.args.base c.args.radius c.settle.new.tables are.surface (links_positive net are)
          (links_small net are) c.settle.ensures.found (links_few net are);
    }
