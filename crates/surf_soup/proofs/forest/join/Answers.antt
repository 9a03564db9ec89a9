use Rattle.std.proofs.Common.{arith}
use Rattle.surf_soup.proofs.ForestSteps.{merged_roots}
use Rattle.surf_soup.proofs.forest.join.Goals as goal

pub returns-then-a-b-clause-joined : goal.returns-then-a-b-clause-joined
returns-then-a-b-clause-joined c = λ root r.
    let first = c.root_of-a.ensures.same root r in
    let second = c.root_of-b.ensures.same root first.0 in
    (merged_roots c.root_of-b.new.parents root second.0 c.args.first c.args.second c.root_of-a.result c.root_of-b.result
    (omega (arith, c.requires.first)) (omega (arith, c.requires.second)) first.1 second.1).0 c.if-a-b.true

pub returns-else-a-b-clause-joined : goal.returns-else-a-b-clause-joined
returns-else-a-b-clause-joined c = λ root r.
    let first = c.root_of-a.ensures.same root r in
    let second = c.root_of-b.ensures.same root first.0 in
    (merged_roots c.root_of-b.new.parents root second.0 c.args.first c.args.second c.root_of-a.result c.root_of-b.result
    (omega (arith, c.requires.first)) (omega (arith, c.requires.second)) first.1 second.1).1 c.if-a-b.false
