use Rattle.surf_basis.proofs.Common.{cycle_with, rules, items_from_collect, YieldsList-from_map, YieldsList-from_slice, YieldsList-from_zip, YieldsList-from_vec}
use Rattle.std.proofs.lemmas.Iterator.Consumers.{YieldsList-at}
use Rattle.surf_basis.proofs.cycles.cycles_with.Goals as goal

pub returns : goal.returns
returns c =
    let road = YieldsList-from_zip (YieldsList-at c.zip-pairs.ensures.first (YieldsList-from_slice c.args.kept.now c.iter.ensures.rest))
    (YieldsList-at c.zip-pairs.ensures.second (YieldsList-from_vec c.args.walks.items (cc) (cc))) in
    let all = items_from_collect c.collect.result c.collect.ensures.ran
    (YieldsList-from_map _ cycle_with (YieldsList-at c.map-cycles.ensures.source road) c.map-cycles.ensures.closure (λ x r q k. search rules)) in
    record { cycles = rw c.in_ok-collect.was at all }
