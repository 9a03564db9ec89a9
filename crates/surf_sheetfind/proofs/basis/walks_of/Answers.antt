use Rattle.surf_basis.proofs.Common.{as_loop, ◌∙◌, sym, rules, map-map, items_from_collect, YieldsList-from_map, YieldsList-from_vec}
use Rattle.surf_basis.specs.declared.cycle.Cycle.{Cycle}
use Rattle.surf_surfaces.specs.Choice.{Loop}
use Rattle.surf_sheetfind.proofs.basis.walks_of.Goals as goal

pub returns : goal.returns
returns c =
    let all = items_from_collect c.collect.result c.collect.ensures.ran
    (YieldsList-from_map _ (λ (x : Cycle). x.walk) (YieldsList-from_vec c.args.cycles.items (cc) (cc)) c.map.ensures.closure (λ x r q k. search rules)) in
    let here = rw c.in_ok-collect.was at all in
    record { walks = here ∙ sym (map-map (λ (x : Loop). x.walk) as_loop c.args.cycles.items) }
