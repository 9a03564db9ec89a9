use Rattle.surf_treecheck.proofs.Common.{rules, IsNonDecreasingBy-from_sort_by_key, distance_at}
use Rattle.surf_certcheck.proofs.sums.sort_vertices.Goals as goal

pub returns-clause-sorted : goal.returns-clause-sorted
returns-clause-sorted c =
    IsNonDecreasingBy-from_sort_by_key (distance_at c.args.rows.now) _ c.sort_unstable_by_key.ensures.sorted (λ a r q k. search rules)
