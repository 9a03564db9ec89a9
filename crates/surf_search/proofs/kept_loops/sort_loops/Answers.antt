use Rattle.surf_search.proofs.Common.{rules, IsNonDecreasingBy-from_sort_by_key, order_of}
use Rattle.surf_search.proofs.kept_loops.sort_loops.Goals as goal

pub returns-clause-sorted : goal.returns-clause-sorted
returns-clause-sorted c = IsNonDecreasingBy-from_sort_by_key order_of _ c.sort_unstable_by_key.ensures.sorted (λ a r q k. search rules)
