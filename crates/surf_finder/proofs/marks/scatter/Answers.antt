use Rattle.surf_finder.proofs.Common.{rules, IsNonDecreasingBy-from_sort_by_key, bits_backwards}
use Rattle.surf_finder.proofs.marks.scatter.Goals as goal

pub returns-clause-sorted : goal.returns-clause-sorted
returns-clause-sorted c = IsNonDecreasingBy-from_sort_by_key bits_backwards _ c.sort_unstable_by_key.ensures.sorted (λ a r q k. search rules)
