use Rattle.surf_treecheck.proofs.Common.{◌≡◌, filter, range_with_len, is_flagged}
use Rattle.surf_certcheck.proofs.signing.list_flagged.Given as goal

-- the flagged edges before
abbrev pub invariant-loop-e : goal.invariant-loop-e
invariant-loop-e l = l.listed.items ≡ filter (is_flagged l.flags) (range_with_len 0 l.e)
