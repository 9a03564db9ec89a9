use Rattle.surf_surfaces.proofs.Common.{◌≡◌, filter, map, range_with_len, ends}
use Rattle.surf_treecheck.specs.Split.{is_flagged}
use Rattle.surf_class.proofs.finding.list_flagged.Given as goal

-- the edges before
abbrev pub invariant-loop-e : goal.invariant-loop-e
invariant-loop-e l = l.pairs.items ≡ map (ends l.flagged.mesh.now) (filter (is_flagged l.flagged.flags.now) (range_with_len 0 l.e))
