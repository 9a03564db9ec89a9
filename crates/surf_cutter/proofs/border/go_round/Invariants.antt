use Rattle.surf_surfaces.proofs.Common.{◌-◌, ◌<◌, length, side_count}
use Rattle.surf_cutter.proofs.BorderRounds.{IsGone}
use Rattle.surf_cutter.proofs.border.go_round.Given as goal

abbrev pub invariant-loop-first : goal.invariant-loop-first
invariant-loop-first l = record {
  gone : IsGone l.border l.first l.side l.copy l.round.items;
  some : 0 < length l.round.items;
}

abbrev pub decreases-loop-first : goal.decreases-loop-first
decreases-loop-first l = side_count l.border - length l.round.items
