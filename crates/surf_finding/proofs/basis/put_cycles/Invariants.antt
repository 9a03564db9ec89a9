use Rattle.surf_answers.proofs.Common.{◌≡◌, take, flat_map, grown}
use Rattle.surf_finding.specs.CycleTexts.{cycle_found_line}
use Rattle.surf_finding.proofs.basis.put_cycles.Given as goal

abbrev pub invariant-loop-cycle : goal.invariant-loop-cycle
invariant-loop-cycle l = l.page ≡ grown l.initial.page (flat_map cycle_found_line (take l.cycle-index l.cycles))
