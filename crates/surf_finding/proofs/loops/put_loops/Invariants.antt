use Rattle.surf_answers.proofs.Common.{◌≡◌, take, flat_map, grown}
use Rattle.surf_finding.specs.HeadTexts.{head_line}
use Rattle.surf_finding.proofs.loops.put_loops.Given as goal

abbrev pub invariant-loop-head : goal.invariant-loop-head
invariant-loop-head l = l.page ≡ grown l.initial.page (flat_map (head_line l.mesh l.loops.tree) (take l.head-index l.loops.heads))
