use Rattle.surf_sew.proofs.Common.{◌≤◌, ◌-◌, Ok, Puts, lines_text, sewn_lines}
use Rattle.surf_sew.proofs.write.write_lines.Given as goal

abbrev pub invariant-loop-from : goal.invariant-loop-from
invariant-loop-from l = record {
  within : l.from ≤ l.vertices;
  puts : Puts {A = Unit {0}} l.fn.page l.page (lines_text (sewn_lines l.text.vertex_lines l.origins l.from)) (Ok tt);
}

abbrev pub decreases-loop-from : goal.decreases-loop-from
decreases-loop-from l = l.vertices - l.from
