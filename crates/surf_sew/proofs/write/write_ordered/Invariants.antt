use Rattle.surf_sew.proofs.Common.{◌<◌, ◌≤◌, ℕ, get_or, Ok, Puts, lines_text, sewn_lines}
use Rattle.surf_sew.proofs.write.write_ordered.Given as goal

abbrev pub invariant-loop-c : goal.invariant-loop-c
invariant-loop-c l = record {
  few : l.next ≤ l.vertices;
  before : (k : ℕ) → k < l.c → get_or l.origins k 0 < l.next;
  puts : Puts {A = Unit {0}} l.fn.page l.page (lines_text (sewn_lines l.text.vertex_lines l.origins l.next)) (Ok tt);
}
