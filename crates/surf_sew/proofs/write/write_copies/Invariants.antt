use Rattle.surf_sew.proofs.Common.{take, Ok, Puts, lines_text, lines_at}
use Rattle.surf_sew.proofs.write.write_copies.Given as goal

abbrev pub invariant-loop-c : goal.invariant-loop-c
invariant-loop-c l = Puts {A = Unit {0}} l.fn.page l.page (lines_text (lines_at l.text.vertex_lines (take l.c-index l.copies))) (Ok tt)
