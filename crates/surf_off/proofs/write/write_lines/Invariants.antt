use Rattle.std.proofs.Common.{take, Ok}
use Rattle.surf_text.specs.Pages.{Puts}
use Rattle.surf_off.specs.Written.{lines_text, lines_at}
use Rattle.surf_off.proofs.write.write_lines.Given as goal

abbrev pub invariant-loop-v : goal.invariant-loop-v
invariant-loop-v l = Puts {A = Unit {0}} l.fn.page l.page (lines_text (lines_at l.text.vertex_lines (take l.v-index l.origins))) (Ok tt)
