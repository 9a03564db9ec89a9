use Rattle.surf_surfaces.proofs.Common.{take, Ok, range_with_len}
use Rattle.surf_text.specs.Pages.{Puts}
use Rattle.surf_off.specs.Written.{lines_text, points}
use Rattle.surf_off.proofs.made.write_points.Given as goal

abbrev pub invariant-loop-v : goal.invariant-loop-v
invariant-loop-v l = Puts {A = Unit {0}} l.fn.page l.page (lines_text (points (take l.v (range_with_len 0 l.vertices)))) (Ok tt)
