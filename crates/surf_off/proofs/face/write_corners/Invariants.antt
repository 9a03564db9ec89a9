use Rattle.std.proofs.Common.{take, map, Ok}
use Rattle.surf_text.specs.Pages.{Puts}
use Rattle.surf_text.specs.Numbers.{numbers_text}
use Rattle.surf_off.proofs.face.write_corners.Given as goal

abbrev pub invariant-loop-c : goal.invariant-loop-c
invariant-loop-c g l = Puts {A = Unit {0}} l.fn.page l.page (numbers_text (map g.N.Numbered.number (take l.c-index l.corners))) (Ok tt)
