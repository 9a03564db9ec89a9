use Rattle.surf_surfaces.proofs.Common.{length, take, Ok, range_with_len}
use Rattle.surf_text.specs.Pages.{Puts}
use Rattle.surf_off.specs.Written.{copies_text}
use Rattle.surf_off.proofs.write.write_copies.Given as goal

abbrev pub invariant-loop-i : goal.invariant-loop-i
invariant-loop-i l = Puts {A = Unit {0}} l.fn.page l.page (copies_text l.origins (take l.i (range_with_len 0 (length l.origins)))) (Ok tt)
