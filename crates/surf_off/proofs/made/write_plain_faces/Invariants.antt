use Rattle.surf_surfaces.proofs.Common.{take, Ok, zip}
use Rattle.surf_text.specs.Pages.{Puts}
use Rattle.surf_off.specs.Written.{faces_text, no_colours}
use Rattle.surf_off.proofs.made.write_plain_faces.Given as goal

abbrev pub invariant-loop-f : goal.invariant-loop-f
invariant-loop-f l = Puts {A = Unit {0}} l.fn.page l.page (faces_text (take l.f (zip l.soup.faces (no_colours l.soup.faces)))) (Ok tt)
