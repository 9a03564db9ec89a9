use Rattle.surf_surfaces.proofs.Common.{take, Ok, zip, edges}
use Rattle.surf_text.specs.Pages.{Puts}
use Rattle.surf_geom.proofs.Entries.{entries_text}
use Rattle.surf_geom.proofs.write.write_lengths.Given as goal

abbrev pub invariant-loop-e : goal.invariant-loop-e
invariant-loop-e l = record { puts : Puts {A = Unit {0}} l.fn.page l.page (entries_text (take l.e (zip (edges l.mesh) l.lengths))) (Ok tt) }
