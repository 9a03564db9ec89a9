-- The lines of cycles.
use Rattle.std.specs.Prelude.{ℕ, List, Option, Some, None, codes}
use Rattle.surf_basis.specs.declared.cycle.Cycle.{Cycle}
use Rattle.surf_texts.specs.MeasuredTexts.{measured_line}

-- the length of a cycle and its walk
abbrev pub cycle_found_line : Cycle → List ℕ
cycle_found_line c = measured_line "cycle " c.length c.walk

-- that of a cycle that was found, or that there is none
abbrev pub found_text : Option Cycle → List ℕ
found_text None = codes "none\n"
found_text (Some c) = cycle_found_line c
