use Rattle.surf_cert.proofs.Common.{take, Ok, flat_map, Puts}
use Rattle.surf_sheetcert.specs.Written.{sheet_line}
use Rattle.surf_sheetcert.proofs.write.write_rows.Given as goal

abbrev pub invariant-loop-sheet : goal.invariant-loop-sheet
invariant-loop-sheet l = Puts {A = Unit {0}} l.fn.page l.page (flat_map sheet_line (take l.sheet-index l.sheets)) (Ok tt)
