use Rattle.surf_sheetfind.specs.Listed.{AreVertexRows}
use Rattle.surf_sheetfind.proofs.sheets.vertex_sheets.Given as goal

-- sheets for the pairs before
abbrev pub invariant-loop-place : goal.invariant-loop-place
invariant-loop-place l = AreVertexRows l.count l.pairs l.place l.sheets.items
