use Rattle.surf_treecheck.specs.First.{HoldsBelow}
use Rattle.surf_sheetcheck.specs.Parts.{HasForm}
use Rattle.surf_sheetcheck.proofs.forms.first_formless.Given as goal

-- the sheets before have their forms
abbrev pub invariant-loop-place : goal.invariant-loop-place
invariant-loop-place l = HoldsBelow l.place (HasForm l.case.mesh.now l.case.cert.now)
