use Rattle.surf_basis.proofs.Common.{◌≡◌, map, take}
use Rattle.surf_basis.specs.Based.{based_at}
use Rattle.surf_basis.proofs.base_loops.list_based.Given as goal

abbrev pub invariant-loop-signed : goal.invariant-loop-signed
invariant-loop-signed l = l.based.items ≡ map (based_at l.base) (take l.signed-index l.found)
