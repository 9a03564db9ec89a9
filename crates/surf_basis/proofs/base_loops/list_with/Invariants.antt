use Rattle.surf_basis.proofs.Common.{◌≡◌, filter, take, Signed, has_length}
use Rattle.surf_basis.proofs.base_loops.list_with.Given as goal

abbrev pub invariant-loop-signed : goal.invariant-loop-signed
invariant-loop-signed l = l.loops.items ≡ filter (λ (s : Signed). has_length l.lengths s.candidate.length) (take l.signed-index l.chosen)
