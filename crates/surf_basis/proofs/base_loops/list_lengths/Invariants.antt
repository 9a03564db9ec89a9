use Rattle.surf_basis.proofs.Common.{◌≡◌, take, lengths_at}
use Rattle.surf_basis.proofs.base_loops.list_lengths.Given as goal

abbrev pub invariant-loop-signed : goal.invariant-loop-signed
invariant-loop-signed l = l.lengths.items ≡ lengths_at (take l.signed-index l.found) l.base
