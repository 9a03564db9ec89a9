use Rattle.surf_surfaces.proofs.Common.{ℕ, ◌≡◌, ◌<◌, false, IsEdgeOf}
use Rattle.surf_orientation.specs.Chains.{misfit}
use Rattle.surf_check.specs.Growth.{flag_of}
use Rattle.surf_check.proofs.orienting.first_misfit.Given as goal

abbrev pub invariant-loop-s : goal.invariant-loop-s
invariant-loop-s l = (s e : ℕ) → s < l.s → IsEdgeOf l.mesh s e → misfit l.mesh (flag_of l.flags) e ≡ false
