use Rattle.surf_surfaces.proofs.Common.{◌≡◌, ◌≢◌, ◌<◌, ℕ, true, None, has}
use Rattle.surf_certcheck.specs.Frames.{weight_at}
use Rattle.surf_certcheck.proofs.frame.free_place.Given as goal

-- the places of the set before are those of cycles
abbrev pub invariant-loop-k : goal.invariant-loop-k
invariant-loop-k l = (k : ℕ) → k < l.k → has l.set k ≡ true → weight_at l.weights k ≢ None
