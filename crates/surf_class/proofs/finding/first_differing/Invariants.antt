use Rattle.std.proofs.Common.{◌≡◌, ◌<◌, ℕ, Bool, false, get_or}
use Rattle.surf_class.specs.Sides.{AreAllSidesOf, differs}
use Rattle.surf_class.proofs.finding.first_differing.Given as goal

-- no left edge before differs
abbrev pub invariant-loop-k : goal.invariant-loop-k
invariant-loop-k l = (set : ℕ → Bool) → AreAllSidesOf set l.parted.sides.now → (j : ℕ) → j < l.k →
    differs l.parted.mesh.now l.parted.flags.now set (get_or l.left j 0) ≡ false
