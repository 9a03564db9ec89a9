use Rattle.surf_surfaces.proofs.Common.{◌≡◌, ℕ, map, take, numbers, sum_of, Split, steps, edge_signature, edge_number}
use Rattle.surf_certcheck.specs.Frames.{AreTaken}
use Rattle.surf_certcheck.proofs.frame.cycle_set.Given as goal

-- the steps before
abbrev pub invariant-loop-i : goal.invariant-loop-i
invariant-loop-i l = (d : Split) (to : ℕ → ℕ) → AreTaken l.mesh d to l.signs.sets →
    l.sum ≡ to (sum_of numbers (map (λ s. edge_signature l.mesh d (edge_number l.mesh s)) (take l.i (steps l.list))))
