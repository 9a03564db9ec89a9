use Rattle.surf_surfaces.proofs.Common.{◌≡◌, map, take, slice_index, numbers, sum_of, steps, edge_number}
use Rattle.surf_sheetfind.proofs.classes.class_of.Given as goal

-- the steps before
abbrev pub invariant-loop-i : goal.invariant-loop-i
invariant-loop-i l = l.sum
    ≡ sum_of numbers (map (λ s. slice_index l.signatures.signatures (edge_number l.mesh s)) (take l.i (steps l.walk)))
