use Rattle.surf_surfaces.proofs.Common.{◌≡◌, ◌<◌, ℕ, false, map, take, length, get_or, xor, odd, steps, pair_eq, pair_of, edge_count, ends}
use Rattle.surf_class.proofs.parity.turn_steps.Given as goal

-- the steps before
abbrev pub invariant-loop-i : goal.invariant-loop-i
invariant-loop-i l = record {
  count : length l.flags ≡ edge_count l.mesh;
  turned : (e : ℕ) → e < edge_count l.mesh →
      get_or l.flags e false ≡ xor (get_or l.fn.flags e false) (odd (map (λ s. pair_eq (ends l.mesh e) (pair_of s)) (take l.i (steps l.walk))));
}
