use Rattle.surf_surfaces.proofs.Common.{◌≡◌, ◌<◌, ℕ, false, map, take, length, get_or, xor, odd, edge_number, face_count, borders}
use Rattle.surf_class.proofs.check.turn_pairs.Given as goal

-- the pairs before
abbrev pub invariant-loop-i : goal.invariant-loop-i
invariant-loop-i l = record {
  count : length l.flags ≡ face_count l.mesh;
  turned : (f : ℕ) → f < face_count l.mesh →
      get_or l.flags f false
      ≡ xor (get_or l.fn.flags f false) (odd (map (λ p. borders l.mesh f (edge_number l.mesh p)) (take l.i l.pairs)));
}
