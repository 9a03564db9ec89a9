use Rattle.surf_surfaces.proofs.Common.{◌≡◌, ◌<◌, ℕ, true, get_or, slice_index, has, ends}
use Rattle.surf_cover.proofs.rounds.is_lesser_end.Given as goal

-- the edges before are none
abbrev pub invariant-loop-edge : goal.invariant-loop-edge
invariant-loop-edge l = (k : ℕ) → k < l.edge-index → (ends l.mesh (get_or l.edge-items k 0)).0 ≡ l.v →
    has (slice_index l.cotree.signatures (get_or l.edge-items k 0)) l.number ≡ true → ⊥
