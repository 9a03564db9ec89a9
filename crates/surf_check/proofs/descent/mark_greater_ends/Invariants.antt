use Rattle.surf_surfaces.proofs.Common.{◌≡◌, ◌<◌, ◌==◌, ℕ, false, length, take, slice_index_or, list_any}
use Rattle.surf_check.proofs.descent.mark_greater_ends.Given as goal

abbrev pub invariant-loop-edge : goal.invariant-loop-edge
invariant-loop-edge l = (v : ℕ) → v < length l.marked →
    slice_index_or l.marked v false ≡ list_any (λ (p : ℕ × ℕ). p.1 == v) (take l.edge-index l.edges)
