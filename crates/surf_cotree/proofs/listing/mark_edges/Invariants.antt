use Rattle.surf_cotree.proofs.Common.{◌≡◌, ℕ, ◌<◌, ◌&&◌, false, not, eqb, slice_index_or, length, any_below, nobody, at}
use Rattle.surf_cotree.proofs.listing.mark_edges.Given as goal

abbrev pub invariant-loop-f : goal.invariant-loop-f
invariant-loop-f l = (e : ℕ) → e < length l.marks → slice_index_or l.marks e false ≡ any_below l.f (λ v. not (eqb (at l.up v) nobody) && eqb (at l.up v) e)
