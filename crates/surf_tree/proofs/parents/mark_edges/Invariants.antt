use Rattle.surf_surfaces.proofs.Common.{◌≡◌, ℕ, ◌<◌, ◌&&◌, false, not, eqb, slice_index_or, length, any_below}
use Rattle.surf_base.specs.Tables.{nobody, at}
use Rattle.surf_tree.proofs.parents.mark_edges.Given as goal

abbrev pub invariant-loop-v : goal.invariant-loop-v
invariant-loop-v l = (e : ℕ) → e < length l.flags → slice_index_or l.flags e false ≡ any_below l.v (λ v. not (eqb (at l.parent v) nobody) && eqb (at l.up v) e)
