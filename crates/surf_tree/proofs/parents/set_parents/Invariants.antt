use Rattle.surf_surfaces.proofs.Common.{ℕ, ◌<◌, primal, cells_of, edge_length}
use Rattle.surf_base.specs.Tables.{at}
use Rattle.surf_tree.specs.Searches.{IsLeastTight}
use Rattle.surf_tree.proofs.parents.set_parents.Given as goal

abbrev pub invariant-loop-v : goal.invariant-loop-v
invariant-loop-v l = (v : ℕ) → v < l.v →
    IsLeastTight (primal (cells_of l.network.mesh.now)) (edge_length l.network.lengths.now) (at l.distance) v (at l.parent v) (at l.up v)
