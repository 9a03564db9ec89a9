use Rattle.surf_cotree.proofs.Common.{◌≡◌, ◌<◌, ◌≤◌, ◌*◌, ℕ, slice_index, IsSplit, Tree, cells_of, edge_count, split_with}
use Rattle.surf_cover.proofs.Common.{AreCoverTables}
use Rattle.surf_cover.proofs.Best.{IsBestBelow}
use Rattle.surf_cover.proofs.rounds.least_start.Given as goal

-- the desk has the signatures, and of the rounds by way of the lesser ends before none is before the best
abbrev pub invariant-loop-v : goal.invariant-loop-v
invariant-loop-v l = record {
  made : AreCoverTables l.mesh l.desk;
  few : l.mesh.vertices * l.desk.sets ≤ 16777216;
  signs : (e : ℕ) → e < edge_count l.mesh → slice_index l.desk.signs e ≡ slice_index l.cotree.signatures e;
  best : (tree : Tree) → IsSplit (cells_of l.mesh) (split_with tree l.cotree) →
      IsBestBelow l.mesh l.lengths (split_with tree l.cotree) l.cotree.signatures l.set l.number l.v l.best;
}
