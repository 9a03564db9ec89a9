use Rattle.surf_surfaces.proofs.Common.{◌≡◌, ℕ, length, eqb, count_below, primal, cells_of}
use Rattle.surf_surfaces.specs.Walk.{edge_length}
use Rattle.surf_base.specs.Tables.{at}
use Rattle.surf_sheetcheck.specs.Searches.{far}
use Rattle.surf_sheetcheck.proofs.SearchWords.{IsSearch, IsOrder}
use Rattle.surf_sheetcheck.proofs.search.settle.Given as goal

abbrev pub invariant-loop-node : goal.invariant-loop-node
invariant-loop-node l = record {
  places : length l.heap ≡ l.field.mesh.now.vertices;
  last : ℕ;
  search : IsSearch (primal (cells_of l.field.mesh.now)) (edge_length l.field.lengths.now) l.field.part.now l.field.limit (at l.distance) l.heap last (count_below l.field.mesh.now.vertices (λ u. eqb (at l.distance u) far));
  order : IsOrder l.field.mesh.now.vertices l.distance l.order.items last;
}

abbrev pub decreases-loop-node : goal.decreases-loop-node
decreases-loop-node l = count_below l.field.mesh.now.vertices (λ u. eqb (at l.distance u) far)
