use Rattle.std.proofs.Common.{map}
use Rattle.surf_graphs.specs.Cells.{primal}
use Rattle.surf_surfaces.specs.Cells.{cells_of}
use Rattle.surf_surfaces.specs.Walk.{edge_length}
use Rattle.surf_mesh.specs.Links.{link_at, edge_link}
use Rattle.surf_base.specs.Tables.{at}
use Rattle.surf_sheetcheck.proofs.SearchWords.{IsOfferedSome}
use Rattle.surf_sheetcheck.proofs.search.offer_neighbours.Given as goal

abbrev pub invariant-loop-e : goal.invariant-loop-e
invariant-loop-e l = IsOfferedSome (primal (cells_of l.field.mesh.now)) (edge_length l.field.lengths.now) l.field.limit (at l.distance) l.node l.d l.initial.heap l.heap
    (λ k. (link_at (map (edge_link l.field.mesh.now l.node) l.e-items) k).0) (λ k. (link_at (map (edge_link l.field.mesh.now l.node) l.e-items) k).1) l.e-index
