use Rattle.surf_surfaces.proofs.Common.{◌≡◌, ◌≢◌, ℕ, ◌<◌, ◌≤◌, ◌+◌, map, primal, cells_of}
use Rattle.surf_surfaces.specs.Walk.{edge_length}
use Rattle.surf_mesh.specs.Links.{link_at, edge_link}
use Rattle.surf_base.specs.Tables.{nobody, at}
use Rattle.surf_sheetcheck.specs.Searches.{IsTightIn}
use Rattle.surf_sheetcheck.proofs.labelling.parent_of.Given as goal

abbrev pub invariant-loop-e : goal.invariant-loop-e
invariant-loop-e l = record {
  least : (i : ℕ) → i < l.e-index →
      at l.distance (link_at (map (edge_link l.case.mesh.now l.v) l.e-items) i).0
      + edge_length l.case.lengths.now (link_at (map (edge_link l.case.mesh.now l.v) l.e-items) i).1 ≡ at l.distance l.v →
      l.best ≤ (link_at (map (edge_link l.case.mesh.now l.v) l.e-items) i).0;
  tight : l.best ≢ nobody → (l.best < l.case.mesh.now.vertices)
      × IsTightIn (primal (cells_of l.case.mesh.now)) (edge_length l.case.lengths.now) (at l.distance) l.v l.best l.up;
}
