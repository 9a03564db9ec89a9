use Rattle.std.proofs.Common.{◌≡◌, ℕ, ◌<◌, ◌≤◌, ◌⊎◌, true}
use Rattle.surf_graphs.specs.Graphs.{joins}
use Rattle.surf_graphs.specs.Cells.{primal}
use Rattle.surf_surfaces.specs.Cells.{cells_of}
use Rattle.surf_surfaces.specs.Surface.{edge_count}
use Rattle.surf_base.specs.Tables.{at}
use Rattle.surf_sheetcheck.specs.Tables.{IsLongIn, IsShortSoFar}
use Rattle.surf_sheetcheck.proofs.looks.least_short.Given as goal

-- the edges at the vertices before hold, or are no less
abbrev pub invariant-loop-i : goal.invariant-loop-i
invariant-loop-i l = record {
  short : IsShortSoFar (edge_count l.case.mesh.now) (IsLongIn l.case l.task l.distance l.labels) l.least;
  seen : (k w e : ℕ) → k < l.i → e < edge_count l.case.mesh.now →
      joins (primal (cells_of l.case.mesh.now)) (at l.order k) w e ≡ true →
      IsLongIn l.case l.task l.distance l.labels e ⊎ (l.least ≤ e);
}
