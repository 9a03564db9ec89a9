use Rattle.std.proofs.Common.{ℕ, ◌<◌, ◌≤◌, ◌⊎◌}
use Rattle.surf_surfaces.specs.Surface.{edge_count}
use Rattle.surf_base.specs.Tables.{at}
use Rattle.surf_sheetcheck.specs.Tables.{IsLongIn, IsShortSoFar}
use Rattle.surf_sheetcheck.proofs.looks.lesser_short.Given as goal

-- the edges before hold, or are no less
abbrev pub invariant-loop-e : goal.invariant-loop-e
invariant-loop-e l = record {
  short : IsShortSoFar (edge_count l.case.mesh.now) (IsLongIn l.case l.task l.distance l.labels) l.least;
  lower : l.least ≤ l.best;
  seen : (i : ℕ) → i < l.e-index → IsLongIn l.case l.task l.distance l.labels (at l.e-items i) ⊎ (l.least ≤ at l.e-items i);
}
