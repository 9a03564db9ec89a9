-- What a search's tables show of a sheet.
use Rattle.surf_surfaces.proofs.Common.{◌≡◌, ℕ, List, Option, subst, edge_count, IsSurface}
use Rattle.surf_treecheck.specs.First.{HoldsBelow, FailsFirst}
use Rattle.surf_sheets.specs.Rows.{SheetRow}
use Rattle.surf_sheetcheck.specs.Parts.{sheet_at, part_of}
use Rattle.surf_sheetcheck.specs.Rule.{AreDistances, AreLabels, FollowsRule}
use Rattle.surf_sheetcheck.specs.Valid.{IsLongAt, Holds}
use Rattle.surf_sheetcheck.specs.Faults.{IsShort}
use Rattle.surf_sheetcheck.specs.Tables.{IsTask, IsSearched, IsLongIn, distance_in, label_in}
use Rattle.surf_sheetcheck.specs.declared.cases.SheetCase.{SheetCase}
use Rattle.surf_sheetcheck.specs.declared.cases.Task.{Task}
use Rattle.surf_sheetcheck.proofs.DistanceLaws.{distances_are}
use Rattle.surf_sheetcheck.proofs.LabelLaws.{labels_all}

module _ (c : SheetCase) (t : Task) (n : ℕ) (dist : List ℕ) (labels : List (Option ℕ)) (order : List ℕ)
    (surface : IsSurface c.mesh.now) (task : IsTask c t) (row_is : t.row.now ≡ sheet_at c.cert.now n)
    (searched : IsSearched c t dist labels order) where
  by_row : FollowsRule c.mesh.now c.lengths.now c.cert.now t.row.now (distance_in t.limit dist) (label_in labels)
  by_row =
      let mesh = c.mesh.now in
      let lengths = c.lengths.now in
      let cert = c.cert.now in
      let d = distance_in t.limit dist in
      let p = label_in labels in
      let are = distances_are mesh lengths t.part.items t.limit dist order surface searched.settled in
      let told = labels_all mesh lengths cert t.part.items t.limit dist order searched.settled labels searched.labelled in
      record {
        distances = subst (λ l. AreDistances mesh lengths (part_of cert t.row.now) l d) task.limit
            (subst (λ xs. AreDistances mesh lengths xs t.limit d) task.part are);
        labels = subst (λ l. AreLabels mesh lengths cert (part_of cert t.row.now) l d p) task.limit
            (subst (λ xs. AreLabels mesh lengths cert xs t.limit d p) task.part told);
      }

  pub follows : FollowsRule c.mesh.now c.lengths.now c.cert.now (sheet_at c.cert.now n) (distance_in t.limit dist) (label_in labels)
  follows = subst (λ (r : SheetRow). FollowsRule c.mesh.now c.lengths.now c.cert.now r (distance_in t.limit dist) (label_in labels)) row_is by_row

  -- where no edge is short the sheet holds
  pub holds : HoldsBelow (edge_count c.mesh.now) (IsLongIn c t dist labels) → Holds c.mesh.now c.lengths.now c.cert.now n
  holds long = (
    distance_in t.limit dist,
    label_in labels,
    record {
      rule = follows;
      long = subst (λ (r : SheetRow). HoldsBelow (edge_count c.mesh.now)
          (IsLongAt c.mesh.now c.lengths.now c.cert.now r (distance_in t.limit dist) (label_in labels))) row_is long;
    },
  )

  -- and the least short edge is that of the rule
  pub short : (e : ℕ) → FailsFirst (edge_count c.mesh.now) (IsLongIn c t dist labels) e →
      IsShort c.mesh.now c.lengths.now c.cert.now (sheet_at c.cert.now n) (distance_in t.limit dist) (label_in labels) e
  short e first = record {
    rule = follows;
    edge = subst (λ (r : SheetRow). FailsFirst (edge_count c.mesh.now)
        (IsLongAt c.mesh.now c.lengths.now c.cert.now r (distance_in t.limit dist) (label_in labels)) e) row_is first;
  }
