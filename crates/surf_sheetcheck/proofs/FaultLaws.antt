-- A valid certificate has no fault.
use Rattle.surf_surfaces.proofs.Common.{◌≡◌, ◌≢◌, ℕ, ◌<◌, ◌≤◌, ◌+◌, ◌*◌, List, refl, ap, ◌∙◌, arith, has, xor, Mesh, edge_count, ends, IsSurface, ArePositive, IfOk, IfErr, Result, Ok, Err}
use Rattle.surf_surfaces.proofs.meshes.CellLaws.{surfaces_are_cells}
use Rattle.surf_surfaces.specs.Walk.{edge_length}
use Rattle.surf_surfaces.specs.Homology.{total, IsLeastBasis}
use Rattle.surf_surfaces.specs.Places.{IsLeastBasisInOrder}
use Rattle.surf_sheets.specs.Rows.{SheetRow, SheetCert}
use Rattle.surf_sheets.specs.Laws.{ShownWalksAreLeast, ShownWalksAreLeastInOrder}
use Rattle.surf_treecheck.specs.declared.fault.CertPart.{CertPart}
use Rattle.surf_treecheck.specs.declared.fault.CertPart.TheVariants.{Vertices, Faces, Loops, Base}
use Rattle.surf_sheetcheck.specs.Cocycles.{edge_set}
use Rattle.surf_sheetcheck.specs.Parts.{size_at, sheet_at, part_of, limit_of}
use Rattle.surf_sheetcheck.specs.Rule.{FollowsRule}
use Rattle.surf_sheetcheck.specs.Valid.{IsLongAt, IsValidSheets, sheets_total}
use Rattle.surf_sheetcheck.specs.Faults.{IsSheetShapeFault, IsSheetFault}
use Rattle.surf_sheetcheck.specs.declared.fault.SheetFault.{SheetFault}
use Rattle.surf_sheetcheck.specs.declared.fault.SheetFault.TheVariants.{Shape, NotClosed, Falling, Pair, Cocycle}
use Rattle.surf_sheetcheck.specs.declared.fault.SheetFault.TheVariants.{Unpaired, Form, Short, Unserved, Memory}
use Rattle.surf_sheetcheck.proofs.DistanceLaws.{one_distance}
use Rattle.surf_sheetcheck.proofs.OneRule.{one_label}
use Rattle.surf_sheetcheck.proofs.ValidLaws.{least, in_order}

module _ (mesh : Mesh) (lengths : List ℕ) (cert : SheetCert) (surface : IsSurface mesh) (positive : ArePositive mesh lengths) where
  -- an edge is long by any distances and labels of the rule, or by none
  pub long_by_other : (row : SheetRow) (d e p q : ℕ → ℕ) → FollowsRule mesh lengths cert row d p →
      FollowsRule mesh lengths cert row e q → (f : ℕ) → f < edge_count mesh → IsLongAt mesh lengths cert row d p f →
      IsLongAt mesh lengths cert row e q f
  long_by_other row d e p q by_d by_e f l long i from to crossed =
      let inside = (surfaces_are_cells mesh surface).complex.primal_ends f l in
      let u = (ends mesh f).0 in
      let v = (ends mesh f).1 in
      let part = part_of cert row in
      let limit = limit_of mesh lengths cert row in
      let d_u = one_distance mesh lengths part limit surface positive d e by_d.distances by_e.distances u inside.0 in
      let d_v = one_distance mesh lengths part limit surface positive d e by_d.distances by_e.distances v inside.1 in
      let p_u = one_label mesh lengths cert part limit surface positive d e p q by_d.distances by_e.distances by_d.labels by_e.labels u inside.0 in
      let p_v = one_label mesh lengths cert part limit surface positive d e p q by_d.distances by_e.distances by_d.labels by_e.labels v inside.1 in
      let same : xor (xor (has (p u) i) (has (p v) i)) (has (edge_set mesh cert f) i)
      ≡ xor (xor (has (q u) i) (has (q v) i)) (has (edge_set mesh cert f) i) =
      ap (λ x. xor (xor (has x i) (has (p v) i)) (has (edge_set mesh cert f) i)) p_u
      ∙ ap (λ x. xor (xor (has (q u) i) (has x i)) (has (edge_set mesh cert f) i)) p_v in
      let way : size_at mesh lengths cert i + 2 * row.margin ≤ d u + edge_length lengths f + d v = long i from to (same ∙ crossed) in
      let goal : size_at mesh lengths cert i + 2 * row.margin ≤ e u + edge_length lengths f + e v = omega (arith, way, d_u, d_v) in
      goal

  module _ (valid : IsValidSheets mesh lengths cert) where
    no_shape_fault : (part : CertPart) → IsSheetShapeFault mesh cert part → ⊥
    no_shape_fault Vertices is = is valid.shape.vertices
    no_shape_fault Faces is = is.1 valid.shape.faces
    no_shape_fault Loops is = is.2 valid.shape.loops
    no_shape_fault Base is = is

    pub no_fault : (fault : SheetFault) → fault ≢ Memory → IsSheetFault mesh lengths cert fault → ⊥
    no_fault (Shape part) ne is = no_shape_fault part is
    no_fault (NotClosed k) ne is = is.1.fails (valid.closed k is.1.below)
    no_fault (Falling k) ne is = is.2.fails (valid.by_length k is.2.below)
    no_fault (Pair u v) ne is = let (j, same, first) = is.1 in first.fails (valid.pairs j first.below)
    no_fault (Cocycle f) ne is = is.2.fails (valid.cocycles f is.2.below)
    no_fault (Unpaired k) ne is = is.3.fails (valid.paired k is.3.below)
    no_fault (Form s) ne is = is.4.fails (valid.forms s is.4.below)
    no_fault (Short s u v) ne is =
        let short = is.1 in
        let (d, p, holds) = valid.sheets s short.below in
        short.short.edge.fails (long_by_other (sheet_at cert s) d short.distance p short.label holds.rule short.short.rule
        short.edge short.short.edge.below (holds.long short.edge short.short.edge.below))
    no_fault (Unserved u v) ne is = let (e, same, first) = is.2 in first.fails (valid.served e first.below)
    no_fault Memory ne is = ne refl

  -- ---- of an answer

  pub least_where_ok : ShownWalksAreLeast → (r : Result ℕ SheetFault) →
      IfOk r (λ t. IsValidSheets mesh lengths cert × (t ≡ sheets_total mesh lengths cert)) →
      IfOk r (λ t. IsLeastBasis mesh lengths cert.cycles × (t ≡ total mesh lengths cert.cycles))
  least_where_ok law (Ok t) is = (least mesh lengths cert surface positive is.0 law, is.1)
  least_where_ok law (Err e) is = tt

  pub ordered_where_ok : ShownWalksAreLeastInOrder → (r : Result ℕ SheetFault) →
      IfOk r (λ t. IsValidSheets mesh lengths cert × (t ≡ sheets_total mesh lengths cert)) →
      IfOk r (λ t. IsLeastBasisInOrder mesh lengths cert.cycles)
  ordered_where_ok law (Ok t) is = in_order mesh lengths cert surface positive is.0 law
  ordered_where_ok law (Err e) is = tt

  pub none_where_err : (r : Result ℕ SheetFault) → IfErr r (IsSheetFault mesh lengths cert) →
      IfErr r (λ e. e ≢ Memory → IsValidSheets mesh lengths cert → ⊥)
  none_where_err (Ok t) is = tt
  none_where_err (Err e) is = λ ne valid. no_fault valid e ne is
