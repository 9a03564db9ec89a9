-- A valid certificate shows its walks, and has no fault.
use Rattle.surf_surfaces.proofs.Common.{◌≡◌, ℕ, zero, suc, ◌<◌, ◌≤◌, ◌+◌, ◌-◌, List, [], ◌∷◌, length, refl, sym, ap, ◌∙◌, subst, arith, inl, inr, All, Contains, AllByRecursion, All-from_recursion, get_or_default, cases_eq, has, Mesh, ends, IsSurface, IsClosed, ArePositive, steps, sides, face_at, edge_number}
use Rattle.surf_surfaces.proofs.meshes.CellLaws.{surfaces_are_cells}
use Rattle.surf_surfaces.specs.Homology.{IsLeastBasis}
use Rattle.surf_surfaces.specs.Places.{IsLeastBasisInOrder}
use Rattle.surf_treecheck.specs.First.{HoldsBelow}
use Rattle.surf_certcheck.proofs.Placing.{has_none}
use Rattle.surf_sheets.specs.Rows.{SheetRow, SheetCert}
use Rattle.surf_sheets.specs.Sheets.{Sheet, IsSheet, IsCocycle, ArePaired, AreByLength, IsServed, AreServed, AreShown}
use Rattle.surf_sheets.specs.Laws.{ShownWalksAreLeast, ShownWalksAreLeastInOrder}
use Rattle.surf_sheetcheck.specs.Cocycles.{cocycle, edge_set}
use Rattle.surf_sheetcheck.specs.Parts.{cycle_at, size_at, sheet_at, part_of, limit_of}
use Rattle.surf_sheetcheck.specs.Rule.{FollowsRule}
use Rattle.surf_sheetcheck.specs.Valid.{HoldsWith, Holds, IsNear, IsValidSheets}
use Rattle.surf_sheetcheck.proofs.SetLaws.{has_sum}
use Rattle.surf_sheetcheck.proofs.Steps.{some_step, walk_inside}
use Rattle.surf_sheetcheck.proofs.DistanceLaws.{one_distance}

-- the sheet, with these distances and labels
abbrev pub sheet_with : SheetRow → (distance label : ℕ → ℕ) → Sheet
sheet_with row distance label = record {
  from = row.from;
  to = row.to;
  margin = row.margin;
  distance = distance;
  label = λ i v. has (label v) i;
}

module _ (mesh : Mesh) (lengths : List ℕ) (cert : SheetCert) (surface : IsSurface mesh) (positive : ArePositive mesh lengths) where
  -- ---- the sheets

  pub last_below : (n : ℕ) → n < suc n
  last_below n = omega arith

  pub front : (n : ℕ) → HoldsBelow (suc n) (Holds mesh lengths cert) → HoldsBelow n (Holds mesh lengths cert)
  front n holds s l = holds s (omega (arith, l))

  -- the first n sheets, with their distances and labels
  abbrev pub first_sheets : (n : ℕ) → HoldsBelow n (Holds mesh lengths cert) → List Sheet
  first_sheets zero holds = []
  first_sheets (suc n) holds =
      sheet_with (sheet_at cert n) (holds n (last_below n)).0 (holds n (last_below n)).1 ∷ first_sheets n (front n holds)

  holding_is_sheet : (row : SheetRow) (d p : ℕ → ℕ) → HoldsWith mesh lengths cert row d p →
      IsSheet mesh lengths cert.cycles (cocycle mesh cert) (sheet_with row d p)
  holding_is_sheet row d p h = record {
    slack = h.rule.distances.slack;
    long = λ i e in_range below l crossed. h.long e l i in_range.0 in_range.1 crossed;
  }

  sheets_hold : (n : ℕ) (holds : HoldsBelow n (Holds mesh lengths cert)) →
      AllByRecursion (IsSheet mesh lengths cert.cycles (cocycle mesh cert)) (first_sheets n holds)
  sheets_hold zero holds = tt
  sheets_hold (suc n) holds = (
    holding_is_sheet (sheet_at cert n) (holds n (last_below n)).0 (holds n (last_below n)).1 (holds n (last_below n)).2,
    sheets_hold n (front n holds),
  )

  -- one of some sheets is that of a place
  record IsThere (sheets : List Sheet) (s : ℕ) : Type 0 where
    distance : ℕ → ℕ
    label : ℕ → ℕ
    rule : FollowsRule mesh lengths cert (sheet_at cert s) distance label
    there : Contains sheets (sheet_with (sheet_at cert s) distance label)

  later : (x y : Sheet) (xs : List Sheet) → Contains xs y → Contains (x ∷ xs) y
  later x y xs (k, l, is) = (suc k, omega (arith, l), is)

  first_there : (x : Sheet) (xs : List Sheet) → Contains (x ∷ xs) x
  first_there x xs = (zero, omega arith, refl)

  sheet_there : (n : ℕ) (holds : HoldsBelow n (Holds mesh lengths cert)) (s : ℕ) → s < n → IsThere (first_sheets n holds) s
  sheet_there zero holds s l = absurd (omega (arith, l))
  sheet_there (suc n) holds s l = elim (cases_eq s n) [
    | inl same ↦ subst (IsThere (first_sheets (suc n) holds)) (sym same) (record {
      distance = (holds n (last_below n)).0;
      label = (holds n (last_below n)).1;
      rule = (holds n (last_below n)).2.rule;
      there = first_there (sheet_with (sheet_at cert n) (holds n (last_below n)).0 (holds n (last_below n)).1)
          (first_sheets n (front n holds));
    })
    | inr ne ↦
        let before = sheet_there n (front n holds) s (omega (arith, l, ne)) in
        record {
          distance = before.distance;
          label = before.label;
          rule = before.rule;
          there = later (sheet_with (sheet_at cert n) (holds n (last_below n)).0 (holds n (last_below n)).1)
              (sheet_with (sheet_at cert s) before.distance before.label) (first_sheets n (front n holds)) before.there;
        }
  ]

  module _ (valid : IsValidSheets mesh lengths cert) where
    abbrev sheets : List Sheet
    sheets = first_sheets (length cert.sheets) valid.sheets

    -- ---- the walks

    closed_at : (k : ℕ) → k < length cert.cycles → IsClosed mesh (cycle_at cert k)
    closed_at k l =
        let is = valid.closed k l in
        let some = some_step mesh cert (cycle_at cert k) k (valid.paired k l).own in
        record {
          is_walk = record {
            begins = is.begins;
            vertices = λ j d m. subst (λ v. v < mesh.vertices) (get_or_default (cycle_at cert k) j 0 d m)
                (walk_inside mesh (cycle_at cert k) surface is.along_edges some j m);
            along_edges = is.along_edges;
          };
          returns = is.returns;
        }

    closed : All (IsClosed mesh) cert.cycles
    closed k d l = subst (IsClosed mesh) (get_or_default cert.cycles k [] d l) (closed_at k l)

    rises : (i n : ℕ) → i + n < length cert.cycles → size_at mesh lengths cert i ≤ size_at mesh lengths cert (i + n)
    rises i zero l = let e : i + 0 ≡ i = omega arith in subst (λ j. size_at mesh lengths cert i ≤ size_at mesh lengths cert j) (sym e) (omega arith)
    rises i (suc n) l =
        let before = rises i n (omega (arith, l)) in
        let next = valid.by_length (i + suc n) l in
        let back : i + suc n - 1 ≡ i + n = omega arith in
        let step : size_at mesh lengths cert (i + n) ≤ size_at mesh lengths cert (i + suc n) =
        subst (λ j. size_at mesh lengths cert j ≤ size_at mesh lengths cert (i + suc n)) back next in
        omega (arith, before, step)

    by_length : AreByLength mesh lengths cert.cycles
    by_length i j less l =
        let gap : i + (j - i) ≡ j = omega (arith, less) in
        subst (λ k. size_at mesh lengths cert i ≤ size_at mesh lengths cert k) gap (rises i (j - i) (omega (arith, gap, l)))

    -- ---- the cocycles

    cocycles : (i : ℕ) → i < length cert.cycles → IsCocycle mesh (cocycle mesh cert i)
    cocycles i l f lf =
        sym (has_sum (λ s. edge_set mesh cert (edge_number mesh s)) (sides (face_at mesh f)) i)
        ∙ ap (λ x. has x i) (valid.cocycles f lf) ∙ has_none i

    paired : ArePaired mesh cert.cycles (cocycle mesh cert)
    paired = record {
      own = λ i l. sym (has_sum (λ s. edge_set mesh cert (edge_number mesh s)) (steps (cycle_at cert i)) i)
          ∙ (valid.paired i l).own;
      later = λ i j less l. sym (has_sum (λ s. edge_set mesh cert (edge_number mesh s)) (steps (cycle_at cert i)) j)
          ∙ (valid.paired i (omega (arith, less, l))).later j less l;
    }

    -- ---- what is served

    served_at : (i s x : ℕ) → s < length cert.sheets → x < mesh.vertices → (sheet_at cert s).from ≤ i →
        i < (sheet_at cert s).to → IsNear mesh lengths cert (sheet_at cert s) x → IsServed sheets i x
    served_at i s x l in_mesh from to (e, are, near) =
        let is = sheet_there (length cert.sheets) valid.sheets s l in
        let same = one_distance mesh lengths (part_of cert (sheet_at cert s)) (limit_of mesh lengths cert (sheet_at cert s)) surface positive
        is.distance e is.rule.distances are x in_mesh in (
          sheet_with (sheet_at cert s) is.distance is.label,
          is.there,
          record { in_range = (from, to); near = omega (arith, same, near) },
        )

    served : AreServed mesh cert.cycles (cocycle mesh cert) sheets
    served i e l le on =
        let inside = (surfaces_are_cells mesh surface).complex.primal_ends e le in
        let (s, ls, serves) = valid.served e le i on in
        elim serves.near [
          | inl near ↦ inl (served_at i s (ends mesh e).0 ls inside.0 serves.from serves.to near)
          | inr near ↦ inr (served_at i s (ends mesh e).1 ls inside.1 serves.from serves.to near)
        ]

    -- ---- all of it

    pub shown : AreShown mesh lengths cert.cycles (cocycle mesh cert) sheets
    shown = record {
      closed = closed;
      count = valid.shape.loops;
      by_length = by_length;
      are_cocycles = cocycles;
      paired = paired;
      are_sheets = All-from_recursion (IsSheet mesh lengths cert.cycles (cocycle mesh cert)) sheets
          (sheets_hold (length cert.sheets) valid.sheets);
      served = served;
    }

    pub least : ShownWalksAreLeast → IsLeastBasis mesh lengths cert.cycles
    least law = law mesh lengths cert.cycles (cocycle mesh cert) sheets surface positive shown

    pub in_order : ShownWalksAreLeastInOrder → IsLeastBasisInOrder mesh lengths cert.cycles
    in_order law = law mesh lengths cert.cycles (cocycle mesh cert) sheets surface positive shown
