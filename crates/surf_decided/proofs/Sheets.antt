-- A certificate by sheets is valid, or it has a first fault.
use Rattle.surf_surfaces.proofs.Common.{◌≡◌, ◌≢◌, ◌<◌, ◌≤◌, ◌+◌, ◌*◌, ◌^◌, ◌-◌, ◌∙◌, ◌⊎◌, ◌==◌, ℕ, zero, suc, Bool, true, false, List, length, refl, sym, subst, arith, inl, inr, cases_lt, true≢false, has, MatchBool, Mesh, face_count, edge_count, ends, IsSurface, ArePositive}
use Rattle.std.proofs.lemmas.Nat.Bits.{bit_at_above}
use Rattle.surf_surfaces.proofs.meshes.CellLaws.{surfaces_are_cells}
use Rattle.surf_treecheck.specs.First.{FailsFirst}
use Rattle.surf_treecheck.specs.declared.fault.CertPart.TheVariants.{Vertices, Faces, Loops}
use Rattle.surf_sheets.specs.Rows.{SheetRow, SheetCert}
use Rattle.surf_sheets.specs.Sheets.{way_over, is_crossed}
use Rattle.surf_sheetcheck.specs.Cocycles.{IsPairEdge, pair_at, edge_set, cocycle, walk_set, face_set}
use Rattle.surf_sheetcheck.specs.Parts.{cycle_at, size_at, sheet_at, IsVertexPart, IsWalkPart, HasRowForm, HasForm, part_of, limit_of}
use Rattle.surf_sheetcheck.specs.Rule.{FollowsRule}
use Rattle.surf_sheetcheck.specs.Valid.{HasSheetShape, IsCycleClosed, IsNoShorter, IsEvenFace, IsPaired, IsLongAt, Holds, IsNear, ServesEdge, IsServedBy, IsEdgeServed, IsValidSheets}
use Rattle.surf_sheetcheck.specs.Faults.{IsSheetFault, AreWalksRight, AreRowsRight}
use Rattle.surf_sheetcheck.specs.declared.fault.SheetFault.{SheetFault}
use Rattle.surf_sheetcheck.specs.declared.fault.SheetFault.TheVariants.{Shape, NotClosed, Falling, Pair, Cocycle}
use Rattle.surf_sheetcheck.specs.declared.fault.SheetFault.TheVariants.{Unpaired, Form, Short, Unserved, Memory}
use Rattle.surf_sheetcheck.proofs.DistanceLaws.{one_distance}
use Rattle.surf_sheetcheck.proofs.FaultLaws.{long_by_other}
use Rattle.surf_sheetcheck.proofs.Tasks.{part_is}
use Rattle.surf_decided.proofs.Deciding.{Decided, when_same, when_less, when_most, when_true, both, implied, one_of, as_well, all_or_first, all_below, some_below}
use Rattle.surf_decided.proofs.Rows.{is_edge, closed_decided, count_decided, when_false}
use Rattle.surf_decided.proofs.SheetRule.{rule_exists}
use Rattle.surf_decided.specs.Told.{HasSheetFault}

abbrev IsTold : SheetFault → Type 0
IsTold Memory = ⊥
IsTold fault = Unit {0}

told : (fault : SheetFault) → IsTold fault → fault ≢ Memory
told fault is = λ same. subst IsTold same is

below_power : (i : ℕ) → i < 2 ^ i
below_power zero = omega arith
below_power (suc i) = let before = below_power i in omega (arith, before)

has_below : (x i : ℕ) → has x i ≡ true → i < x
has_below x i on = elim (cases_lt i x) [
  | inl less ↦ less
  | inr most ↦
      let small = below_power i in
      let none : has x i ≡ false = rw (bit_at_above x i i (omega (arith, most, small)) (omega arith)) refl in
      absurd (true≢false (sym on ∙ none))
]

module _ (mesh : Mesh) (lengths : List ℕ) (cert : SheetCert) (surface : IsSurface mesh) (positive : ArePositive mesh lengths) where
  abbrev SheetFaults : Type 0
  SheetFaults = HasSheetFault (IsSheetFault mesh lengths cert)

  shape_or_fault : HasSheetShape mesh cert ⊎ SheetFaults
  shape_or_fault = elim (when_same cert.vertices mesh.vertices) [
    | inr out ↦ inr (Shape Vertices, told (Shape Vertices) tt, out)
    | inl vertices ↦ elim (when_same cert.faces (face_count mesh)) [
      | inr out ↦ inr (Shape Faces, told (Shape Faces) tt, (vertices, out))
      | inl faces ↦ elim (count_decided mesh lengths (length cert.cycles)) [
        | inr out ↦ inr (Shape Loops, told (Shape Loops) tt, (vertices, faces, out))
        | inl loops ↦ inl (record { vertices = vertices; faces = faces; loops = loops })
      ]
    ]
  ]

  walks_or_fault : AreWalksRight mesh lengths cert ⊎ SheetFaults
  walks_or_fault = elim shape_or_fault [
    | inr fault ↦ inr fault
    | inl shape ↦ elim (all_or_first (length cert.cycles) (IsCycleClosed mesh cert) (λ k l. closed_decided mesh lengths (cycle_at cert k))) [
      | inr first ↦ inr (NotClosed first.0, told (NotClosed first.0) tt, (shape, first.1))
      | inl closed ↦ elim (all_or_first (length cert.cycles) (IsNoShorter mesh lengths cert) (λ k l. when_most _ _)) [
        | inr first ↦ inr (Falling first.0, told (Falling first.0) tt, (shape, closed, first.1))
        | inl rises ↦ inl (record { shape = shape; closed = closed; by_length = rises })
      ]
    ]
  ]

  paired_decided : (k : ℕ) → Decided (IsPaired mesh cert k)
  paired_decided k =
      as_well (λ is. record { own = is.0; later = λ j more l. is.1 j l more }) (λ is. (is.own, λ j l more. is.later j more l))
      (both (when_true (has (walk_set mesh cert (cycle_at cert k)) k))
      (all_below (length cert.cycles) (λ j. k < j → has (walk_set mesh cert (cycle_at cert k)) j ≡ false)
      (λ j l. implied (when_less k j) (when_false (has (walk_set mesh cert (cycle_at cert k)) j)))))

  part_decided : (row : SheetRow) (b : Bool) → Decided (MatchBool b (IsVertexPart mesh row) (IsWalkPart cert row))
  part_decided row true =
      as_well (λ is. record { twice = is.0; inside = is.1 }) (λ is. (is.twice, is.inside))
      (both (when_same row.first row.last) (when_less row.first mesh.vertices))
  part_decided row false =
      as_well (λ is. record { walk = is.0; ordered = is.1.0; places = is.1.1 }) (λ is. (is.walk, (is.ordered, is.places)))
      (both (when_most row.walk (length cert.cycles)) (both (when_most row.first row.last)
      (when_less row.last (length (cycle_at cert (row.walk - 1))))))

  form_decided : (row : SheetRow) → Decided (HasRowForm mesh cert row)
  form_decided row =
      as_well (λ is. record { some = is.0; numbered = is.1.0; part = is.1.1 }) (λ is. (is.some, (is.numbered, is.part)))
      (both (when_less row.from row.to) (both (when_most row.to (length cert.cycles)) (part_decided row (row.walk == 0))))

  rows_or_fault : AreRowsRight mesh lengths cert ⊎ SheetFaults
  rows_or_fault = elim walks_or_fault [
    | inr fault ↦ inr fault
    | inl walks ↦ elim (all_or_first (length cert.edges) (IsPairEdge mesh cert) (λ j l. is_edge mesh _)) [
      | inr first ↦ inr (Pair (pair_at cert first.0).0 (pair_at cert first.0).1, told (Pair _ _) tt, (walks, (first.0, refl, first.1)))
      | inl pairs ↦ elim (all_or_first (face_count mesh) (IsEvenFace mesh cert) (λ f l. when_same (face_set mesh cert f) 0)) [
        | inr first ↦ inr (Cocycle first.0, told (Cocycle first.0) tt, (walks, pairs, first.1))
        | inl even ↦ elim (all_or_first (length cert.cycles) (IsPaired mesh cert) (λ k l. paired_decided k)) [
          | inr first ↦ inr (Unpaired first.0, told (Unpaired first.0) tt, (walks, pairs, even, first.1))
          | inl paired ↦ elim (all_or_first (length cert.sheets) (HasForm mesh cert) (λ s l. form_decided (sheet_at cert s))) [
            | inr first ↦ inr (Form first.0, told (Form first.0) tt, (walks, pairs, even, paired, first.1))
            | inl forms ↦ inl (record { walks = walks; pairs = pairs; cocycles = even; paired = paired; forms = forms })
          ]
        ]
      ]
    ]
  ]

  module _ (right : AreRowsRight mesh lengths cert) where
    rule_at : (s : ℕ) → s < length cert.sheets →
        (distance : ℕ → ℕ) × (label : ℕ → ℕ) × FollowsRule mesh lengths cert (sheet_at cert s) distance label
    rule_at s l = rule_exists mesh lengths surface positive cert (sheet_at cert s)
        (part_is mesh lengths cert surface right.walks.closed right.paired (sheet_at cert s) (right.forms s l)).inside

    long_decided : (row : SheetRow) (d p : ℕ → ℕ) (e : ℕ) → Decided (IsLongAt mesh lengths cert row d p e)
    long_decided row d p e =
        as_well (λ is i from to crossed. is i to from crossed) (λ is i to from crossed. is i from to crossed)
        (all_below row.to (λ i. row.from ≤ i → is_crossed mesh (cocycle mesh cert i) (λ v. has (p v) i) e ≡ true →
        size_at mesh lengths cert i + 2 * row.margin ≤ way_over mesh lengths d e)
        (λ i l. implied (when_most row.from i) (implied (when_true (is_crossed mesh (cocycle mesh cert i) (λ v. has (p v) i) e))
        (when_most (size_at mesh lengths cert i + 2 * row.margin) (way_over mesh lengths d e)))))

    -- a sheet holds, or it is short at a first edge
    holds_or_short : (s : ℕ) (l : s < length cert.sheets) → Holds mesh lengths cert s
        ⊎ ((e : ℕ) × FailsFirst (edge_count mesh) (IsLongAt mesh lengths cert (sheet_at cert s) (rule_at s l).0 (rule_at s l).1) e)
    holds_or_short s l =
        let row = sheet_at cert s in
        let d = (rule_at s l).0 in
        let p = (rule_at s l).1 in
        elim (all_or_first (edge_count mesh) (IsLongAt mesh lengths cert row d p) (λ e m. long_decided row d p e)) [
          | inl all ↦ inl (d, p, record { rule = (rule_at s l).2; long = all })
          | inr first ↦ inr first
        ]

    holds_decided : (s : ℕ) → s < length cert.sheets → Decided (Holds mesh lengths cert s)
    holds_decided s l = elim (holds_or_short s l) [
      | inl holds ↦ inl holds
      | inr first ↦ inr (λ holds. first.1.fails (long_by_other mesh lengths cert surface positive (sheet_at cert s) holds.0 (rule_at s l).0
          holds.1 (rule_at s l).1 holds.2.rule (rule_at s l).2 first.0 first.1.below (holds.2.long first.0 first.1.below)))
    ]

    short_fault : (s : ℕ) → FailsFirst (length cert.sheets) (Holds mesh lengths cert) s → SheetFaults
    short_fault s first = elim (holds_or_short s first.below) [
      | inl holds ↦ absurd (first.fails holds)
      | inr edge ↦ (
        Short s (ends mesh edge.0).0 (ends mesh edge.0).1,
        told (Short s _ _) tt,
        (
          right,
          record {
            below = first.below;
            distance = (rule_at s first.below).0;
            label = (rule_at s first.below).1;
            edge = edge.0;
            its_ends = refl;
            short = record { rule = (rule_at s first.below).2; edge = edge.1 };
            before = first.before;
          },
        ),
      )
    ]

    -- whether a vertex is near a sheet
    near_decided : (s x : ℕ) → s < length cert.sheets → x < mesh.vertices → Decided (IsNear mesh lengths cert (sheet_at cert s) x)
    near_decided s x l lx =
        let row = sheet_at cert s in
        let d = (rule_at s l).0 in
        let rule = (rule_at s l).2 in
        as_well (λ le. (d, rule.distances, le)) (λ near. nearer s x l lx near) (when_most (d x) row.margin)
      where
        nearer : (s x : ℕ) (l : s < length cert.sheets) → x < mesh.vertices → IsNear mesh lengths cert (sheet_at cert s) x →
            (rule_at s l).0 x ≤ (sheet_at cert s).margin
        nearer s x l lx (e, are, le) =
            let same = one_distance mesh lengths (part_of cert (sheet_at cert s)) (limit_of mesh lengths cert (sheet_at cert s)) surface positive
            (rule_at s l).0 e (rule_at s l).2.distances are x lx in
            omega (arith, same, le)

    serves_decided : (i e s : ℕ) → e < edge_count mesh → s < length cert.sheets → Decided (ServesEdge mesh lengths cert i e s)
    serves_decided i e s le l =
        let inside = (surfaces_are_cells mesh surface).complex.primal_ends e le in
        as_well (λ is. record { from = is.0; to = is.1.0; near = is.1.1 }) (λ is. (is.from, (is.to, is.near)))
        (both (when_most (sheet_at cert s).from i) (both (when_less i (sheet_at cert s).to)
        (one_of (near_decided s (ends mesh e).0 l inside.0) (near_decided s (ends mesh e).1 l inside.1))))

    served_decided : (i e : ℕ) → e < edge_count mesh → Decided (IsServedBy mesh lengths cert (length cert.sheets) i e)
    served_decided i e le = some_below (length cert.sheets) (ServesEdge mesh lengths cert i e) (λ s l. serves_decided i e s le l)

    -- a set that is written as a number has smaller ones alone
    edge_decided : (e : ℕ) → e < edge_count mesh → Decided (IsEdgeServed mesh lengths cert e)
    edge_decided e le =
        as_well (λ is i on. is i (has_below (edge_set mesh cert e) i on) on) (λ is i l on. is i on)
        (all_below (edge_set mesh cert e) (λ i. cocycle mesh cert i e ≡ true → IsServedBy mesh lengths cert (length cert.sheets) i e)
        (λ i l. implied (when_true (cocycle mesh cert i e)) (served_decided i e le)))

  pub sheets_or_fault : IsValidSheets mesh lengths cert ⊎ SheetFaults
  sheets_or_fault = elim rows_or_fault [
    | inr fault ↦ inr fault
    | inl right ↦ elim (all_or_first (length cert.sheets) (Holds mesh lengths cert) (holds_decided right)) [
      | inr first ↦ inr (short_fault right first.0 first.1)
      | inl sheets ↦ elim (all_or_first (edge_count mesh) (IsEdgeServed mesh lengths cert) (edge_decided right)) [
        | inr first ↦ inr (Unserved (ends mesh first.0).0 (ends mesh first.0).1, told (Unserved _ _) tt, (right, sheets, (first.0, refl, first.1)))
        | inl served ↦ inl (record {
          shape = right.walks.shape;
          closed = right.walks.closed;
          by_length = right.walks.by_length;
          pairs = right.pairs;
          cocycles = right.cocycles;
          paired = right.paired;
          forms = right.forms;
          sheets = sheets;
          served = served;
        })
      ]
    ]
  ]
