-- A certificate by sheets has one fault.
use Rattle.surf_surfaces.proofs.Common.{◌≡◌, ◌≢◌, ℕ, zero, suc, List, length, refl, sym, ap, ◌∙◌, subst, arith, inl, inr, cases_eq, Mesh, face_count, edge_count, ends, IsSurface, ArePositive}
use Rattle.surf_surfaces.specs.Homology.{IsLoopCount}
use Rattle.surf_treecheck.specs.First.{HoldsBelow, FailsFirst}
use Rattle.surf_treecheck.specs.Shapes.{FirstPart}
use Rattle.surf_treecheck.specs.declared.fault.CertPart.{CertPart}
use Rattle.surf_treecheck.specs.declared.fault.CertPart.TheVariants.{Vertices, Faces, Loops, Base}
use Rattle.surf_treecheck.proofs.FirstFault.{first_same, first_part_same}
use Rattle.surf_sheets.specs.Rows.{SheetCert}
use Rattle.surf_sheetcheck.specs.Cocycles.{pair_at, IsPairEdge}
use Rattle.surf_sheetcheck.specs.Parts.{sheet_at, HasForm}
use Rattle.surf_sheetcheck.specs.Valid.{HasSheetShape, IsCycleClosed, IsNoShorter, IsEvenFace, IsPaired, IsLongAt, Holds, IsEdgeServed}
use Rattle.surf_sheetcheck.specs.Faults.{IsSheetShapeFault, IsSheetFault, AreWalksRight, AreRowsRight, IsShortFirst}
use Rattle.surf_sheetcheck.specs.declared.fault.SheetFault.{SheetFault}
use Rattle.surf_sheetcheck.specs.declared.fault.SheetFault.TheVariants.{Shape, NotClosed, Falling, Pair, Cocycle}
use Rattle.surf_sheetcheck.specs.declared.fault.SheetFault.TheVariants.{Unpaired, Form, Short, Unserved, Memory}
use Rattle.surf_sheetcheck.proofs.FaultLaws.{long_by_other}

-- one condition more
pub below_more : (P : ℕ → Type 0) (n : ℕ) → HoldsBelow n P → P n → HoldsBelow (suc n) P
below_more P n before here k l = elim (cases_eq k n) [
  | inl last ↦ subst P (sym last) here
  | inr other ↦ before k (omega (arith, l, other))
]

-- the place of a fault's kind in the order in which they are tested
abbrev kind : SheetFault → ℕ
kind (Shape part) = 0
kind (NotClosed place) = 1
kind (Falling place) = 2
kind (Pair u v) = 3
kind (Cocycle face) = 4
kind (Unpaired place) = 5
kind (Form sheet) = 6
kind (Short sheet u v) = 7
kind (Unserved u v) = 8
kind Memory = 9

module _ (mesh : Mesh) (lengths : List ℕ) (cert : SheetCert) where
  -- the condition of each kind
  abbrev Condition : ℕ → Type 0
  Condition zero = HasSheetShape mesh cert
  Condition (suc zero) = HoldsBelow (length cert.cycles) (IsCycleClosed mesh cert)
  Condition (suc (suc zero)) = HoldsBelow (length cert.cycles) (IsNoShorter mesh lengths cert)
  Condition (suc (suc (suc zero))) = HoldsBelow (length cert.edges) (IsPairEdge mesh cert)
  Condition (suc (suc (suc (suc zero)))) = HoldsBelow (face_count mesh) (IsEvenFace mesh cert)
  Condition (suc (suc (suc (suc (suc zero))))) = HoldsBelow (length cert.cycles) (IsPaired mesh cert)
  Condition (suc (suc (suc (suc (suc (suc zero)))))) = HoldsBelow (length cert.sheets) (HasForm mesh cert)
  Condition (suc (suc (suc (suc (suc (suc (suc zero))))))) = HoldsBelow (length cert.sheets) (Holds mesh lengths cert)
  Condition (suc (suc (suc (suc (suc (suc (suc (suc k)))))))) = HoldsBelow (edge_count mesh) (IsEdgeServed mesh lengths cert)

  none_before : HoldsBelow 0 Condition
  none_before k l = absurd (omega (arith, l))

  to_closed : HasSheetShape mesh cert → HoldsBelow 1 Condition
  to_closed shape = below_more Condition 0 none_before shape

  to_falling : HasSheetShape mesh cert → HoldsBelow (length cert.cycles) (IsCycleClosed mesh cert) → HoldsBelow 2 Condition
  to_falling shape closed = below_more Condition 1 (to_closed shape) closed

  to_pairs : AreWalksRight mesh lengths cert → HoldsBelow 3 Condition
  to_pairs right = below_more Condition 2 (to_falling right.shape right.closed) right.by_length

  to_cocycles : AreWalksRight mesh lengths cert → HoldsBelow (length cert.edges) (IsPairEdge mesh cert) →
      HoldsBelow 4 Condition
  to_cocycles right pairs = below_more Condition 3 (to_pairs right) pairs

  to_paired : AreWalksRight mesh lengths cert → HoldsBelow (length cert.edges) (IsPairEdge mesh cert) →
      HoldsBelow (face_count mesh) (IsEvenFace mesh cert) → HoldsBelow 5 Condition
  to_paired right pairs even = below_more Condition 4 (to_cocycles right pairs) even

  to_forms : AreWalksRight mesh lengths cert → HoldsBelow (length cert.edges) (IsPairEdge mesh cert) →
      HoldsBelow (face_count mesh) (IsEvenFace mesh cert) → HoldsBelow (length cert.cycles) (IsPaired mesh cert) →
      HoldsBelow 6 Condition
  to_forms right pairs even paired = below_more Condition 5 (to_paired right pairs even) paired

  to_sheets : AreRowsRight mesh lengths cert → HoldsBelow 7 Condition
  to_sheets right = below_more Condition 6 (to_forms right.walks right.pairs right.cocycles right.paired) right.forms

  shape_fails : (part : CertPart) → IsSheetShapeFault mesh cert part → HasSheetShape mesh cert → ⊥
  shape_fails Vertices is shape = is shape.vertices
  shape_fails Faces is shape = is.1 shape.faces
  shape_fails Loops is shape = is.2 shape.loops
  shape_fails Base is shape = is

  abbrev IsFirstPart : CertPart → Type 0
  IsFirstPart = FirstPart (cert.vertices ≡ mesh.vertices) (cert.faces ≡ face_count mesh) (IsLoopCount mesh (length cert.cycles)) (Unit {0})

  first_part : (part : CertPart) → IsSheetShapeFault mesh cert part → IsFirstPart part
  first_part Vertices is = is
  first_part Faces is = is
  first_part Loops is = is
  first_part Base is = absurd is

  shape_same : (p q : CertPart) → IsSheetShapeFault mesh cert p → IsSheetShapeFault mesh cert q → p ≡ q
  shape_same p q a b =
      first_part_same (cert.vertices ≡ mesh.vertices) (cert.faces ≡ face_count mesh) (IsLoopCount mesh (length cert.cycles)) (Unit {0})
      p q (first_part p a) (first_part q b)

  module _ (surface : IsSurface mesh) (positive : ArePositive mesh lengths) where
    -- a sheet that is short at an edge doesn't hold
    short_first : (s : ℕ) (p : ℕ × ℕ) → IsShortFirst mesh lengths cert s p →
        FailsFirst (length cert.sheets) (Holds mesh lengths cert) s
    short_first s p is = record {
      below = is.below;
      fails = λ holds.
          let (d, q, all) = holds in
          is.short.edge.fails (long_by_other mesh lengths cert surface positive (sheet_at cert s) d is.distance q is.label all.rule is.short.rule
          is.edge is.short.edge.below (all.long is.edge is.short.edge.below));
      before = is.before;
    }

    edge_same : (s : ℕ) (p q : ℕ × ℕ) → IsShortFirst mesh lengths cert s p → IsShortFirst mesh lengths cert s q → p ≡ q
    edge_same s p q a b =
        let row = sheet_at cert s in
        let other : FailsFirst (edge_count mesh) (IsLongAt mesh lengths cert row a.distance a.label) b.edge =
        record {
          below = b.short.edge.below;
          fails = λ long. b.short.edge.fails (long_by_other mesh lengths cert surface positive row a.distance b.distance a.label b.label
              a.short.rule b.short.rule b.edge b.short.edge.below long);
          before = λ e l. long_by_other mesh lengths cert surface positive row b.distance a.distance b.label a.label
              b.short.rule a.short.rule e (let below = b.short.edge.below in omega (arith, l, below)) (b.short.edge.before e l);
        } in
        sym a.its_ends
        ∙ ap (ends mesh) (first_same (edge_count mesh) (IsLongAt mesh lengths cert row a.distance a.label) a.edge b.edge a.short.edge other)
        ∙ b.its_ends

    short_same : (s t u v w z : ℕ) → IsShortFirst mesh lengths cert s (u, v) → IsShortFirst mesh lengths cert t (w, z) →
        Short s u v ≡ Short t w z
    short_same s t u v w z a b =
        let sheet : s ≡ t = first_same (length cert.sheets) (Holds mesh lengths cert) s t (short_first s (u, v) a) (short_first t (w, z) b) in
        let there = subst (λ n. IsShortFirst mesh lengths cert n (u, v)) sheet a in
        ap (λ n. Short n u v) sheet ∙ ap (λ (p : ℕ × ℕ). Short t p.0 p.1) (edge_same t (u, v) (w, z) there b)

    -- a fault fails the condition of its kind, and those before it hold
    first_kind : (fault : SheetFault) → fault ≢ Memory → IsSheetFault mesh lengths cert fault → FailsFirst 9 Condition (kind fault)
    first_kind (Shape part) ne is = record { below = omega arith; fails = shape_fails part is; before = none_before }
    first_kind (NotClosed k) ne is = record { below = omega arith; fails = λ all. is.1.fails (all k is.1.below); before = to_closed is.0 }
    first_kind (Falling k) ne is = record { below = omega arith; fails = λ all. is.2.fails (all k is.2.below); before = to_falling is.0 is.1 }
    first_kind (Pair u v) ne is = record {
      below = omega arith;
      fails = λ all. let (j, same, first) = is.1 in first.fails (all j first.below);
      before = to_pairs is.0;
    }
    first_kind (Cocycle f) ne is = record { below = omega arith; fails = λ all. is.2.fails (all f is.2.below); before = to_cocycles is.0 is.1 }
    first_kind (Unpaired k) ne is = record { below = omega arith; fails = λ all. is.3.fails (all k is.3.below); before = to_paired is.0 is.1 is.2 }
    first_kind (Form s) ne is = record { below = omega arith; fails = λ all. is.4.fails (all s is.4.below); before = to_forms is.0 is.1 is.2 is.3 }
    first_kind (Short s u v) ne is = record {
      below = omega arith;
      fails = λ all. (short_first s (u, v) is.1).fails (all s is.1.below);
      before = to_sheets is.0;
    }
    first_kind (Unserved u v) ne is = record {
      below = omega arith;
      fails = λ all. let (e, same, first) = is.2 in first.fails (all e first.below);
      before = below_more Condition 7 (to_sheets is.0) is.1;
    }
    first_kind Memory ne is = absurd (ne refl)

    of_one_kind : (a b : SheetFault) → kind a ≡ kind b → IsSheetFault mesh lengths cert a → IsSheetFault mesh lengths cert b → a ≡ b
    of_one_kind (Shape p) (Shape q) k a b = ap Shape (shape_same p q a b)
    of_one_kind (NotClosed i) (NotClosed j) k a b = ap NotClosed (first_same _ (IsCycleClosed mesh cert) i j a.1 b.1)
    of_one_kind (Falling i) (Falling j) k a b = ap Falling (first_same _ (IsNoShorter mesh lengths cert) i j a.2 b.2)
    of_one_kind (Pair u v) (Pair w z) k a b =
        let (i, at, first) = a.1 in
        let (j, too, other) = b.1 in
        ap (λ (p : ℕ × ℕ). Pair p.0 p.1) (sym at ∙ ap (pair_at cert) (first_same _ (IsPairEdge mesh cert) i j first other) ∙ too)
    of_one_kind (Cocycle f) (Cocycle g) k a b = ap Cocycle (first_same _ (IsEvenFace mesh cert) f g a.2 b.2)
    of_one_kind (Unpaired i) (Unpaired j) k a b = ap Unpaired (first_same _ (IsPaired mesh cert) i j a.3 b.3)
    of_one_kind (Form s) (Form t) k a b = ap Form (first_same _ (HasForm mesh cert) s t a.4 b.4)
    of_one_kind (Short s u v) (Short t w z) k a b = short_same s t u v w z a.1 b.1
    of_one_kind (Unserved u v) (Unserved w z) k a b =
        let (d, at, first) = a.2 in
        let (e, too, other) = b.2 in
        ap (λ (p : ℕ × ℕ). Unserved p.0 p.1) (sym at ∙ ap (ends mesh) (first_same _ (IsEdgeServed mesh lengths cert) d e first other) ∙ too)
    of_one_kind Memory Memory k a b = refl
    of_one_kind other another k a b = absurd (omega (arith, k))

    pub one_sheet_fault : (a b : SheetFault) → a ≢ Memory → b ≢ Memory → IsSheetFault mesh lengths cert a →
        IsSheetFault mesh lengths cert b → a ≡ b
    one_sheet_fault a b some other is too =
        of_one_kind a b (first_same 9 Condition (kind a) (kind b) (first_kind a some is) (first_kind b other too)) is too
