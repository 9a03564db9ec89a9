-- What sheets serve, sheet by sheet.
use Rattle.surf_surfaces.proofs.Common.{◌≡◌, ◌≢◌, ℕ, ◌<◌, ◌≤◌, ◌+◌, ◌⊎◌, ◌&&◌, Bool, true, false, not, nat_le, [], length, refl, sym, ap, ◌∙◌, subst, arith, inl, inr, cases_eq, cases_lt, cases_Bool, eq-eqb, ne_eqb, lt-ltb, le-ltb, lt-leb, le-leb, false≢true, true≢false, get_or-map, has, same_from_has, Mesh, edge_count, ends, edges, pair_of, pair_lt, edge_number, IsSurface, ArePositive}
use Rattle.surf_surfaces.proofs.meshes.CellLaws.{surfaces_are_cells}
use Rattle.surf_surfaces.proofs.meshes.EdgeLaws.{edges-rise, rising_at, place_of-among, among-contains}
use Rattle.surf_surfaces.proofs.meshes.PairLaws.{pair_lt-irreflexive, pair_lt-trans}
use Rattle.surf_treecheck.specs.First.{HoldsBelow, FailsFirst}
use Rattle.surf_certcheck.proofs.Placing.{has_none}
use Rattle.surf_signatures.specs.Tables.{Signed}
use Rattle.surf_base.specs.Tables.{at, nobody}
use Rattle.surf_sheets.specs.Rows.{SheetRow, SheetCert}
use Rattle.surf_sheetcheck.specs.Cocycles.{pair_at, set_of, edge_set, IsPairEdge}
use Rattle.surf_sheetcheck.specs.Parts.{sheet_at, part_of, limit_of}
use Rattle.surf_sheetcheck.specs.Rule.{AreDistances}
use Rattle.surf_sheetcheck.specs.Valid.{ServesEdge, IsServedBy, IsEdgeServed}
use Rattle.surf_sheetcheck.specs.Faults.{IsUnserved}
use Rattle.surf_sheetcheck.specs.Tables.{IsReady, AreRowSets, is_within}
use Rattle.surf_sheetcheck.specs.Serving.{left_of, IsTaken, IsKept, IsNearBy, IsLeft}
use Rattle.surf_sheetcheck.specs.declared.cases.SheetCase.{SheetCase}
use Rattle.surf_sheetcheck.proofs.Slots.{slot_set, no_slot_set, slot_place, pair_ends}
use Rattle.surf_sheetcheck.proofs.DistanceLaws.{one_distance}

and_both : (a b : Bool) → (a && b) ≡ true → (a ≡ true) × (b ≡ true)
and_both true true h = (refl, refl)
and_both true false h = absurd (false≢true h)
and_both false b h = absurd (false≢true h)

not_is : (b : Bool) → not b ≡ true → b ≡ false
not_is true h = absurd (false≢true h)
not_is false h = refl

within_is : (from to i : ℕ) → from ≤ i → i < to → is_within from to i ≡ true
within_is from to i low high = rw (le-leb from i low, lt-ltb i to high) refl

module _ (c : SheetCase) (ready : IsReady c) where
  abbrev mesh : Mesh
  mesh = c.mesh.now

  abbrev cert : SheetCert
  cert = c.cert.now

  -- at first all is left
  pub left_is : (left : Signed) → AreRowSets cert left → (e : ℕ) → e < edge_count mesh → left_of c left e ≡ edge_set mesh cert e
  left_is left are e l = elim (cases_eq (at c.slots.items e) nobody) [
    | inl none ↦
        rw (eq-eqb (at c.slots.items e) nobody none)
        (sym (no_slot_set mesh cert ready.fits.edges e (at c.slots.items e) ready.fits.as_many (ready.slots.each e l) none))
    | inr some ↦
        let there = (ready.slots.each e l).some some in
        let inside : at c.slots.items e < length cert.numbers = omega (arith, there.0, ready.fits.as_many) in
        rw (ne_eqb (at c.slots.items e) nobody some)
        (ap (λ xs. at xs (at c.slots.items e)) are.sets ∙ get_or-map set_of cert.numbers (at c.slots.items e) [] 0 inside
        ∙ sym (slot_set mesh cert ready.fits.edges e (at c.slots.items e) (ready.slots.each e l) some))
  ]

  pub left_begin : (left : Signed) → AreRowSets cert left → IsLeft c 0 left
  left_begin left are = record {
    gone = λ e i l on off. absurd (false≢true (sym off ∙ ap (λ x. has x i) (left_is left are e l) ∙ on));
    kept = λ e i l on. (sym (ap (λ x. has x i) (left_is left are e l)) ∙ on, λ served. absurd (omega (arith, served.1)));
  }

  -- ---- one sheet more

  module _ (surface : IsSurface mesh) (positive : ArePositive mesh c.lengths.now) (n : ℕ) (old new : Signed) (was : IsLeft c n old)
      (d : ℕ → ℕ) (are : AreDistances mesh c.lengths.now (part_of cert (sheet_at cert n)) (limit_of mesh c.lengths.now cert (sheet_at cert n)) d)
      (taken : (e : ℕ) → e < edge_count mesh → IsNearBy c (sheet_at cert n) d e → IsTaken c (sheet_at cert n) old new e)
      (kept : (e : ℕ) → e < edge_count mesh → (IsNearBy c (sheet_at cert n) d e → ⊥) → IsKept c old new e) where
    abbrev row : SheetRow
    row = sheet_at cert n

    near_or_not : (e : ℕ) → IsNearBy c row d e ⊎ (IsNearBy c row d e → ⊥)
    near_or_not e = elim (cases_lt row.margin (d (ends mesh e).0)) [
      | inr near ↦ inl (inl near)
      | inl far_u ↦ elim (cases_lt row.margin (d (ends mesh e).1)) [
        | inr near ↦ inl (inr near)
        | inl far_v ↦ inr (λ near. elim near [ inl u ↦ absurd (omega (arith, u, far_u)) | inr v ↦ absurd (omega (arith, v, far_v)) ])
      ]
    ]

    serves : (e i : ℕ) → IsNearBy c row d e → row.from ≤ i → i < row.to → ServesEdge mesh c.lengths.now cert i e n
    serves e i near from to = record {
      from = from;
      to = to;
      near = elim near [ inl u ↦ inl (d, are, u) | inr v ↦ inr (d, are, v) ];
    }

    near_from : (e i : ℕ) → e < edge_count mesh → ServesEdge mesh c.lengths.now cert i e n → IsNearBy c row d e
    near_from e i l serving =
        let inside = (surfaces_are_cells mesh surface).complex.primal_ends e l in
        elim serving.near [
          | inl (h, is, near) ↦
              let same = one_distance mesh c.lengths.now (part_of cert row) (limit_of mesh c.lengths.now cert row) surface positive d h are is (ends mesh e).0 inside.0 in
              inl (omega (arith, same, near))
          | inr (h, is, near) ↦
              let same = one_distance mesh c.lengths.now (part_of cert row) (limit_of mesh c.lengths.now cert row) surface positive d h are is (ends mesh e).1 inside.1 in
              inr (omega (arith, same, near))
        ]

    longer : (e i : ℕ) → IsServedBy mesh c.lengths.now cert n i e → IsServedBy mesh c.lengths.now cert (n + 1) i e
    longer e i (s, l, serving) = (s, omega (arith, l), serving)

    newly_gone : (e i : ℕ) → e < edge_count mesh → has (left_of c old e) i ≡ true → has (left_of c new e) i ≡ false →
        IsServedBy mesh c.lengths.now cert (n + 1) i e
    newly_gone e i l was_on off = elim (near_or_not e) [
      | inr not_near ↦ absurd (false≢true (sym off ∙ ap (λ x. has x i) (kept e l not_near) ∙ was_on))
      | inl near ↦ elim (cases_lt i row.from) [
        | inl before ↦ absurd (stays (taken e l near i) (out_low before))
        | inr from ↦ elim (cases_lt i row.to) [
          | inl to ↦ (n, omega arith, serves e i near from to)
          | inr behind ↦ absurd (stays (taken e l near i) (out_high behind))
        ]
      ]
    ]
      where
        stays : has (left_of c new e) i ≡ (has (left_of c old e) i && not (is_within row.from row.to i)) →
            is_within row.from row.to i ≡ false → ⊥
        stays is outside = false≢true (sym off ∙ is ∙ ap (λ b. b && not (is_within row.from row.to i)) was_on ∙ ap not outside)

        out_low : i < row.from → is_within row.from row.to i ≡ false
        out_low before = rw (lt-leb row.from i before) refl

        and_no : (b : Bool) → (b && false) ≡ false
        and_no true = refl
        and_no false = refl

        out_high : row.to ≤ i → is_within row.from row.to i ≡ false
        out_high behind = rw (le-ltb i row.to behind) (and_no (nat_le row.from i))

    pub left_more : IsLeft c (n + 1) new
    left_more = record {
      gone = λ e i l on off. elim (cases_Bool (has (left_of c old e) i)) [
        | inl was_on ↦ newly_gone e i l was_on off
        | inr was_off ↦ longer e i (was.gone e i l on was_off)
      ];
      kept = λ e i l on. elim (near_or_not e) [
        | inr not_near ↦
            let was_on = sym (ap (λ x. has x i) (kept e l not_near)) ∙ on in
            ((was.kept e i l was_on).0, (λ served. unserved e i l was_on (λ serving. not_near (near_from e i l serving)) served))
        | inl near ↦
            let both = and_both (has (left_of c old e) i) (not (is_within row.from row.to i)) (sym (taken e l near i) ∙ on) in
            let outside = not_is (is_within row.from row.to i) both.1 in (
              (was.kept e i l both.0).0,
              (λ served. unserved e i l both.0
                  (λ serving. true≢false (sym (within_is row.from row.to i serving.from serving.to) ∙ outside)) served),
            )
      ];
    }
      where
        unserved : (e i : ℕ) → e < edge_count mesh → has (left_of c old e) i ≡ true →
            (ServesEdge mesh c.lengths.now cert i e n → ⊥) → IsServedBy mesh c.lengths.now cert (n + 1) i e → ⊥
        unserved e i l was_on not_now (s, ls, serving) = elim (cases_eq s n) [
          | inl same ↦ not_now (subst (ServesEdge mesh c.lengths.now cert i e) same serving)
          | inr ne ↦ (was.kept e i l was_on).1 (s, omega (arith, ls, ne), serving)
        ]

  -- ---- the end

  module _ (left : Signed) (are : IsLeft c (length cert.sheets) left) where
    served_none : (e : ℕ) → e < edge_count mesh → left_of c left e ≡ 0 → IsEdgeServed mesh c.lengths.now cert e
    served_none e l none i on = are.gone e i l on (ap (λ x. has x i) none ∙ has_none i)

    by_slot : (e : ℕ) → e < edge_count mesh → ((j : ℕ) → j < length cert.edges → pair_at cert j ≡ ends mesh e → at left.sets j ≡ 0) →
        left_of c left e ≡ 0
    by_slot e l none = elim (cases_eq (at c.slots.items e) nobody) [
      | inl absent ↦ rw (eq-eqb (at c.slots.items e) nobody absent) refl
      | inr some ↦
          let there = (ready.slots.each e l).some some in
          rw (ne_eqb (at c.slots.items e) nobody some) (none (at c.slots.items e) there.0 there.1)
    ]

    pub all_served : HoldsBelow (length cert.edges) (λ j. at left.sets j ≡ 0) →
        HoldsBelow (edge_count mesh) (IsEdgeServed mesh c.lengths.now cert)
    all_served none e l = served_none e l (by_slot e l (λ j lj is. none j lj))

    pub first_unserved : HoldsBelow (length cert.edges) (IsPairEdge mesh cert) → (j : ℕ) →
        FailsFirst (length cert.edges) (λ k. at left.sets k ≡ 0) j →
        IsUnserved mesh c.lengths.now cert (pair_at cert j)
    first_unserved pairs j first =
        let e : ℕ = edge_number mesh (pair_at cert j) in
        let is = pair_ends mesh cert ready.fits.edges j (edge_number mesh (pair_at cert j)) (pairs j first.below) first.below refl in (
          edge_number mesh (pair_at cert j),
          is,
          record {
            below = inside;
            fails = λ served. first.fails (empty is served);
            before = λ f less. served_none f (omega (arith, less, inside)) (by_slot f (omega (arith, less, inside))
                (λ k lk same. first.before k (earlier is f k less lk same)));
          },
        )
      where
        inside : edge_number mesh (pair_at cert j) < edge_count mesh
        inside = (place_of-among (pair_of (pair_at cert j)) (edges mesh) (0, 0)
            (among-contains (pair_of (pair_at cert j)) (edges mesh) (pairs j first.below))).0

        slot_is : ends mesh (edge_number mesh (pair_at cert j)) ≡ pair_at cert j →
            (at c.slots.items (edge_number mesh (pair_at cert j)) ≢ nobody) × (at c.slots.items (edge_number mesh (pair_at cert j)) ≡ j)
        slot_is is =
            let slot = ready.slots.each (edge_number mesh (pair_at cert j)) inside in
            let some : at c.slots.items (edge_number mesh (pair_at cert j)) ≢ nobody = λ absent. slot.none absent j first.below (sym is) in (
              some,
              sym (slot_place mesh cert ready.fits.edges (ends mesh (edge_number mesh (pair_at cert j)))
                  (at c.slots.items (edge_number mesh (pair_at cert j))) (slot.some some).0 (slot.some some).1)
                  ∙ slot_place mesh cert ready.fits.edges (ends mesh (edge_number mesh (pair_at cert j))) j first.below (sym is),
            )

        none_left : (e i : ℕ) → e < edge_count mesh → IsEdgeServed mesh c.lengths.now cert e → has (left_of c left e) i ≡ false
        none_left e i l served = elim (cases_Bool (has (left_of c left e) i)) [
          | inl on ↦ let there = are.kept e i l on in absurd (there.1 (served i there.0))
          | inr off ↦ off
        ]

        empty : ends mesh (edge_number mesh (pair_at cert j)) ≡ pair_at cert j →
            IsEdgeServed mesh c.lengths.now cert (edge_number mesh (pair_at cert j)) → at left.sets j ≡ 0
        empty is served =
            let e = edge_number mesh (pair_at cert j) in
            let slot = slot_is is in
            let same : left_of c left e ≡ at left.sets j =
            rw (ne_eqb (at c.slots.items e) nobody slot.0) (ap (at left.sets) slot.1) in
            sym same ∙ same_from_has (left_of c left e) 0 (λ i. none_left e i inside served ∙ sym (has_none i))

        earlier : ends mesh (edge_number mesh (pair_at cert j)) ≡ pair_at cert j → (f k : ℕ) →
            f < edge_number mesh (pair_at cert j) → k < length cert.edges → pair_at cert k ≡ ends mesh f → k < j
        earlier is f k less lk same = elim (cases_lt k j) [
          | inl before ↦ before
          | inr behind ↦ absurd (clash behind)
        ]
          where
            order : pair_lt (ends mesh f) (ends mesh (edge_number mesh (pair_at cert j))) ≡ true
            order = rising_at (edges mesh) (edges-rise mesh) f (edge_number mesh (pair_at cert j)) (0, 0) less inside

            clash : j ≤ k → ⊥
            clash le = elim (cases_eq k j) [
              | inl equal ↦ pair_lt-irreflexive (ends mesh f) (ends mesh (edge_number mesh (pair_at cert j))) order
                  (sym same ∙ ap (pair_at cert) equal ∙ sym is)
              | inr ne ↦
                  let up = ready.fits.edges.rises j k (0, 0) (omega (arith, le, ne)) lk in
                  let back : pair_lt (ends mesh (edge_number mesh (pair_at cert j))) (ends mesh f) ≡ true =
                  subst (λ p. pair_lt p (ends mesh f) ≡ true) (sym is) (subst (λ p. pair_lt (pair_at cert j) p ≡ true) same up) in
                  pair_lt-irreflexive (ends mesh f) (ends mesh f) (pair_lt-trans (ends mesh f) (ends mesh (edge_number mesh (pair_at cert j))) (ends mesh f) order back) refl
            ]
