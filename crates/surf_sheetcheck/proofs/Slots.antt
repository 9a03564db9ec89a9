-- The sets of edges by the places of their ends in the list of edges.
use Rattle.surf_surfaces.proofs.Common.{◌≡◌, ◌≢◌, ℕ, ◌<◌, ◌+◌, true, List, [], length, get_or, set, refl, sym, ap, ◌∙◌, arith, inl, inr, cases_Bool, cases_eq, lt-ltb, get_or-set_same, get_or-set_other, get_or_past, length-set, position_or_len_is}
use Rattle.surf_treecheck.proofs.Common.{Mesh, pair_of, pair_eq, edges, among, edge_count, ends, edge_number, place_of, list_any_from, among-contains, place_of-ends}
use Rattle.surf_surfaces.proofs.meshes.EdgeLaws.{rising_from_AllPairs, place_of-rising, place_of-among}
use Rattle.surf_base.specs.Tables.{at, nobody}
use Rattle.surf_records.specs.Fits.{LeftFits}
use Rattle.surf_sheets.specs.Rows.{SheetCert}
use Rattle.surf_sheetcheck.specs.Cocycles.{pair_at, row_at, set_of, edge_set, IsPairEdge}
use Rattle.surf_sheetcheck.specs.Tables.{IsSlot, AreSlots}

module _ (mesh : Mesh) (cert : SheetCert) (fits : LeftFits (length cert.edges) cert.edges) where
  -- the place of a pair that stands at a place
  pub slot_place : (p : ℕ × ℕ) (j : ℕ) → j < length cert.edges → pair_at cert j ≡ p → place_of p cert.edges ≡ j
  slot_place p j l is =
      ap (λ q. place_of q cert.edges) (sym is)
      ∙ place_of-rising cert.edges (0, 0) j (rising_from_AllPairs cert.edges fits.rises) l

  -- the set of an edge whose ends stand at a place
  pub slot_set : (e slot : ℕ) → IsSlot cert (length cert.edges) (ends mesh e) slot → slot ≢ nobody →
      edge_set mesh cert e ≡ set_of (row_at cert slot)
  slot_set e slot is some =
      ap (λ j. set_of (row_at cert j)) (slot_place (ends mesh e) slot (is.some some).0 (is.some some).1)

  -- and of one whose ends don't
  pub no_slot_set : (e slot : ℕ) → length cert.numbers ≡ length cert.edges →
      IsSlot cert (length cert.edges) (ends mesh e) slot → slot ≡ nobody → edge_set mesh cert e ≡ 0
  no_slot_set e slot count is none = ap set_of (ap (row_at cert) place ∙ get_or_past cert.numbers (length cert.edges) [] (omega (arith, count)))
    where
      absent : among (ends mesh e) cert.edges ≡ true → ⊥
      absent h =
          let there = place_of-among (ends mesh e) cert.edges (0, 0) h in
          is.none none (place_of (ends mesh e) cert.edges) there.0 there.1

      place : place_of (ends mesh e) cert.edges ≡ length cert.edges
      place = position_or_len_is (pair_eq (ends mesh e)) cert.edges (length cert.edges) (0, 0) (omega arith)
          (λ k l. elim (cases_Bool (pair_eq (ends mesh e) (get_or cert.edges k (0, 0)))) [
            | inl same ↦ absurd (absent (list_any_from (pair_eq (ends mesh e)) cert.edges (0, 0) k l same))
            | inr other ↦ other
          ]) (λ l. absurd (omega (arith, l)))

-- the first pairs, and one more
module _ (mesh : Mesh) (cert : SheetCert) (fits : LeftFits (length cert.edges) cert.edges) where
  pub slots_none : (slots : List ℕ) → length slots ≡ edge_count mesh →
      ((e : ℕ) → e < edge_count mesh → at slots e ≡ nobody) → AreSlots mesh cert 0 slots
  slots_none slots count none = record {
    count = count;
    each = λ e l. record { none = λ is j below. absurd (omega (arith, below)); some = λ ne. absurd (ne (none e l)) };
  }

  -- the ends of the edge of a pair are that pair
  pub pair_ends : (j e : ℕ) → IsPairEdge mesh cert j → j < length cert.edges → e ≡ edge_number mesh (pair_at cert j) →
      ends mesh e ≡ pair_at cert j
  pair_ends j e edge l is =
      ap (ends mesh) is ∙ (place_of-among (pair_of (pair_at cert j)) (edges mesh) (0, 0)
      (among-contains (pair_of (pair_at cert j)) (edges mesh) edge)).1 ∙ sym (ordered (pair_at cert j) (fits.pairs j (0, 0) l).ordered)
    where
      ordered : (p : ℕ × ℕ) → p.0 < p.1 → p ≡ pair_of p
      ordered p less = rw (lt-ltb p.0 p.1 less) refl

  pub slots_more : (j e : ℕ) (old : List ℕ) → AreSlots mesh cert j old → j < length cert.edges → j < nobody →
      e < edge_count mesh → ends mesh e ≡ pair_at cert j → AreSlots mesh cert (j + 1) (set old e j)
  slots_more j e old was below small inside is = record {
    count = length-set old e j ∙ was.count;
    each = λ f l. elim (cases_eq f e) [
      | inl same ↦
          let now : at (set old e j) f ≡ j = ap (at (set old e j)) same ∙ get_or-set_same old e j 0 (omega (arith, inside, was.count)) in
          record {
            none = λ none k m. absurd (omega (arith, small, now, none));
            some = λ some. (omega (arith, now), ap (pair_at cert) now ∙ sym is ∙ ap (ends mesh) (sym same));
          }
      | inr ne ↦
          let now : at (set old e j) f ≡ at old f = get_or-set_other old e f j 0 ne in
          let other : pair_at cert j ≢ ends mesh f = λ same. ne (sym (place_of-ends mesh f l)
          ∙ ap (λ p. place_of p (edges mesh)) (sym same ∙ sym is) ∙ place_of-ends mesh e inside) in
          record {
            none = λ none k m. elim (cases_eq k j) [
              | inl last ↦ λ eq. other (ap (pair_at cert) (sym last) ∙ eq)
              | inr before ↦ (was.each f l).none (sym now ∙ none) k (omega (arith, m, before))
            ];
            some = λ some.
                let there = (was.each f l).some (λ none. some (now ∙ none)) in
                let less : at old f < j = there.0 in
                (omega (arith, now, less), ap (pair_at cert) now ∙ there.1);
          }
    ];
  }
