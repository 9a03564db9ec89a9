-- Sheets over the first vertices of pairs: one pair more.
use Rattle.surf_surfaces.proofs.Common.{◌≡◌, ℕ, ◌+◌, ◌-◌, ◌<◌, ◌++◌, List, [], ◌∷◌, length, get_or, refl, sym, ap, ◌∙◌, subst, arith, inl, inr, cases_eq, cases_lt, get_or_append_left, get_or_push, length-append}
use Rattle.surf_sheets.specs.Rows.{SheetRow}
use Rattle.surf_sheetcheck.specs.Parts.{no_row}
use Rattle.surf_sheetfind.specs.Listed.{vertex_row, HasRow, AreVertexRows}

module _ (k : ℕ) (pairs : List (ℕ × ℕ)) where
  -- no pair yet
  pub rows_none : AreVertexRows k pairs 0 []
  rows_none = record {
    few = omega arith;
    each = λ s l. absurd (omega (arith, l));
    there = λ j l. absurd (omega (arith, l));
  }

  -- a pair that begins as the one before
  pub rows_same : (n : ℕ) (sheets : List SheetRow) → 0 < n → (get_or pairs (n - 1) (0, 0)).0 ≡ (get_or pairs n (0, 0)).0 →
      AreVertexRows k pairs n sheets → AreVertexRows k pairs (n + 1) sheets
  rows_same n sheets some same are =
      let few = are.few in
      record {
        few = omega (arith, few);
        each = λ s l. let (j, below, is) = are.each s l in (j, omega (arith, below), is);
        there = λ j l. elim (cases_eq j n) [
          | inl last ↦
              subst (λ m. HasRow k sheets (get_or pairs m (0, 0)).0) (sym last)
              (subst (HasRow k sheets) same (are.there (n - 1) (omega (arith, some))))
          | inr ne ↦ are.there j (omega (arith, l, ne))
        ];
      }

  module _ (n : ℕ) (old new : List SheetRow) (row : SheetRow) (new_is : new ≡ old ++ row ∷ [])
      (row_is : row ≡ vertex_row k (get_or pairs n (0, 0)).0) (are : AreVertexRows k pairs n old) where
    size : length new ≡ length old + 1
    size = ap length new_is ∙ length-append old (row ∷ [])

    before : (s : ℕ) → s < length old → get_or new s no_row ≡ get_or old s no_row
    before s l = ap (λ xs. get_or xs s no_row) new_is ∙ get_or_append_left old (row ∷ []) no_row s l

    here : get_or new (length old) no_row ≡ vertex_row k (get_or pairs n (0, 0)).0
    here = ap (λ xs. get_or xs (length old) no_row) new_is ∙ get_or_push old row no_row (length old) refl ∙ row_is

    -- a sheet more
    pub rows_more : AreVertexRows k pairs (n + 1) new
    rows_more =
        let few = are.few in
        record {
          few = omega (arith, few, size);
          each = λ s l. elim (cases_lt s (length old)) [
            | inl less ↦ let (j, below, is) = are.each s less in (j, omega (arith, below), before s less ∙ is)
            | inr past ↦
                let last : s ≡ length old = omega (arith, l, past, size) in
                (n, omega arith, ap (λ m. get_or new m no_row) last ∙ here)
          ];
          there = λ j l. elim (cases_eq j n) [
            | inl last ↦ (
              length old,
              omega (arith, size),
              here ∙ ap (λ m. vertex_row k (get_or pairs m (0, 0)).0) (sym last),
            )
            | inr ne ↦
                let (s, below, is) = are.there j (omega (arith, l, ne)) in
                (s, omega (arith, below, size), before s below ∙ is)
          ];
        }
