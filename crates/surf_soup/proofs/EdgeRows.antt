-- The rows of sides, one for each edge, with one side more.
use Rattle.surf_surfaces.proofs.Common.{◌≡◌, ℕ, suc, ◌+◌, ◌-◌, ◌<◌, Bool, true, false, List, [], ◌∷◌, ◌++◌, length, get_or, map, take, refl, sym, ap, ◌∙◌, arith, inl, inr, AllPairs, cases_eq, append-nil, take_more, get_or-take, length-take-le, length-map, get_or-map, get_or_append_left, same_lists, pair_eq, pair_lt, sum_by-set, sum_by_push}
use Rattle.std.specs.List.{filter, sum_by}
use Rattle.std.proofs.lemmas.List.{length-set, get_or-set_same, get_or-set_other, length_push, get_or_push}
use Rattle.std.proofs.lemmas.List.Elements.{filter-append}
use Rattle.surf_surfaces.proofs.meshes.PairLaws.{pair_eq-same, pair_eq-other, pair_lt-irreflexive}
use Rattle.surf_rows.specs.Rows.{with_last_longer}
use Rattle.surf_soup.specs.Order.{running, AreRowsOf}

none_passes : (q : ℕ → Bool) (xs : List ℕ) → ((j : ℕ) → j < length xs → q (get_or xs j 0) ≡ false) → filter q xs ≡ []
none_passes q [] h = refl
none_passes q (x ∷ xs) h =
    let out : q x ≡ false = h 0 (omega arith) in
    rw out (none_passes q xs (λ j lt. h (suc j) (omega arith)))

pub rows_none : (pair : ℕ → ℕ × ℕ) (order : List ℕ) (edges : List (ℕ × ℕ)) (rows : List (List ℕ)) → edges ≡ [] →
    rows ≡ [] → AreRowsOf pair order 0 edges rows
rows_none pair order edges rows none empty =
    record { rows_are = empty ∙ ap (map (running pair (take 0 order))) (sym none); total = ap (sum_by length) empty }

pub rows_len : (pair : ℕ → ℕ × ℕ) (order : List ℕ) (k : ℕ) (edges : List (ℕ × ℕ)) (rows : List (List ℕ)) →
    AreRowsOf pair order k edges rows → length rows ≡ length edges
rows_len pair order k edges rows are = ap length are.rows_are ∙ length-map edges (running pair (take k order))

module _ (pair : ℕ → ℕ × ℕ) (order : List ℕ) (k : ℕ) (lt : k < length order) where
  pub running_yes : (p : ℕ × ℕ) → p ≡ pair (get_or order k 0) →
      running pair (take (k + 1) order) p ≡ running pair (take k order) p ++ get_or order k 0 ∷ []
  running_yes p is =
      let s = get_or order k 0 in
      let test = λ (t : ℕ). pair_eq p (pair t) in
      let passes : pair_eq p (pair s) ≡ true = pair_eq-same p (pair s) is in
      let one : filter test (s ∷ []) ≡ s ∷ [] = rw passes refl in
      ap (filter test) (take_more order k 0 lt) ∙ filter-append test (take k order) (s ∷ [])
      ∙ ap (λ r. running pair (take k order) p ++ r) one

  pub running_no : (p : ℕ × ℕ) → (p ≡ pair (get_or order k 0) → ⊥) →
      running pair (take (k + 1) order) p ≡ running pair (take k order) p
  running_no p other =
      let s = get_or order k 0 in
      let test = λ (t : ℕ). pair_eq p (pair t) in
      let fails : pair_eq p (pair s) ≡ false = pair_eq-other p (pair s) other in
      let none : filter test (s ∷ []) ≡ [] = rw fails refl in
      ap (filter test) (take_more order k 0 lt) ∙ filter-append test (take k order) (s ∷ [])
      ∙ ap (λ r. running pair (take k order) p ++ r) none ∙ append-nil (running pair (take k order) p)

  module _ (edges : List (ℕ × ℕ)) (rows : List (List ℕ)) (are : AreRowsOf pair order k edges rows) where
    pub row_at : (e : ℕ) (d : List ℕ) → e < length edges →
        get_or rows e d ≡ running pair (take k order) (get_or edges e (0, 0))
    row_at e d in' = ap (λ (r : List (List ℕ)). get_or r e d) are.rows_are
        ∙ get_or-map (running pair (take k order)) edges e (0, 0) d in'

    pub rows_same : 0 < length edges → AllPairs (λ p q. pair_lt p q ≡ true) edges →
        get_or edges (length edges - 1) (0, 0) ≡ pair (get_or order k 0) →
        AreRowsOf pair order (k + 1) edges (with_last_longer rows (get_or order k 0))
    rows_same some rises last =
        let s = get_or order k 0 in
        let n = length rows - 1 in
        let size = rows_len pair order k edges rows are in
        let longer = get_or rows n [] ++ s ∷ [] in
        let after = running pair (take (k + 1) order) in
        let kept = length-set rows n longer in
        let at_last : get_or edges n (0, 0) ≡ pair s = ap (λ m. get_or edges (m - 1) (0, 0)) size ∙ last in
        let one = sum_by-set {X = List ℕ} length rows n longer [] (omega arith) in
        record {
          rows_are = same_lists (with_last_longer rows s) (map after edges) (kept ∙ size
              ∙ sym (length-map edges after)) (λ e d below.
              let in' : e < length edges = omega arith in
              elim (cases_eq e n) [
                | inl is ↦
                    rw is (get_or-set_same rows n longer d (omega arith)
                    ∙ ap (λ r. r ++ s ∷ []) (row_at n [] (omega arith))
                    ∙ sym (running_yes (get_or edges n (0, 0)) at_last)
                    ∙ sym (get_or-map after edges n (0, 0) d (omega arith)))
                | inr ne ↦
                    let apart : get_or edges e (0, 0) ≡ pair s → ⊥ =
                    λ same. pair_lt-irreflexive (get_or edges e (0, 0)) (get_or edges n (0, 0))
                    (rises e n (0, 0) (omega arith) (omega arith)) (same ∙ sym at_last) in
                    get_or-set_other rows n e longer d ne ∙ row_at e d in'
                    ∙ sym (running_no (get_or edges e (0, 0)) apart) ∙ sym (get_or-map after edges e (0, 0) d in')
              ]);
          total = omega (arith, one, are.total, length_push (get_or rows n []) s);
        }

    pub rows_new : AllPairs (λ p q. pair_lt p q ≡ true) (edges ++ pair (get_or order k 0) ∷ []) →
        ((j : ℕ) → j < k → (e : ℕ) × (e < length edges) × (get_or edges e (0, 0) ≡ pair (get_or order j 0))) →
        AreRowsOf pair order (k + 1) (edges ++ pair (get_or order k 0) ∷ []) (rows ++ (get_or order k 0 ∷ []) ∷ [])
    rows_new rises known =
        let s = get_or order k 0 in
        let p = pair s in
        let n = length edges in
        let size = rows_len pair order k edges rows are in
        let after = running pair (take (k + 1) order) in
        let long = length_push edges p in
        let last : get_or (edges ++ p ∷ []) n (0, 0) ≡ p = get_or_push edges p (0, 0) n refl in
        let apart : (e : ℕ) → e < n → get_or edges e (0, 0) ≡ p → ⊥ =
        λ e below same. pair_lt-irreflexive (get_or (edges ++ p ∷ []) e (0, 0)) (get_or (edges ++ p ∷ []) n (0, 0))
        (rises e n (0, 0) below (omega arith)) (get_or_append_left edges (p ∷ []) (0, 0) e below ∙ same
        ∙ sym last) in
        let few : length (take k order) ≡ k = length-take-le k order (omega arith) in
        let none : running pair (take k order) p ≡ [] = none_passes (λ t. pair_eq p (pair t)) (take k order) (λ j below.
        let early : j < k = omega arith in
        let r = known j early in
        pair_eq-other p (pair (get_or (take k order) j 0))
        (λ same. apart r.0 r.1 (r.2 ∙ ap pair (sym (get_or-take k order j 0 early)) ∙ sym same))) in
        record {
          rows_are = same_lists (rows ++ (s ∷ []) ∷ []) (map after (edges ++ p ∷ [])) (length_push rows (s ∷ [])
              ∙ ap (λ m. m + 1) size ∙ sym long ∙ sym (length-map (edges ++ p ∷ []) after)) (λ e d below.
              let many = length_push rows (s ∷ []) in
              elim (cases_eq e n) [
                | inl is ↦
                    rw is (get_or_push rows (s ∷ []) d n size ∙ ap (λ r. r ++ s ∷ []) (sym none)
                    ∙ sym (running_yes p refl) ∙ ap after (sym last)
                    ∙ sym (get_or-map after (edges ++ p ∷ []) n (0, 0) d (omega arith)))
                | inr ne ↦
                    let in' : e < n = omega arith in
                    get_or_append_left rows ((s ∷ []) ∷ []) d e (omega arith) ∙ row_at e d in'
                    ∙ sym (running_no (get_or edges e (0, 0)) (apart e in'))
                    ∙ ap after (sym (get_or_append_left edges (p ∷ []) (0, 0) e in'))
                    ∙ sym (get_or-map after (edges ++ p ∷ []) e (0, 0) d (omega arith))
              ]);
          total = omega (arith, are.total, sum_by_push {X = List ℕ} length rows (s ∷ []));
        }
