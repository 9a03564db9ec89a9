-- Loops that have the length and the base of one of some candidates.
use Rattle.surf_basis.proofs.Common.{filter_none, filter_merge_out, sorted_filtered, placed_below, HasBases, ◌≡◌, ℕ, zero, suc, ◌+◌, ◌<◌, ◌≤◌, Bool, true, false, eqb, eqb-true, cond, List, [], ◌∷◌, ◌++◌, length, map, filter, take, get_or, Contains, refl, sym, ap, ◌∙◌, arith, slice_index, false_from_ne_true, map-append, get_or_default, Mesh, loop_length, comes_before, loops_at, loops_below, place_of_loop, filter_more, recursion_from_All, below-sorted, below_more, all_each, IsLoopAt, comes_before-trans, loops-sorted, loops_each, Signed, lengths_at, has_length, is_placed}
use Rattle.surf_search.proofs.Common.{merge, Sorted, Trees, Loop}
use Rattle.surf_basis.proofs.Merged.{filter_merged}

-- one more candidate
pub lengths_more : (found : List Signed) (base i : ℕ) (s : Signed) (old new : List ℕ) → old ≡ lengths_at (take i found) base →
    i < length found → s ≡ get_or found i s → new ≡ old ++ cond (eqb s.candidate.base base) (s.candidate.length ∷ []) [] →
    new ≡ lengths_at (take (i + 1) found) base
lengths_more found base i s old new was l same is =
    let own : Signed → ℕ = λ s. s.candidate.length in
    let here : Signed → Bool = λ s. eqb s.candidate.base base in
    let more : lengths_at (take (i + 1) found) base ≡ lengths_at (take i found) base ++ map own (cond (here s) (s ∷ []) []) =
    ap (map own) (filter_more here found i s l ∙ ap (λ x. filter here (take i found) ++ cond (here x) (x ∷ []) []) (sym same))
    ∙ map-append own (filter here (take i found)) (cond (here s) (s ∷ []) []) in
    is ∙ ap (λ (xs : List ℕ). xs ++ cond (here s) (s.candidate.length ∷ []) []) was
    ∙ ap (λ (xs : List ℕ). lengths_at (take i found) base ++ xs) (mapped (here s)) ∙ sym more
  where
    mapped : (b : Bool) → cond b (s.candidate.length ∷ []) [] ≡ map (λ (s : Signed). s.candidate.length) (cond b (s ∷ []) [])
    mapped true = refl
    mapped false = refl

-- at other vertices than those of a list that has the bases there is no length
pub no_lengths : (bases : List ℕ) (found : List Signed) (x : ℕ) → HasBases bases found →
    ((k : ℕ) → k < length bases → slice_index bases k ≡ x → ⊥) → lengths_at found x ≡ []
no_lengths bases found x has out =
    let here : Signed → Bool = λ s. eqb s.candidate.base x in
    ap (map (λ (s : Signed). s.candidate.length)) (filter_none here found
    (all_each (λ (s : Signed). Contains bases s.candidate.base) (λ s. here s ≡ false) found
    (λ s c. false_from_ne_true (here s) (λ is. out c.0 c.1 (get_or_default bases c.0 0 s.candidate.base c.1 ∙ c.2 ∙ eqb-true s.candidate.base x is)))
    (recursion_from_All (λ (s : Signed). Contains bases s.candidate.base) found has)))

-- ---- the loops that have such places

abbrev pub is_placed_loop : List Signed → Loop → Bool
is_placed_loop found c = is_placed found (place_of_loop c)

module _ (mesh : Mesh) (lengths : List ℕ) (trees : ℕ → Trees) (found : List Signed) where
  -- those at one more vertex
  pub placed_more : (n : ℕ) → placed_below mesh lengths trees found (suc n)
      ≡ merge comes_before (placed_below mesh lengths trees found n) (filter (is_placed_loop found) (loops_at mesh lengths n (trees n)))
  placed_more n = ap (filter (is_placed_loop found)) (below_more mesh lengths trees n)
      ∙ filter_merged comes_before comes_before-trans (is_placed_loop found) (loops_below mesh lengths trees n) (loops_at mesh lengths n (trees n))
      (below-sorted mesh lengths trees n) (loops-sorted mesh lengths n (trees n))

  placed_same : (n : ℕ) → lengths_at found n ≡ [] → placed_below mesh lengths trees found (suc n) ≡ placed_below mesh lengths trees found n
  placed_same n none = ap (filter (is_placed_loop found)) (below_more mesh lengths trees n)
      ∙ filter_merge_out comes_before comes_before-trans (is_placed_loop found) (loops_below mesh lengths trees n) (loops_at mesh lengths n (trees n))
      (all_each (IsLoopAt mesh lengths n (trees n)) (λ c. is_placed_loop found c ≡ false) (loops_at mesh lengths n (trees n))
      (λ c h. ap (is_placed_loop found) h.is ∙ ap (λ ls. has_length ls (loop_length mesh lengths (trees n).tree c.edge)) none)
      (loops_each mesh lengths n (trees n)))

  -- where none of some vertices has such a loop
  pub placed_past : (k n : ℕ) → ((x : ℕ) → n ≤ x → x < n + k → lengths_at found x ≡ []) →
      placed_below mesh lengths trees found (n + k) ≡ placed_below mesh lengths trees found n
  placed_past zero n none = let same : n + zero ≡ n = omega arith in ap (placed_below mesh lengths trees found) same
  placed_past (suc k) n none =
      let one : n + suc k ≡ suc (n + k) = omega arith in
      ap (placed_below mesh lengths trees found) one ∙ placed_same (n + k) (none (n + k) (omega arith) (omega arith))
      ∙ placed_past k n (λ x from to. none x from (omega arith))

  -- they are in order
  pub placed-sorted : (n : ℕ) → Sorted comes_before (placed_below mesh lengths trees found n)
  placed-sorted n = sorted_filtered comes_before comes_before-trans (is_placed_loop found) (loops_below mesh lengths trees n) (below-sorted mesh lengths trees n)
