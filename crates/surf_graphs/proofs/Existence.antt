-- Each cell complex has a tree, a cotree and left edges.
use Rattle.std.proofs.Common.{◌≡◌, ℕ, zero, suc, ◌+◌, ◌<◌, Bool, true, false, not, ◌&&◌, refl, sym, ◌∙◌, ap, arith, inl, inr, List, [], ◌∷◌, ◌++◌, length, get_or, length-append}
use Rattle.std.proofs.lemmas.Bool.{cases_eq, cases_Bool, and_parts, false≢true, false_from_ne_true, not-true}
use Rattle.std.proofs.lemmas.List.{get_or_append_left, get_or_push}
use Rattle.surf_graphs.specs.Trees.{in_tree}
use Rattle.surf_graphs.specs.Cells.{Cells, primal, dual, IsCellComplex, Split, IsSplit}
use Rattle.surf_graphs.proofs.Trees.{tree_edge}
use Rattle.surf_graphs.proofs.CellLaws.{outside_joins}
use Rattle.surf_graphs.proofs.HeaviestTrees.{heaviest_tree}

-- the list has the numbers below n that pass, in order
record Listing (n : ℕ) (p : ℕ → Bool) (xs : List ℕ) : Type 0 where
  inside : (k : ℕ) → k < length xs → (get_or xs k 0 < n) × (p (get_or xs k 0) ≡ true)
  whole : (i : ℕ) → i < n → p i ≡ true → (k : ℕ) × (k < length xs) × (get_or xs k 0 ≡ i)
  rises : (i j : ℕ) → i < j → j < length xs → get_or xs i 0 < get_or xs j 0

skip : (n : ℕ) (p : ℕ → Bool) (xs : List ℕ) → Listing n p xs → p n ≡ false → Listing (suc n) p xs
skip n p xs ok out = record {
  inside = λ k l. let old = ok.inside k l in (omega (arith, old.0), old.1);
  whole = λ i l pi. elim (cases_eq i n) [
    | inl same ↦ absurd (false≢true (sym out ∙ (ap p (sym same) ∙ pi)))
    | inr ne ↦ ok.whole i (omega arith) pi
  ];
  rises = ok.rises;
}

push : (n : ℕ) (p : ℕ → Bool) (xs : List ℕ) → Listing n p xs → p n ≡ true → Listing (suc n) p (xs ++ (n ∷ []))
push n p xs ok on =
    let size : length (xs ++ (n ∷ [])) ≡ length xs + 1 = length-append xs (n ∷ []) in
    let new : get_or (xs ++ (n ∷ [])) (length xs) 0 ≡ n = get_or_push xs n 0 (length xs) refl in
    let old : (k : ℕ) → k < length xs → get_or (xs ++ (n ∷ [])) k 0 ≡ get_or xs k 0 =
    λ k l. get_or_append_left xs (n ∷ []) 0 k l in
    record {
      inside = λ k l. elim (cases_eq k (length xs)) [
        | inl same ↦ rw (same, new) (omega arith, on)
        | inr ne ↦
            let below : k < length xs = omega arith in
            let is = ok.inside k below in
            rw (old k below) (omega (arith, is.0), is.1)
      ];
      whole = λ i l pi. elim (cases_eq i n) [
        | inl same ↦ (length xs, omega arith, new ∙ sym same)
        | inr ne ↦ let (k, lk, is) = ok.whole i (omega arith) pi in (k, omega arith, old k lk ∙ is)
      ];
      rises = λ i j below l. elim (cases_eq j (length xs)) [
        | inl same ↦
            let li : i < length xs = omega arith in
            rw (same, new, old i li) (ok.inside i li).0
        | inr ne ↦
            let lj : j < length xs = omega arith in
            rw (old i (omega arith), old j lj) (ok.rises i j below lj)
      ];
    }

listing : (n : ℕ) (p : ℕ → Bool) → (xs : List ℕ) × Listing n p xs
listing zero p = (
  [],
  record {
    inside = λ k l. absurd (omega arith);
    whole = λ i l pi. absurd (omega arith);
    rises =
        λ i j b l. absurd (omega arith);
  },
)
listing (suc n) p =
    let (xs, ok) = listing n p in
    elim (cases_Bool (p n)) [
      | inl on ↦ (xs ++ (n ∷ []), push n p xs ok on)
      | inr out ↦ (xs, skip n p xs ok out)
    ]

-- each cells has a tree, a cotree and left edges
pub split_exists : (s : Cells) → IsCellComplex s → 0 < s.vertices → 0 < s.faces → (d : Split) × IsSplit s d
split_exists s ok lv lf =
    let t = heaviest_tree (λ x y. true) (λ x y. inl refl) (λ x y z h k. refl) (primal s) (λ e. true) 0 lv ok.primal_ends
    (λ set stays. ok.primal_connected set (λ e l. stays e l refl)) in
    let in_t : ℕ → Bool = in_tree (primal s) t.tree in
    let c = heaviest_tree (λ x y. true) (λ x y. inl refl) (λ x y z h k. refl) (dual s)
    (λ e. not (in_t e)) 0 lf ok.dual_ends
    (λ set stays. outside_joins s ok t.tree t.is set (λ e l out. stays e l (rw out))) in
    let in_c : ℕ → Bool = in_tree (dual s) c.tree in
    let (xs, list) = listing s.edges (λ e. not (in_t e) && not (in_c e)) in
    let parts : (k : ℕ) → k < length xs → (not (in_t (get_or xs k 0)) ≡ true) × (not (in_c (get_or xs k 0)) ≡ true) =
    λ k l. and_parts _ _ (list.inside k l).1 in (
      record { tree = t.tree; cotree = c.tree; left = xs },
      record {
        tree_is = t.is;
        cotree_is = c.is;
        apart = λ e l yes_t. false_from_ne_true (in_c e) (λ yes_c.
            let (n, ln, ne, is) = tree_edge (dual s) c.tree e yes_c in
            let out : not (in_t e) ≡ true = rw is at (c.over n ln (λ z. ne (z ∙ sym c.at_root))) in
            false≢true (sym (not-true (in_t e) out) ∙ yes_t));
        left_rises = list.rises;
        left_in = λ k l. (list.inside k l).0;
        left_outside = λ k l. not-true (in_t (get_or xs k 0)) (parts k l).0;
        left_outside_dual = λ k l. not-true (in_c (get_or xs k 0)) (parts k l).1;
        left_whole = λ e l out_t out_c. list.whole e l (rw (out_t, out_c));
      },
    )
