-- The loops at all bases, in order.
use Rattle.surf_surfaces.proofs.Common.{◌≡◌, ℕ, zero, suc, ◌+◌, ◌<◌, ◌≤◌, true, List, [], ◌∷◌, ◌++◌, length, get_or, map, sym, ap, ◌∙◌, subst, arith, inl, inr, ◌⊎◌, IsPermutation, Contains, AllByRecursion, flat_map, range_with_len, cases_eq, append-nil, length-map, merge, Mesh, IsNonDecreasing, Trees, Loop, comes_before, loops_at, loops_below}
use Rattle.std.proofs.lemmas.List.Concat.{flat_map-append, flat_map-cons}
use Rattle.std.proofs.lemmas.List.Sorted.{IsPermutation-sym, IsPermutation-trans, IsPermutation-append_left, Contains-permutation}
use Rattle.surf_z2.proofs.Merge.{Sorted, Comparable, Apart, sorted-permutes, sorted-in_order, sorted_merge, order_from_sorted, comparable_from_sorted, comparable-append, all_sorted, all_joined, same_members, merge_law}
use Rattle.surf_surfaces.proofs.classes.LeastLaws.{all_each}
use Rattle.surf_surfaces.proofs.bases.LoopsAtLaws.{IsLoopAt, comes_before-trans, comes_before-strict, comes_before-size, bases_apart, loops-sorted, loops_each}

range_more : (a n : ℕ) → range_with_len a (suc n) ≡ range_with_len a n ++ (a + n) ∷ []
range_more a zero = ap (λ x. x ∷ []) (omega arith)
range_more a (suc n) =
    ap (λ xs. a ∷ xs) (range_more (a + 1) n ∙ ap (λ x. range_with_len (a + 1) n ++ x ∷ []) (omega arith))

-- a loop at one of the first bases
pub record IsLoopBelow (mesh : Mesh) (lengths : List ℕ) (trees : ℕ → Trees) (bases : ℕ) (c : Loop) : Type 0 where
  pub base_in : c.base < bases
  pub of : IsLoopAt mesh lengths c.base (trees c.base) c

module _ (mesh : Mesh) (lengths : List ℕ) (trees : ℕ → Trees) where
  all_more : (n : ℕ) → flat_map (λ x. loops_at mesh lengths x (trees x)) (range_with_len 0 (suc n))
      ≡ flat_map (λ x. loops_at mesh lengths x (trees x)) (range_with_len 0 n) ++ loops_at mesh lengths n (trees n)
  all_more n =
      ap (flat_map (λ x. loops_at mesh lengths x (trees x)))
      (range_more 0 n ∙ ap (λ m. range_with_len 0 n ++ m ∷ []) (omega arith))
      ∙ flat_map-append (λ x. loops_at mesh lengths x (trees x)) (range_with_len 0 n) (n ∷ [])
      ∙ ap (λ cs. flat_map (λ x. loops_at mesh lengths x (trees x)) (range_with_len 0 n) ++ cs)
      (flat_map-cons (λ x. loops_at mesh lengths x (trees x)) n [] ∙ append-nil (loops_at mesh lengths n (trees n)))

  at_each : (n bases : ℕ) → n < bases →
      AllByRecursion (IsLoopBelow mesh lengths trees bases) (loops_at mesh lengths n (trees n))
  at_each n bases l = all_each (IsLoopAt mesh lengths n (trees n)) (IsLoopBelow mesh lengths trees bases)
      (loops_at mesh lengths n (trees n)) (λ c h.
      let base : n ≡ c.base = sym (ap (λ x. x.base) h.is) in
      record { base_in = omega arith; of = subst (λ x. IsLoopAt mesh lengths x (trees x) c) base h })
      (loops_each mesh lengths n (trees n))

  all_each_below : (n : ℕ) →
      AllByRecursion (IsLoopBelow mesh lengths trees n)
      (flat_map (λ x. loops_at mesh lengths x (trees x)) (range_with_len 0 n))
  all_each_below zero = tt
  all_each_below (suc n) =
      subst (AllByRecursion (IsLoopBelow mesh lengths trees (suc n))) (sym (all_more n))
      (all_joined comes_before comes_before-trans (IsLoopBelow mesh lengths trees (suc n))
      (flat_map (λ x. loops_at mesh lengths x (trees x)) (range_with_len 0 n)) (loops_at mesh lengths n (trees n))
      (all_each (IsLoopBelow mesh lengths trees n) (IsLoopBelow mesh lengths trees (suc n))
      (flat_map (λ x. loops_at mesh lengths x (trees x)) (range_with_len 0 n))
      (λ c h. record { base_in = omega (arith, h.base_in); of = h.of }) (all_each_below n))
      (at_each n (suc n) (omega arith)))

  -- loops at earlier bases and those at a later one
  apart : (n : ℕ) (cs ds : List Loop) → AllByRecursion (IsLoopBelow mesh lengths trees n) cs →
      AllByRecursion (IsLoopAt mesh lengths n (trees n)) ds → Apart comes_before comes_before-trans cs ds
  apart n [] ds h k = tt
  apart n (c ∷ cs) ds h k = (
    all_each (IsLoopAt mesh lengths n (trees n)) (λ d. (comes_before c d ≡ true) ⊎ (comes_before d c ≡ true)) ds
        (λ d g. let base : d.base ≡ n = ap (λ x. x.base) g.is in bases_apart c d (omega (arith, h.0.base_in, base))) k,
    apart n cs ds h.1 k,
  )

  comparable_all : (n : ℕ) →
      Comparable comes_before comes_before-trans
      (flat_map (λ x. loops_at mesh lengths x (trees x)) (range_with_len 0 n))
  comparable_all zero = tt
  comparable_all (suc n) =
      let before = flat_map (λ x. loops_at mesh lengths x (trees x)) (range_with_len 0 n) in
      let next = loops_at mesh lengths n (trees n) in
      subst (Comparable comes_before comes_before-trans) (sym (all_more n))
      (comparable-append comes_before comes_before-trans before next (comparable_all n)
      (comparable_from_sorted comes_before comes_before-trans next (loops-sorted mesh lengths n (trees n)))
      (apart n before next (all_each_below n) (loops_each mesh lengths n (trees n))))

  pub below-sorted : (n : ℕ) → Sorted comes_before (loops_below mesh lengths trees n)
  below-sorted n = sorted-in_order comes_before comes_before-trans
      (flat_map (λ x. loops_at mesh lengths x (trees x)) (range_with_len 0 n)) (comparable_all n)

  pub below_each : (n : ℕ) → AllByRecursion (IsLoopBelow mesh lengths trees n) (loops_below mesh lengths trees n)
  below_each n = all_sorted comes_before comes_before-trans (IsLoopBelow mesh lengths trees n)
      (flat_map (λ x. loops_at mesh lengths x (trees x)) (range_with_len 0 n)) (all_each_below n)

  -- the loops at one more base
  pub below_more : (n : ℕ) → loops_below mesh lengths trees (suc n)
      ≡ merge comes_before (loops_below mesh lengths trees n) (loops_at mesh lengths n (trees n))
  below_more n =
      let before = flat_map (λ x. loops_at mesh lengths x (trees x)) (range_with_len 0 n) in
      let now = loops_below mesh lengths trees n in
      let next = loops_at mesh lengths n (trees n) in
      let law = merge_law comes_before comes_before-trans comes_before-strict in
      let merged = sorted_merge comes_before comes_before-trans now next (below-sorted n)
      (loops-sorted mesh lengths n (trees n)) (apart n now next (below_each n) (loops_each mesh lengths n (trees n))) in
      let one : IsPermutation (loops_below mesh lengths trees (suc n)) (before ++ next) =
      IsPermutation-sym (before ++ next) (loops_below mesh lengths trees (suc n))
      (subst (λ xs. IsPermutation xs (loops_below mesh lengths trees (suc n))) (all_more n)
      (sorted-permutes comes_before (flat_map (λ x. loops_at mesh lengths x (trees x)) (range_with_len 0 (suc n))))) in
      let two : IsPermutation (before ++ next) (now ++ next) =
      IsPermutation-append_left next before now (sorted-permutes comes_before before) in
      let three : IsPermutation (now ++ next) (merge comes_before now next) = same_members comes_before now next in
      law.only_order (loops_below mesh lengths trees (suc n)) (merge comes_before now next)
      (order_from_sorted comes_before (loops_below mesh lengths trees (suc n)) (below-sorted (suc n)))
      (order_from_sorted comes_before (merge comes_before now next) merged)
      (IsPermutation-trans (loops_below mesh lengths trees (suc n)) (before ++ next) (merge comes_before now next) one
      (IsPermutation-trans (before ++ next) (now ++ next) (merge comes_before now next) two three))

  -- each loop at one of the bases is among them
  pub below_contains : (n x : ℕ) → x < n → (c : Loop) → Contains (loops_at mesh lengths x (trees x)) c →
      Contains (loops_below mesh lengths trees n) c
  below_contains zero x l c h = absurd (omega arith)
  below_contains (suc n) x l c h =
      let now = loops_below mesh lengths trees n in
      let next = loops_at mesh lengths n (trees n) in
      let joined : Contains (now ++ next) c = elim (cases_eq x n) [
        | inl e ↦ in_second now next c (subst (λ y. Contains (loops_at mesh lengths y (trees y)) c) e h)
        | inr ne ↦ in_first now next c (below_contains n x (omega arith) c h)
      ] in
      subst (λ cs. Contains cs c) (sym (below_more n))
      (Contains-permutation (now ++ next) (merge comes_before now next) c (same_members comes_before now next) joined)
    where
      in_first : (cs ds : List Loop) (c : Loop) → Contains cs c → Contains (cs ++ ds) c
      in_first [] ds c (k, l, e) = absurd (omega arith)
      in_first (d ∷ cs) ds c (zero, l, e) = (0, omega arith, e)
      in_first (d ∷ cs) ds c (suc k, l, e) = let r = in_first cs ds c (k, omega arith, e) in
          (suc r.0, omega (arith, r.1), r.2)

      in_second : (cs ds : List Loop) (c : Loop) → Contains ds c → Contains (cs ++ ds) c
      in_second [] ds c h = h
      in_second (d ∷ cs) ds c h = let r = in_second cs ds c h in (suc r.0, omega (arith, r.1), r.2)

  -- loops in order are in order of length
  pub rising : (cs : List Loop) → Sorted comes_before cs → IsNonDecreasing (map (λ c. c.size) cs)
  rising cs s i j d le l = in_order cs s i j le (omega (arith, length-map cs (λ c. c.size)))
    where
      any : Loop
      any = record { size = 0; base = 0; edge = 0; walk = [] }

      head_least : (a : ℕ) (c : Loop) (cs : List Loop) → a ≤ c.size → AllByRecursion (λ e. comes_before c e ≡ true) cs →
          (k : ℕ) → k < length cs → a ≤ get_or (map (λ e. e.size) cs) k d
      head_least a c [] h s k l = absurd (omega arith)
      head_least a c (e ∷ cs) h s zero l = let more = comes_before-size c e s.0 in omega (arith, h, more)
      head_least a c (e ∷ cs) h s (suc k) l = head_least a c cs h s.1 k (omega arith)

      in_order : (cs : List Loop) → Sorted comes_before cs → (i j : ℕ) → i ≤ j → j < length cs →
          get_or (map (λ c. c.size) cs) i d ≤ get_or (map (λ c. c.size) cs) j d
      in_order [] s i j le l = absurd (omega arith)
      in_order (c ∷ cs) s zero zero le l = omega arith
      in_order (c ∷ cs) s zero (suc j) le l = head_least c.size c cs (omega arith) s.0 j (omega arith)
      in_order (c ∷ cs) s (suc i) zero le l = absurd (omega arith)
      in_order (c ∷ cs) s (suc i) (suc j) le l = in_order cs s.1 i j (omega arith) (omega arith)
