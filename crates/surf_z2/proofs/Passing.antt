-- Spans and choices of those members of a list that pass a test.
use Rattle.surf_z2.proofs.Common.{◌≡◌, ℕ, zero, suc, ◌+◌, ◌<◌, Bool, true, false, cond, List, [], ◌∷◌, ◌++◌, length, map, filter, take, get_or, Contains, Decides, refl, sym, ap, ◌∙◌, subst, arith, ◌⊎◌, inl, inr, cases_Bool, false≢true, Space, merge_from, merge, spans, greedy_after}
use Rattle.std.specs.List.{AllByRecursion, range_with_len}
use Rattle.std.proofs.lemmas.List.{map-id}
use Rattle.surf_z2.proofs.Span.{InSpan, AllInSpan}
use Rattle.surf_z2.proofs.Linear.{passing_in}
use Rattle.surf_z2.proofs.Merge.{Sorted, all_merged, merge_head}

module _ {X : Type 0} (p : X → Bool) where
  -- some member passes, or none does
  pub some_or_none : (xs : List X) → ((x : X) × Contains xs x × (p x ≡ true)) ⊎ AllByRecursion (λ x. p x ≡ false) xs
  some_or_none [] = inr tt
  some_or_none (x ∷ xs) = elim (cases_Bool (p x)) [
    | inl is ↦ inl (x, (0, omega arith, refl), is)
    | inr out ↦ elim (some_or_none xs) [
      | inl r ↦ inl (r.0, (suc r.1.0, omega (arith, r.1.1), r.1.2), r.2)
      | inr none ↦ inr (out, none)
    ]
  ]

  pub filter_all : (xs : List X) → AllByRecursion (λ x. p x ≡ true) xs → filter p xs ≡ xs
  filter_all [] h = refl
  filter_all (x ∷ xs) h = rw h.0 (ap (λ ys. x ∷ ys) (filter_all xs h.1))

  pub filter_none : (xs : List X) → AllByRecursion (λ x. p x ≡ false) xs → filter p xs ≡ []
  filter_none [] h = refl
  filter_none (x ∷ xs) h = rw h.0 (filter_none xs h.1)

  -- those that pass stand before the others
  abbrev pub ArePassingFirst : List X → Type 0
  ArePassingFirst [] = Unit {0}
  ArePassingFirst (x ∷ xs) = (p x ≡ false → AllByRecursion (λ y. p y ≡ false) xs) × ArePassingFirst xs

  -- what holds of all holds of those that pass
  pub all_filtered : (P : X → Type 0) (xs : List X) → AllByRecursion P xs → AllByRecursion P (filter p xs)
  all_filtered P [] h = tt
  all_filtered P (x ∷ xs) h = split (p x) (all_filtered P xs h.1)
    where
      split : (b : Bool) → AllByRecursion P (filter p xs) → AllByRecursion P (cond b (x ∷ filter p xs) (filter p xs))
      split true r = (h.0, r)
      split false r = r

module _ {V : Type 0} (S : Space V) {C : Type 0} (vector : C → V) where
  -- a member that passes is among those that pass
  pub member_in : (p : C → Bool) (cs : List C) (c : C) → Contains cs c → p c ≡ true →
      InSpan S (map vector (filter p cs)) (vector c)
  member_in p cs c has is =
      subst (λ d. InSpan S (map vector (filter p cs)) (vector d)) has.2
      (passing_in S vector p cs has.0 c has.1 (ap p has.2 ∙ is))

  -- what spans each one that passes spans all of them
  pub all_passing : (xs : List V) (p : C → Bool) (cs : List C) →
      AllByRecursion (λ c. p c ≡ true → InSpan S xs (vector c)) cs → AllInSpan S xs (map vector (filter p cs))
  all_passing xs p [] h = tt
  all_passing xs p (c ∷ cs) h = split (p c) h.0 (all_passing xs p cs h.1)
    where
      split : (b : Bool) → (b ≡ true → InSpan S xs (vector c)) → AllInSpan S xs (map vector (filter p cs)) →
          AllInSpan S xs (map vector (cond b (c ∷ filter p cs) (filter p cs)))
      split true here r = (here refl, r)
      split false here r = r

  module _ (comes_before : C → C → Bool) (transitive : (a b c : C) → comes_before a b ≡ true →
      comes_before b c ≡ true → comes_before a c ≡ true) (strict : (c : C) → comes_before c c ≡ false) where
    none_after : (p : C → Bool) (c : C) → ((e : C) → p e ≡ true → comes_before e c ≡ true) → (cs : List C) →
        AllByRecursion (λ e. comes_before c e ≡ true) cs → filter p cs ≡ []
    none_after p c before [] h = refl
    none_after p c before (e ∷ es) h = elim (cases_Bool (p e)) [
      | inl is ↦ absurd (false≢true (sym (strict c) ∙ transitive c e c h.0 (before e is)))
      | inr out ↦ rw out (none_after p c before es h.1)
    ]

    -- where what passes comes before the candidate at a place, it stands before that place
    pub passing_before : (p : C → Bool) (cs : List C) (i : ℕ) (d : C) → Sorted comes_before cs → i < length cs →
        ((e : C) → p e ≡ true → comes_before e (get_or cs i d) ≡ true) → (v : V) →
        InSpan S (map vector (filter p cs)) v → InSpan S (map vector (take i cs)) v
    passing_before p [] i d s l before v h = absurd (omega arith)
    passing_before p (c ∷ cs) zero d s l before v h =
        let self : p c ≡ false = elim (cases_Bool (p c)) [
          | inl is ↦ absurd (false≢true (sym (strict c) ∙ before c is))
          | inr out ↦ out
        ] in
        let none : filter p (c ∷ cs) ≡ [] = rw self (none_after p c before cs s.0) in
        subst (λ es. InSpan S (map vector es) v) none h
    passing_before p (c ∷ cs) (suc i) d s l before v h =
        split (p c) (passing_before p cs i d s.1 (omega arith) before) v h
      where
        split : (b : Bool) →
            ((u : V) → InSpan S (map vector (filter p cs)) u → InSpan S (map vector (take i cs)) u) → (v : V) →
            InSpan S (map vector (cond b (c ∷ filter p cs) (filter p cs))) v →
            InSpan S (vector c ∷ map vector (take i cs)) v
        split true rest v (inl k) = inl (rest v k)
        split true rest v (inr k) = inr (rest (S.add (vector c) v) k)
        split false rest v k = inl (rest v k)

  module _ (is_zero : V → Bool) (right : (v : V) → Decides (is_zero v) (v ≡ S.zero)) where
    -- the choice from those that pass is the choice, where each that is kept passes
    pub greedy_filtered : (p : C → Bool) (before : List V) (cs : List C) →
        AllByRecursion (λ c. p c ≡ true) (greedy_after S is_zero vector before cs) →
        greedy_after S is_zero vector before (filter p cs) ≡ greedy_after S is_zero vector before cs
    greedy_filtered p before [] h = refl
    greedy_filtered p before (c ∷ cs) h = elim (cases_Bool (spans S is_zero before (vector c))) [
      | inl old ↦
          let rest = greedy_filtered p before cs (rw old at h) in
          elim (cases_Bool (p c)) [ inl is ↦ rw (is, old) rest | inr out ↦ rw (out, old) rest ]
      | inr new ↦
          let both : (p c ≡ true)
          × AllByRecursion (λ c. p c ≡ true) (greedy_after S is_zero vector (before ++ vector c ∷ []) cs) = rw new at h in
          rw (both.0, new) (ap (λ es. c ∷ es) (greedy_filtered p (before ++ vector c ∷ []) cs both.1))
    ]

    -- what holds of all holds of those that are kept
    pub all_greedy : (P : C → Type 0) (before : List V) (cs : List C) → AllByRecursion P cs →
        AllByRecursion P (greedy_after S is_zero vector before cs)
    all_greedy P before [] h = tt
    all_greedy P before (c ∷ cs) h =
        split (spans S is_zero before (vector c)) (all_greedy P before cs h.1)
        (all_greedy P (before ++ vector c ∷ []) cs h.1)
      where
        split : (b : Bool) → AllByRecursion P (greedy_after S is_zero vector before cs) →
            AllByRecursion P (greedy_after S is_zero vector (before ++ vector c ∷ []) cs) →
            AllByRecursion P (cond b (greedy_after S is_zero vector before cs)
            (c ∷ greedy_after S is_zero vector (before ++ vector c ∷ []) cs))
        split true r k = r
        split false r k = (h.0, k)

    -- what is kept from a list in order is in order
    pub sorted_greedy : (order : C → C → Bool) (before : List V) (cs : List C) → Sorted order cs →
        Sorted order (greedy_after S is_zero vector before cs)
    sorted_greedy order before [] s = tt
    sorted_greedy order before (c ∷ cs) s =
        split (spans S is_zero before (vector c)) (sorted_greedy order before cs s.1)
        (sorted_greedy order (before ++ vector c ∷ []) cs s.1)
      where
        split : (b : Bool) → Sorted order (greedy_after S is_zero vector before cs) →
            Sorted order (greedy_after S is_zero vector (before ++ vector c ∷ []) cs) →
            Sorted order (cond b (greedy_after S is_zero vector before cs)
            (c ∷ greedy_after S is_zero vector (before ++ vector c ∷ []) cs))
        split true r k = r
        split false r k = (all_greedy (λ e. order c e ≡ true) (before ++ vector c ∷ []) cs s.0, k)

    -- the choice, as far as it passes, is the choice from those that pass
    pub filter_of_greedy : (p : C → Bool) (before : List V) (cs : List C) → ArePassingFirst p cs →
        filter p (greedy_after S is_zero vector before cs) ≡ greedy_after S is_zero vector before (filter p cs)
    filter_of_greedy p before [] h = refl
    filter_of_greedy p before (c ∷ cs) h = elim (cases_Bool (p c)) [
      | inl is ↦ elim (cases_Bool (spans S is_zero before (vector c))) [
        | inl old ↦ rw (is, old) (filter_of_greedy p before cs h.1)
        | inr new ↦ rw (new, is, new) (ap (λ es. c ∷ es) (filter_of_greedy p (before ++ vector c ∷ []) cs h.1))
      ]
      | inr out ↦
          let none : filter p (c ∷ cs) ≡ [] = filter_none p (c ∷ cs) (out, h.0 out) in
          filter_none p (greedy_after S is_zero vector before (c ∷ cs))
          (all_greedy (λ e. p e ≡ false) before (c ∷ cs) (out, h.0 out))
          ∙ ap (greedy_after S is_zero vector before) (sym none)
    ]

module _ {C : Type 0} (comes_before : C → C → Bool) (transitive : (a b c : C) → comes_before a b ≡ true →
    comes_before b c ≡ true → comes_before a c ≡ true) (p : C → Bool) where
  out_from : (c : C) (cs : List C) →
      ((ds : List C) → AllByRecursion (λ d. p d ≡ false) ds → filter p (merge comes_before cs ds) ≡ filter p cs) →
      (ds : List C) → AllByRecursion (λ d. p d ≡ false) ds →
      filter p (merge_from comes_before c (merge comes_before cs) ds) ≡ filter p (c ∷ cs)
  out_from c cs same [] h = ap (λ es. cond (p c) (c ∷ es) es) (same [] tt)
  out_from c cs same (d ∷ ds) h = split (comes_before c d) (out_from c cs same ds h.1)
    where
      split : (b : Bool) → filter p (merge_from comes_before c (merge comes_before cs) ds) ≡ filter p (c ∷ cs) →
          filter p (cond b (c ∷ merge comes_before cs (d ∷ ds))
          (d ∷ merge_from comes_before c (merge comes_before cs) ds)) ≡ filter p (c ∷ cs)
      split true r = ap (λ es. cond (p c) (c ∷ es) es) (same (d ∷ ds) h)
      split false r = rw h.0 r

  -- merged with some of which none passes
  pub filter_merge_out : (cs ds : List C) → AllByRecursion (λ d. p d ≡ false) ds →
      filter p (merge comes_before cs ds) ≡ filter p cs
  filter_merge_out [] ds h = filter_none p ds h
  filter_merge_out (c ∷ cs) ds h = out_from c cs (filter_merge_out cs) ds h

  in_from : (c : C) (cs : List C) → p c ≡ true →
      ((ds : List C) → AllByRecursion (λ d. p d ≡ true) ds →
      filter p (merge comes_before cs ds) ≡ merge comes_before (filter p cs) ds) →
      (ds : List C) → AllByRecursion (λ d. p d ≡ true) ds →
      filter p (merge_from comes_before c (merge comes_before cs) ds)
      ≡ merge_from comes_before c (merge comes_before (filter p cs)) ds
  in_from c cs is same [] h = rw is (ap (λ es. c ∷ es) (same [] tt))
  in_from c cs is same (d ∷ ds) h = split (comes_before c d) (in_from c cs is same ds h.1)
    where
      split : (b : Bool) → filter p (merge_from comes_before c (merge comes_before cs) ds)
          ≡ merge_from comes_before c (merge comes_before (filter p cs)) ds →
          filter p (cond b (c ∷ merge comes_before cs (d ∷ ds))
          (d ∷ merge_from comes_before c (merge comes_before cs) ds))
          ≡ cond b (c ∷ merge comes_before (filter p cs) (d ∷ ds))
          (d ∷ merge_from comes_before c (merge comes_before (filter p cs)) ds)
      split true r = rw is (ap (λ es. c ∷ es) (same (d ∷ ds) h))
      split false r = rw h.0 (ap (λ es. d ∷ es) r)

  past_from : (c : C) (cs : List C) → p c ≡ false → AllByRecursion (λ e. comes_before c e ≡ true) (filter p cs) →
      ((ds : List C) → AllByRecursion (λ d. p d ≡ true) ds →
      filter p (merge comes_before cs ds) ≡ merge comes_before (filter p cs) ds) →
      (ds : List C) → AllByRecursion (λ d. p d ≡ true) ds →
      filter p (merge_from comes_before c (merge comes_before cs) ds) ≡ merge comes_before (filter p cs) ds
  past_from c cs out after same [] h = rw out (same [] tt)
  past_from c cs out after same (d ∷ ds) h =
      split (comes_before c d) refl (past_from c cs out after same ds h.1)
    where
      split : (b : Bool) → comes_before c d ≡ b → filter p (merge_from comes_before c (merge comes_before cs) ds)
          ≡ merge comes_before (filter p cs) ds →
          filter p (cond b (c ∷ merge comes_before cs (d ∷ ds))
          (d ∷ merge_from comes_before c (merge comes_before cs) ds)) ≡ merge comes_before (filter p cs) (d ∷ ds)
      split true e r = rw out (same (d ∷ ds) h)
      split false e r = rw h.0 (ap (λ es. d ∷ es) r
          ∙ sym (merge_head comes_before transitive c d (filter p cs) ds after e))

  -- merged with some that all pass
  pub filter_merge_in : (cs ds : List C) → Sorted comes_before cs → AllByRecursion (λ d. p d ≡ true) ds →
      filter p (merge comes_before cs ds) ≡ merge comes_before (filter p cs) ds
  filter_merge_in [] ds s h = filter_all p ds h
  filter_merge_in (c ∷ cs) ds s h = elim (cases_Bool (p c)) [
    | inl is ↦ rw is (in_from c cs is (λ es k. filter_merge_in cs es s.1 k) ds h)
    | inr out ↦ rw out
        (past_from c cs out (all_filtered p (λ e. comes_before c e ≡ true) cs s.0)
        (λ es k. filter_merge_in cs es s.1 k) ds h)
  ]

  -- those that pass are in order
  pub sorted_filtered : (cs : List C) → Sorted comes_before cs → Sorted comes_before (filter p cs)
  sorted_filtered [] s = tt
  sorted_filtered (c ∷ cs) s = split (p c) (sorted_filtered cs s.1)
    where
      split : (b : Bool) → Sorted comes_before (filter p cs) →
          Sorted comes_before (cond b (c ∷ filter p cs) (filter p cs))
      split true r = (all_filtered p (λ e. comes_before c e ≡ true) cs s.0, r)
      split false r = r

-- an order that may have ties, and one that keeps to it
module _ {C : Type 0} (comes_before no_later : C → C → Bool) (transitive : (a b c : C) → comes_before a b ≡ true →
    comes_before b c ≡ true → comes_before a c ≡ true)
    (goes_on : (a b c : C) → no_later a b ≡ true → no_later b c ≡ true → no_later a c ≡ true)
    (if_before : (c d : C) → comes_before c d ≡ true → no_later c d ≡ true)
    (if_not : (c d : C) → comes_before c d ≡ false → no_later d c ≡ true) where
  all_later : (c d : C) (ds : List C) → no_later c d ≡ true → AllByRecursion (λ e. no_later d e ≡ true) ds →
      AllByRecursion (λ e. no_later c e ≡ true) ds
  all_later c d [] b h = tt
  all_later c d (e ∷ es) b h = (goes_on c d e b h.0, all_later c d es b h.1)

  merged_from : (c : C) (cs : List C) → AllByRecursion (λ e. no_later c e ≡ true) cs →
      ((ds : List C) → Sorted no_later ds → Sorted no_later (merge comes_before cs ds)) → (ds : List C) →
      Sorted no_later ds → Sorted no_later (merge_from comes_before c (merge comes_before cs) ds)
  merged_from c cs h rest [] s =
      (all_merged comes_before transitive (λ e. no_later c e ≡ true) cs [] h tt, rest [] tt)
  merged_from c cs h rest (d ∷ ds) s = split (comes_before c d) refl (merged_from c cs h rest ds s.1)
    where
      split : (b : Bool) → comes_before c d ≡ b →
          Sorted no_later (merge_from comes_before c (merge comes_before cs) ds) →
          Sorted no_later (cond b (c ∷ merge comes_before cs (d ∷ ds))
          (d ∷ merge_from comes_before c (merge comes_before cs) ds))
      split true is r =
          let first = if_before c d is in (
            all_merged comes_before transitive (λ e. no_later c e ≡ true) cs (d ∷ ds) h
                (first, all_later c d ds first s.0),
            rest (d ∷ ds) s,
          )
      split false is r =
          let first = if_not c d is in (
            all_merged comes_before transitive (λ e. no_later d e ≡ true) (c ∷ cs) ds (first, all_later d c cs first h)
                s.0,
            r,
          )

  -- merged by the second, lists in the first order are in the first order
  pub merged_by : (cs ds : List C) → Sorted no_later cs → Sorted no_later ds →
      Sorted no_later (merge comes_before cs ds)
  merged_by [] ds s t = t
  merged_by (c ∷ cs) ds s t = merged_from c cs s.0 (λ es u. merged_by cs es s.1 u) ds t

-- two maps of the numbers that pass two tests, where both agree
pub mapped_same : {X : Type 0} (p q : ℕ → Bool) (f g : ℕ → X) (a n : ℕ) → ((k : ℕ) → k < a + n → p k ≡ q k) →
    ((k : ℕ) → k < a + n → f k ≡ g k) → map f (filter p (range_with_len a n)) ≡ map g (filter q (range_with_len a n))
mapped_same {X} p q f g a zero tests maps = refl
mapped_same {X} p q f g a (suc n) tests maps =
    let rest : map f (filter p (range_with_len (a + 1) n)) ≡ map g (filter q (range_with_len (a + 1) n)) =
    mapped_same p q f g (a + 1) n (λ k l. tests k (omega (arith, l))) (λ k l. maps k (omega (arith, l))) in
    rw (tests a (omega arith)) (pick (q a) rest)
  where
    pick : (b : Bool) → map f (filter p (range_with_len (a + 1) n)) ≡ map g (filter q (range_with_len (a + 1) n)) →
        map f (cond b (a ∷ filter p (range_with_len (a + 1) n)) (filter p (range_with_len (a + 1) n)))
        ≡ map g (cond b (a ∷ filter q (range_with_len (a + 1) n)) (filter q (range_with_len (a + 1) n)))
    pick true rest = rw (maps a (omega arith), rest) refl
    pick false rest = rest

-- tests that agree keep the same numbers
pub filter_same : (p q : ℕ → Bool) (a n : ℕ) → ((k : ℕ) → k < a + n → p k ≡ q k) →
    filter p (range_with_len a n) ≡ filter q (range_with_len a n)
filter_same p q a n same =
    sym (map-id (filter p (range_with_len a n)))
    ∙ mapped_same p q (λ k. k) (λ k. k) a n same (λ k l. refl)
    ∙ map-id (filter q (range_with_len a n))
