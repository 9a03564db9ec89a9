-- Quotients of spaces of vectors, and the choice by images.
use Rattle.surf_surfaces.proofs.Common.{◌≡◌, ℕ, Bool, true, false, cond, List, [], ◌∷◌, ◌++◌, map, Decides, ◌⊎◌, inl, inr, refl, sym, ap, ◌∙◌, subst, AllByRecursion, cases_Bool, xor, spans, greedy_after, greedy, Space, IsLinear}
use Rattle.std.proofs.lemmas.List.{append_assoc}
use Rattle.surf_z2.specs.Sieve.{reduce}
use Rattle.surf_z2.proofs.Basics.{in_left, in_right, in_last_first, in_first_last}
use Rattle.surf_z2.proofs.Greedy.{in_from_spans, spans_from_in, not_in_from_spans, not_spans, greedy_law}
use Rattle.surf_z2.proofs.Sieve.{sieve_law}
use Rattle.surf_z2.proofs.Span.{InSpan, AllInSpan, Free, head_in, refl_in, rest_in, left_comm, meet, in_from_spanned, spanned_from_in, free_from_independent, independent_from_free}
use Rattle.surf_caps.specs.Quotients.{IsQuotient, QuotientLaw, QuotientChoice, SievesAreQuotients}

-- ---- a vector more or less in the middle of a list

module _ {V : Type 0} (S : Space V) where
  widen : (xs : List V) (y : V) (ys : List V) (v : V) → InSpan S (xs ++ ys) v → InSpan S (xs ++ y ∷ ys) v
  widen [] y ys v h = inl h
  widen (x ∷ xs) y ys v (inl h) = inl (widen xs y ys v h)
  widen (x ∷ xs) y ys v (inr h) = inr (widen xs y ys (S.add x v) h)

  without : (xs : List V) (y : V) (ys : List V) (v : V) → InSpan S (xs ++ y ∷ ys) v →
      InSpan S (xs ++ ys) v ⊎ InSpan S (xs ++ ys) (S.add y v)
  without [] y ys v h = h
  without (x ∷ xs) y ys v (inl h) = elim (without xs y ys v h) [ inl k ↦ inl (inl k) | inr k ↦ inr (inl k) ]
  without (x ∷ xs) y ys v (inr h) = elim (without xs y ys (S.add x v) h) [
    | inl k ↦ inl (inr k)
    | inr k ↦ inr (inr (subst (InSpan S (xs ++ ys)) (left_comm S y x v) k))
  ]

  own_in : (xs : List V) (y : V) (ys : List V) → InSpan S (xs ++ y ∷ ys) y
  own_in xs y ys = in_right S xs (y ∷ ys) y (head_in S y ys)

  -- no member of independent vectors is a sum of the others
  apart : (xs : List V) (y : V) (ys : List V) → Free S (xs ++ y ∷ ys) → InSpan S (xs ++ ys) y → ⊥
  apart [] y ys f h = f.0 h
  apart (x ∷ xs) y ys f (inl h) = apart xs y ys f.1 h
  apart (x ∷ xs) y ys f (inr h) =
      f.0 (rest_in S (xs ++ y ∷ ys) y x (own_in xs y ys)
      (subst (InSpan S (xs ++ y ∷ ys)) (S.comm x y) (widen xs y ys (S.add x y) h)))

  free_out : (xs : List V) (y : V) (ys : List V) → Free S (xs ++ y ∷ ys) → Free S (xs ++ ys)
  free_out [] y ys f = f.1
  free_out (x ∷ xs) y ys f = (λ h. f.0 (widen xs y ys x h), free_out xs y ys f.1)

  free_in : (xs : List V) (y : V) (ys : List V) → Free S (xs ++ ys) → (InSpan S (xs ++ ys) y → ⊥) →
      Free S (xs ++ y ∷ ys)
  free_in [] y ys f new = (new, f)
  free_in (x ∷ xs) y ys f new = (
    λ h. elim (without xs y ys x h) [
      | inl k ↦ f.0 k
      | inr k ↦ new (inr (subst (InSpan S (xs ++ ys)) (S.comm y x) k))
    ],
    free_in xs y ys f.1 (λ h. new (inl h)),
  )

-- ---- images

module _ {V W : Type 0} (S : Space V) (T : Space W) (image : V → W) where
  image_in : IsLinear S T image → (ys : List V) (v : V) → InSpan S ys v → InSpan T (map image ys) (image v)
  image_in linear [] v h = ap image h ∙ linear.zero
  image_in linear (y ∷ ys) v (inl h) = inl (image_in linear ys v h)
  image_in linear (y ∷ ys) v (inr h) =
      inr (subst (InSpan T (map image ys)) (linear.add y v) (image_in linear ys (S.add y v) h))

  -- vectors with the image zero may be left out
  left_out : IsLinear S T image → (xs ys : List V) (v : V) → AllByRecursion (λ x. image x ≡ T.zero) xs →
      InSpan S (xs ++ ys) v → InSpan T (map image ys) (image v)
  left_out linear [] ys v a h = image_in linear ys v h
  left_out linear (x ∷ xs) ys v a (inl h) = left_out linear xs ys v a.1 h
  left_out linear (x ∷ xs) ys v a (inr h) =
      subst (InSpan T (map image ys))
      (linear.add x v ∙ ap (λ w. T.add w (image v)) a.0 ∙ T.unit (image v))
      (left_out linear xs ys (S.add x v) a.1 h)

  module _ (xs : List V) (q : IsQuotient S T image xs) where
    zeros : (zs : List V) → AllInSpan S xs zs → AllByRecursion (λ x. image x ≡ T.zero) zs
    zeros [] a = tt
    zeros (z ∷ zs) a = ((q.kernel z).1 (spanned_from_in S xs z a.0), zeros zs a.1)

    pub to_image : (ys : List V) (v : V) → InSpan S (xs ++ ys) v → InSpan T (map image ys) (image v)
    to_image ys v h = left_out q.linear xs ys v (zeros xs (refl_in S xs)) h

    pub from_image : (ys : List V) (v : V) → InSpan T (map image ys) (image v) → InSpan S (xs ++ ys) v
    from_image [] v h = in_left S xs [] v (in_from_spanned S xs v ((q.kernel v).0 h))
    from_image (y ∷ ys) v (inl h) = widen S xs y ys v (from_image ys v h)
    from_image (y ∷ ys) v (inr h) =
        rest_in S (xs ++ y ∷ ys) y v (own_in S xs y ys)
        (widen S xs y ys (S.add y v)
        (from_image ys (S.add y v) (subst (InSpan T (map image ys)) (sym (q.linear.add y v)) h)))

    free_images : (ys : List V) → Free S (xs ++ ys) → Free T (map image ys)
    free_images [] f = tt
    free_images (y ∷ ys) f = (
      λ h. apart S xs y ys f (from_image ys y h),
      free_images ys (free_out S xs y ys f),
    )

    free_joined : (ys : List V) → Free S (xs ++ []) → Free T (map image ys) → Free S (xs ++ ys)
    free_joined [] own f = own
    free_joined (y ∷ ys) own f =
        free_in S xs y ys (free_joined ys own f.1) (λ h. f.0 (to_image ys y h))

  free_nil : (xs : List V) → Free S xs → Free S (xs ++ [])
  free_nil [] f = tt
  free_nil (x ∷ xs) f = (λ h. f.0 (nil_in xs x h), free_nil xs f.1)
    where
      nil_in : (xs : List V) (v : V) → InSpan S (xs ++ []) v → InSpan S xs v
      nil_in [] v h = h
      nil_in (x ∷ xs) v (inl h) = inl (nil_in xs v h)
      nil_in (x ∷ xs) v (inr h) = inr (nil_in xs (S.add x v) h)

  pub quotient_law : QuotientLaw S T image
  quotient_law = record {
    spanned = λ xs ys v q. (
      λ h. spanned_from_in T (map image ys) (image v)
          (to_image xs q ys v (in_from_spanned S (xs ++ ys) v h)),
      λ h. spanned_from_in S (xs ++ ys) v
          (from_image xs q ys v (in_from_spanned T (map image ys) (image v) h)),
    );
    independent = λ xs ys q own. (
      λ h. independent_from_free T (map image ys)
          (free_images xs q ys (free_from_independent S (xs ++ ys) h)),
      λ h. independent_from_free S (xs ++ ys)
          (free_joined xs q ys (free_nil xs (free_from_independent S xs own))
          (free_from_independent T (map image ys) h)),
    );
  }

-- ---- the choice

module _ {V : Type 0} (S : Space V) (is_zero : V → Bool) {C : Type 0} (vector : C → V) where
  greedy-append : (before : List V) (cs ds : List C) → greedy_after S is_zero vector before (cs ++ ds)
      ≡ greedy_after S is_zero vector before cs
      ++ greedy_after S is_zero vector (before ++ map vector (greedy_after S is_zero vector before cs)) ds
  greedy-append before [] ds = ap (λ vs. greedy_after S is_zero vector vs ds) (sym (append-nothing before))
    where
      append-nothing : (vs : List V) → vs ++ [] ≡ vs
      append-nothing [] = refl
      append-nothing (v ∷ vs) = ap (λ ws. v ∷ ws) (append-nothing vs)
  greedy-append before (c ∷ cs) ds = elim (cases_Bool (spans S is_zero before (vector c))) [
    | inl old ↦ rw old (greedy-append before cs ds)
    | inr new ↦
        let more = before ++ vector c ∷ [] in
        rw new (ap (λ es. c ∷ es) (greedy-append more cs ds
        ∙ ap (λ vs. greedy_after S is_zero vector more cs ++ greedy_after S is_zero vector vs ds)
        (append_assoc before (vector c ∷ []) (map vector (greedy_after S is_zero vector more cs)))))
  ]

module _ {V W : Type 0} (S : Space V) (T : Space W) (image : V → W) (linear : IsLinear S T image) (is_zero : V → Bool)
    (right : (v : V) → Decides (is_zero v) (v ≡ S.zero)) (is_zero_there : W → Bool)
    (right_there : (w : W) → Decides (is_zero_there w) (w ≡ T.zero)) {C : Type 0} (vector : C → V) where
  -- both lists span the same, one of them by images
  record SameSpan (before : List V) (after : List W) : Type 0 where
    there : (v : V) → InSpan S before v → InSpan T after (image v)
    back : (v : V) → InSpan T after (image v) → InSpan S before v

  same_test : (before : List V) (after : List W) (v : V) → SameSpan before after →
      spans S is_zero before v ≡ spans T is_zero_there after (image v)
  same_test before after v same = elim (cases_Bool (spans S is_zero before v)) [
    | inl old ↦ old ∙ sym (spans_from_in T is_zero_there right_there after (image v)
        (same.there v (in_from_spans S is_zero right before v old)))
    | inr new ↦ new ∙ sym (not_spans T is_zero_there right_there after (image v)
        (λ h. not_in_from_spans S is_zero right before v new (same.back v h)))
  ]

  one_more : (before : List V) (after : List W) (y : V) → SameSpan before after →
      SameSpan (before ++ y ∷ []) (after ++ image y ∷ [])
  one_more before after y same = record {
    there = λ v h. in_first_last T after (image y) (image v) (elim (in_last_first S before y v h) [
      | inl k ↦ inl (same.there v k)
      | inr k ↦ inr (subst (InSpan T after) (linear.add y v) (same.there (S.add y v) k))
    ]);
    back = λ v h. in_first_last S before y v (elim (in_last_first T after (image y) (image v) h) [
      | inl k ↦ inl (same.back v k)
      | inr k ↦ inr (same.back (S.add y v) (subst (InSpan T after) (sym (linear.add y v)) k))
    ]);
  }

  same_choice : (before : List V) (after : List W) (ds : List C) → SameSpan before after →
      greedy_after S is_zero vector before ds ≡ greedy_after T is_zero_there (λ c. image (vector c)) after ds
  same_choice before after [] same = refl
  same_choice before after (d ∷ ds) same =
      let e = same_test before after (vector d) same in
      elim (cases_Bool (spans S is_zero before (vector d))) [
        | inl old ↦ rw (old, sym e ∙ old) (same_choice before after ds same)
        | inr new ↦ rw (new, sym e ∙ new) (ap (λ es. d ∷ es)
            (same_choice (before ++ vector d ∷ []) (after ++ image (vector d) ∷ []) ds
            (one_more before after (vector d) same)))
      ]

module _ {V W : Type 0} (S : Space V) (T : Space W) (image : V → W) (is_zero : V → Bool)
    (right : (v : V) → Decides (is_zero v) (v ≡ S.zero)) (is_zero_there : W → Bool)
    (right_there : (w : W) → Decides (is_zero_there w) (w ≡ T.zero)) {C : Type 0} (vector : C → V) where
  pub quotient_choice : QuotientChoice S T image is_zero is_zero_there vector
  quotient_choice cs ds q =
      let kept = greedy S is_zero vector cs in
      let law = greedy_law S is_zero right vector in
      greedy-append S is_zero vector [] cs ds
      ∙ ap (λ es. kept ++ es)
      (same_choice S T image q.linear is_zero right is_zero_there right_there vector (map vector kept) [] ds (record {
        there = λ v h. (q.kernel v).1 ((law.same_span cs v).1 (spanned_from_in S (map vector kept) v h));
        back = λ v h. in_from_spanned S (map vector kept) v ((law.same_span cs v).0 ((q.kernel v).0 h));
      }))

-- ---- sieves

module _ {V : Type 0} (S : Space V) (is_member : V → ℕ → Bool) (member-add : (x y : V) (k : ℕ) →
    is_member (S.add x y) k ≡ xor (is_member x k) (is_member y k)) {R : Type 0} (pivot : R → ℕ) (reduced : R → V)
    (original : R → V) where
  reduce-add : (rows : List R) (x y : V) → reduce S is_member pivot reduced rows (S.add x y)
      ≡ S.add (reduce S is_member pivot reduced rows x) (reduce S is_member pivot reduced rows y)
  reduce-add [] x y = refl
  reduce-add (r ∷ rs) x y =
      ap (λ b. reduce S is_member pivot reduced rs (cond b (S.add (reduced r) (S.add x y)) (S.add x y)))
      (member-add x y (pivot r))
      ∙ ap (reduce S is_member pivot reduced rs) (step (is_member x (pivot r)) (is_member y (pivot r)))
      ∙ reduce-add rs (cond (is_member x (pivot r)) (S.add (reduced r) x) x)
      (cond (is_member y (pivot r)) (S.add (reduced r) y) y)
    where
      step : (a b : Bool) → cond (xor a b) (S.add (reduced r) (S.add x y)) (S.add x y)
          ≡ S.add (cond a (S.add (reduced r) x) x) (cond b (S.add (reduced r) y) y)
      step true true = sym (meet S (reduced r) x y)
      step true false = sym (S.assoc (reduced r) x y)
      step false true = left_comm S (reduced r) x y
      step false false = refl

  reduce-zero : (rows : List R) → reduce S is_member pivot reduced rows S.zero ≡ S.zero
  reduce-zero rows =
      ap (reduce S is_member pivot reduced rows) (sym (S.self S.zero))
      ∙ reduce-add rows S.zero S.zero ∙ S.self (reduce S is_member pivot reduced rows S.zero)

  pub sieves_are_quotients : SievesAreQuotients S is_member pivot reduced original
  sieves_are_quotients rows sieve = record {
    linear = record { zero = reduce-zero rows; add = reduce-add rows };
    kernel = λ v. (sieve_law S is_member member-add pivot reduced original).spanned rows v sieve;
  }
