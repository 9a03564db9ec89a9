-- Members of a list with tests in whose order they stand: each passes its own and none that comes later.
use Rattle.surf_surfaces.proofs.Common.{◌≡◌, ℕ, zero, suc, ◌<◌, Bool, true, false, ◌&&◌, List, [], ◌∷◌, length, get_or, map, filter, refl, sym, ap, ◌∙◌, arith, inl, inr, cases_Bool, false≢true, true≢false, false_from_ne_true, chosen, xor, odd, and-false, and-true}
use Rattle.surf_z2.proofs.ParityLaws.{xor_back}

-- each member passes its own test, and none that comes later
pub record IsTriangle {X : Type 0} (test : ℕ → X → Bool) (xs : List X) (d : X) : Type 0 where
  pub own : (i : ℕ) → i < length xs → test i (get_or xs i d) ≡ true
  pub later : (i j : ℕ) → i < j → j < length xs → test j (get_or xs i d) ≡ false

-- what passes has only what passes before it
abbrev pub ArePassingFirst : {X : Type 0} → (X → Bool) → List X → X → Type 0
ArePassingFirst fits xs d = (i j : ℕ) → i < j → j < length xs → fits (get_or xs j d) ≡ true → fits (get_or xs i d) ≡ true

module _ {X : Type 0} (d : X) where
  rest_of : (test : ℕ → X → Bool) (x : X) (xs : List X) → IsTriangle test (x ∷ xs) d → IsTriangle (λ j. test (suc j)) xs d
  rest_of test x xs t = record {
    own = λ i l. t.own (suc i) (omega (arith, l));
    later = λ i j lt l. t.later (suc i) (suc j) (omega (arith, lt)) (omega (arith, l));
  }

  odd_chosen : (t : X → Bool) (b : Bool) (bs : List Bool) (x : X) (xs : List X) →
      odd (map t (chosen (b ∷ bs) (x ∷ xs))) ≡ xor (b && t x) (odd (map t (chosen bs xs)))
  odd_chosen t true bs x xs = refl
  odd_chosen t false bs x xs = refl

  -- what is chosen is nothing, where each test is passed by an even number of it
  pub nothing_chosen : (test : ℕ → X → Bool) (xs : List X) (choice : List Bool) → IsTriangle test xs d →
      ((j : ℕ) → j < length xs → odd (map (test j) (chosen choice xs)) ≡ false) → chosen choice xs ≡ []
  nothing_chosen test [] [] t h = refl
  nothing_chosen test [] (b ∷ bs) t h = refl
  nothing_chosen test (x ∷ xs) [] t h = refl
  nothing_chosen test (x ∷ xs) (false ∷ bs) t h =
      nothing_chosen (λ j. test (suc j)) xs bs (rest_of test x xs t) (λ j l. h (suc j) (omega (arith, l)))
  nothing_chosen test (x ∷ xs) (true ∷ bs) t h =
      let none : chosen bs xs ≡ [] =
      nothing_chosen (λ j. test (suc j)) xs bs (rest_of test x xs t) (λ j l.
      ap (λ b. xor b (odd (map (test (suc j)) (chosen bs xs))))
      (sym (t.later 0 (suc j) (omega arith) (omega (arith, l)))) ∙ h (suc j) (omega (arith, l))) in
      let first : test 0 x ≡ true = t.own 0 (omega arith) in
      let even : xor (test 0 x) (odd (map (test 0) (chosen bs xs))) ≡ false = h 0 (omega arith) in
      absurd (true≢false (sym (rw (first, none) refl) ∙ even))

  -- whatever passes tests only up to members that fit, has the tests of a sum of members that fit
  pub some_chosen : (test : ℕ → X → Bool) (fits : X → Bool) (y : ℕ → Bool) (xs : List X) → IsTriangle test xs d →
      ArePassingFirst fits xs d → ((j : ℕ) → j < length xs → y j ≡ true → fits (get_or xs j d) ≡ true) →
      (choice : List Bool) × ((j : ℕ) → j < length xs → y j ≡ odd (map (test j) (chosen choice (filter fits xs))))
  some_chosen test fits y [] t first h = ([], λ j l. absurd (omega (arith, l)))
  some_chosen test fits y (x ∷ xs) t first h = elim (cases_Bool (fits x)) [
    | inl fit ↦
        let r = some_chosen (λ j. test (suc j)) fits (λ j. y (suc j)) xs (rest_of test x xs t)
        (λ i j lt l. first (suc i) (suc j) (omega (arith, lt)) (omega (arith, l)))
        (λ j l. h (suc j) (omega (arith, l))) in
        let b : Bool = xor (y 0) (odd (map (test 0) (chosen r.0 (filter fits xs)))) in
        (b ∷ r.0, λ j l. rw fit (with_first b r.0 r.1 refl j l))
    | inr out ↦ ([], λ j l. false_from_ne_true (y j) (λ on. false≢true (sym out ∙ before j l on)))
  ]
    where
      before : (j : ℕ) → j < suc (length xs) → y j ≡ true → fits x ≡ true
      before zero l on = h zero l on
      before (suc j) l on = first zero (suc j) (omega arith) l (h (suc j) l on)

      with_first : (b : Bool) (bs : List Bool) →
          ((j : ℕ) → j < length xs → y (suc j) ≡ odd (map (test (suc j)) (chosen bs (filter fits xs)))) →
          b ≡ xor (y 0) (odd (map (test 0) (chosen bs (filter fits xs)))) →
          (j : ℕ) → j < suc (length xs) → y j ≡ odd (map (test j) (chosen (b ∷ bs) (x ∷ filter fits xs)))
      with_first b bs is b_is zero l =
          sym (odd_chosen (test 0) b bs x (filter fits xs)
          ∙ ap (λ t. xor (b && t) (odd (map (test 0) (chosen bs (filter fits xs))))) (t.own 0 (omega arith))
          ∙ ap (λ c. xor c (odd (map (test 0) (chosen bs (filter fits xs))))) (and-true b ∙ b_is)
          ∙ xor_back (y 0) (odd (map (test 0) (chosen bs (filter fits xs)))))
      with_first b bs is b_is (suc j) l =
          is j (omega (arith, l))
          ∙ sym (odd_chosen (test (suc j)) b bs x (filter fits xs)
          ∙ ap (λ t. xor (b && t) (odd (map (test (suc j)) (chosen bs (filter fits xs)))))
          (t.later 0 (suc j) (omega arith) l)
          ∙ ap (λ c. xor c (odd (map (test (suc j)) (chosen bs (filter fits xs))))) (and-false b))
