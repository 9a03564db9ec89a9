-- Lists of increasing numbers, and lists that have all their members.
use Rattle.surf_surfaces.proofs.Common.{◌≡◌, ◌≢◌, ℕ, suc, ◌<◌, true, ◌||◌, eqb, List, [], ◌∷◌, length, IsPermutation, refl, sym, ◌∙◌, subst, arith, inl, inr, AllByRecursion, list_any, cases_Bool, cases_eq, ne_eqb, false≢true}
use Rattle.std.proofs.lemmas.List.Sorted.{IsPermutation-refl, IsPermutation-cons, IsPermutation-trans, IsPermutation-sym, IsPermutation-middle, length_permutation}
use Rattle.surf_surfaces.proofs.classes.CotreeLaws.{Climbs}

-- a list without one place of a number
record TakesOut (x : ℕ) (ys rest : List ℕ) : Type 0 where
  pub same : IsPermutation ys (x ∷ rest)
  pub others : (z : ℕ) → z ≢ x → list_any (eqb z) ys ≡ true → list_any (eqb z) rest ≡ true

take_out : (x : ℕ) (ys : List ℕ) → list_any (eqb x) ys ≡ true → (rest : List ℕ) × TakesOut x ys rest
take_out x [] h = absurd (false≢true h)
take_out x (y ∷ ys) h = elim (cases_eq x y) [
  | inl is ↦ (
    ys,
    record {
      same = subst (λ z. IsPermutation (z ∷ ys) (x ∷ ys)) is (IsPermutation-refl (x ∷ ys));
      others = λ z ne has. rw (ne_eqb z y (λ e. ne (e ∙ sym is))) at has;
    },
  )
  | inr not ↦
      let it = take_out x ys (rw (ne_eqb x y not) at h) in (
        y ∷ it.0,
        record {
          same = IsPermutation-trans (y ∷ ys) (y ∷ x ∷ it.0) (x ∷ y ∷ it.0) (IsPermutation-cons y ys (x ∷ it.0) it.1.same)
              (IsPermutation-middle (y ∷ []) x it.0);
          others = λ z ne has. other z ne (y ∷ []) it.0 it.1 has;
        },
      )
]
  where
    other : (z : ℕ) → z ≢ x → List ℕ → (rest : List ℕ) → TakesOut x ys rest → (eqb z y || list_any (eqb z) ys) ≡ true →
        (eqb z y || list_any (eqb z) rest) ≡ true
    other z ne unused rest it has = elim (cases_Bool (eqb z y)) [
      | inl here ↦ rw here refl
      | inr out ↦ rw out (it.others z ne (rw out at has))
    ]

-- each of the numbers is in the list
abbrev AreIn : List ℕ → List ℕ → Type 0
AreIn xs ys = AllByRecursion (λ x. list_any (eqb x) ys ≡ true) xs

later_in : (x : ℕ) (xs ys rest : List ℕ) → Climbs (suc x) xs → TakesOut x ys rest → AreIn xs ys → AreIn xs rest
later_in x xs ys rest climbs it all = go (suc x) xs (omega arith) climbs all
  where
    go : (low : ℕ) (zs : List ℕ) → x < low → Climbs low zs → AreIn zs ys → AreIn zs rest
    go low [] l c a = tt
    go low (z ∷ zs) l c a =
        (it.others z (λ e. omega (arith, l, c.0, e)) a.0, go (suc z) zs (omega (arith, l, c.0)) c.1 a.1)

pub permuted_where_found : (low : ℕ) (xs ys : List ℕ) → Climbs low xs → AreIn xs ys → length xs ≡ length ys →
    IsPermutation xs ys
permuted_where_found low [] [] c all same = IsPermutation-refl []
permuted_where_found low [] (y ∷ ys) c all same = absurd (omega (arith, same))
permuted_where_found low (x ∷ xs) ys c all same =
    let it = take_out x ys all.0 in
    let size = length_permutation ys (x ∷ it.0) it.1.same in
    let less : length xs ≡ length it.0 = omega (arith, same, size) in
    IsPermutation-trans (x ∷ xs) (x ∷ it.0) ys
    (IsPermutation-cons x xs it.0
    (permuted_where_found (suc x) xs it.0 c.1 (later_in x xs ys it.0 c.1 it.1 all.1) less))
    (IsPermutation-sym ys (x ∷ it.0) it.1.same)
