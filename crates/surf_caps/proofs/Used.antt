-- Rows that take part.
use Rattle.surf_surfaces.proofs.Common.{◌≡◌, ◌≤◌, ℕ, zero, suc, Bool, true, false, cond, List, [], ◌∷◌, ◌++◌, length, take, refl, sym, ap, ◌∙◌, subst, arith, inl, inr, cases_lt, false≢true, length-append, Space}
use Rattle.surf_z2.specs.Parity.{xor, xor-same}
use Rattle.surf_z2.specs.Sieve.{reduce, IsSieve}
use Rattle.surf_z2.proofs.Sieve.{sieve_law}
use Rattle.surf_caps.specs.Used.{used_from, used, IsGradual, UsedLaw}

-- as many as there are, or more, are all
all_taken : {X : Type 0} (xs : List X) (n : ℕ) → length xs ≤ n → take n xs ≡ xs
all_taken [] zero le = refl
all_taken [] (suc n) le = refl
all_taken (x ∷ xs) zero le = absurd (omega arith)
all_taken (x ∷ xs) (suc n) le = ap (λ ys. x ∷ ys) (all_taken xs n (omega arith))

-- the first of a longer list
taken_before : {X : Type 0} (xs ys : List X) (n : ℕ) → n ≤ length xs → take n (xs ++ ys) ≡ take n xs
taken_before xs ys zero le = refl
taken_before [] ys (suc n) le = absurd (omega arith)
taken_before (x ∷ xs) ys (suc n) le = ap (λ zs. x ∷ zs) (taken_before xs ys n (omega arith))

module _ {V : Type 0} (S : Space V) (is_member : V → ℕ → Bool) (member-add : (x y : V) (k : ℕ) →
    is_member (S.add x y) k ≡ xor (is_member x k) (is_member y k)) {R : Type 0} (pivot : R → ℕ) (reduced : R → V)
    (original : R → V) where
  abbrev left : List R → V → V
  left rows v = reduce S is_member pivot reduced rows v

  abbrev steps : List R → V → ℕ
  steps rows v = used S is_member pivot reduced rows v

  no_member : (k : ℕ) → is_member S.zero k ≡ false
  no_member k = ap (λ v. is_member v k) (sym (S.self S.zero)) ∙ member-add S.zero S.zero k
      ∙ xor-same (is_member S.zero k)

  within_from : (own : Bool) (n m : ℕ) → n ≤ m → used_from S is_member pivot reduced own n ≤ suc m
  within_from true zero m le = omega arith
  within_from false zero m le = omega arith
  within_from own (suc n) m le = omega arith

  within : (rows : List R) (v : V) → steps rows v ≤ length rows
  within [] v = omega arith
  within (r ∷ rs) v =
      let w = cond (is_member v (pivot r)) (S.add (reduced r) v) v in
      within_from (is_member v (pivot r)) (steps rs w) (length rs) (within rs w)

  -- no row is used of zero
  none_used : (rows : List R) → steps rows S.zero ≡ 0
  none_used [] = refl
  none_used (r ∷ rs) = rw (no_member (pivot r), none_used rs) refl

  no_use : (own : Bool) (n : ℕ) → used_from S is_member pivot reduced own n ≡ 0 → (own ≡ false) × (n ≡ 0)
  no_use true zero h = absurd (omega arith)
  no_use false zero h = (refl, refl)
  no_use own (suc n) h = absurd (omega arith)

  -- where no row is used all is left
  all_left : (rows : List R) (v : V) → steps rows v ≡ 0 → left rows v ≡ v
  all_left [] v none = refl
  all_left (r ∷ rs) v none = split (is_member v (pivot r)) (all_left rs v) none
    where
      split : (b : Bool) → (steps rs v ≡ 0 → left rs v ≡ v) →
          used_from S is_member pivot reduced b (steps rs (cond b (S.add (reduced r) v) v)) ≡ 0 →
          left rs (cond b (S.add (reduced r) v) v) ≡ v
      split true rest h = absurd (false≢true (sym (no_use true (steps rs (S.add (reduced r) v)) h).0))
      split false rest h = rest (no_use false (steps rs v) h).1

  -- the rows behind the last that is used leave all
  same_left : (rows : List R) (v : V) → left (take (steps rows v) rows) v ≡ left rows v
  same_left [] v = refl
  same_left (r ∷ rs) v =
      count (is_member v (pivot r)) refl (steps rs (cond (is_member v (pivot r)) (S.add (reduced r) v) v))
      (λ e. all_left rs (cond (is_member v (pivot r)) (S.add (reduced r) v) v) e)
      (λ n e. ap (λ k. left (take k rs) (cond (is_member v (pivot r)) (S.add (reduced r) v) v)) (sym e)
      ∙ same_left rs (cond (is_member v (pivot r)) (S.add (reduced r) v) v)) refl
    where
      count : (b : Bool) → is_member v (pivot r) ≡ b → (m : ℕ) →
          (steps rs (cond b (S.add (reduced r) v) v) ≡ 0 →
          left rs (cond b (S.add (reduced r) v) v) ≡ cond b (S.add (reduced r) v) v) →
          ((n : ℕ) → steps rs (cond b (S.add (reduced r) v) v) ≡ n →
          left (take n rs) (cond b (S.add (reduced r) v) v) ≡ left rs (cond b (S.add (reduced r) v) v)) →
          steps rs (cond b (S.add (reduced r) v) v) ≡ m →
          left (take (used_from S is_member pivot reduced b m) (r ∷ rs)) v ≡ left rs (cond b (S.add (reduced r) v) v)
      count true is zero whole rest e = rw is (sym (whole e))
      count false is zero whole rest e = sym (whole e)
      count b is (suc m) whole rest e =
          ap (λ c. left (take (suc m) rs) (cond c (S.add (reduced r) v) v)) is ∙ rest (suc m) e

  -- where the first rows leave nothing no later row is used
  used_first : (rows : List R) (v : V) (n : ℕ) → left (take n rows) v ≡ S.zero → steps rows v ≤ n
  used_first rows v zero none =
      let zero_is : steps rows v ≡ 0 = ap (steps rows) none ∙ none_used rows in omega (arith, zero_is)
  used_first [] v (suc n) none = omega arith
  used_first (r ∷ rs) v (suc n) none =
      let w = cond (is_member v (pivot r)) (S.add (reduced r) v) v in
      within_from (is_member v (pivot r)) (steps rs w) n (used_first rs w n none)

  admitted : (rows : List R) (r : R) → IsGradual S is_member pivot reduced original rows →
      reduced r ≡ left rows (original r) → is_member (reduced r) (pivot r) ≡ true →
      IsGradual S is_member pivot reduced original (rows ++ r ∷ [])
  admitted rows r gradual is on n = elim (cases_lt (length rows) n) [
    | inl more ↦ subst (IsSieve S is_member pivot reduced original)
        (sym (all_taken (rows ++ r ∷ []) n (omega (arith, length-append rows (r ∷ [])))))
        ((sieve_law S is_member member-add pivot reduced original).admitted rows r
        (subst (IsSieve S is_member pivot reduced original) (all_taken rows n (omega arith)) (gradual n)) is on)
    | inr le ↦ subst (IsSieve S is_member pivot reduced original) (sym (taken_before rows (r ∷ []) n le)) (gradual n)
  ]

  none : IsGradual S is_member pivot reduced original []
  none zero = (sieve_law S is_member member-add pivot reduced original).none
  none (suc n) = (sieve_law S is_member member-add pivot reduced original).none

  pub used_law : UsedLaw S is_member pivot reduced original
  used_law = record {
    within = within;
    spanned = λ rows v gradual zero_left.
        ((sieve_law S is_member member-add pivot reduced original).spanned (take (steps rows v) rows) v
        (gradual (steps rows v))).0 (same_left rows v ∙ zero_left);
    least = λ rows v n gradual h. used_first rows v n
        (((sieve_law S is_member member-add pivot reduced original).spanned (take n rows) v (gradual n)).1 h);
    none = none;
    admitted = admitted;
  }
