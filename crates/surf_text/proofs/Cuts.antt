-- A first part, and those behind it.
use Rattle.std.proofs.Common.{◌≡◌, ◌<◌, ◌≤◌, ◌+◌, ◌-◌, ℕ, Bool, true, false, cond, ltb, List, [], ◌∷◌, length, take, drop, Some, None, refl, sym, ◌∙◌, ap, arith, inl, inr, not}
use Rattle.std.specs.List.{slice_split, onto_first, before_first, position_or_len, position}
use Rattle.std.proofs.lemmas.Bool.{cases_lt, ltb-true, lt-ltb}
use Rattle.std.proofs.lemmas.List.{take_rest, take_all}
use Rattle.std.proofs.lemmas.List.Splits.{slice_split_first}
use Rattle.std.proofs.lemmas.List.Sums.{prefix_len-le-length}

-- there is such an element, and its place is the first
pub found_is : (p : ℕ → Bool) (xs : List ℕ) (i : ℕ) → position p xs ≡ Some i → (position_or_len p xs < length xs) × (position_or_len p xs ≡ i)
found_is p xs i found = at (ltb (position_or_len p xs) (length xs)) refl found
  where
    at : (b : Bool) → ltb (position_or_len p xs) (length xs) ≡ b → cond b (Some (position_or_len p xs)) None ≡ Some i → (position_or_len p xs < length xs) × (position_or_len p xs ≡ i)
    at true e h = (ltb-true _ _ e, cc)
    at false e h = absurd cc

-- `&xs[i + 1..]` is `take (length xs - (i + 1)) (drop (i + 1) xs)`
pub cut_at : (p : ℕ → Bool) (xs : List ℕ) (i : ℕ) → position p xs ≡ Some i → slice_split p xs ≡ take i xs ∷ slice_split p (take (length xs - (i + 1)) (drop (i + 1) xs))
cut_at p xs i found =
    let f = found_is p xs i found in
    slice_split_first p xs 0 f.0 ∙ ap (λ (k : ℕ). take k xs ∷ slice_split p (drop (k + 1) xs)) f.1 ∙ ap (λ (r : List ℕ). take i xs ∷ slice_split p r) (sym (take_rest xs (i + 1)))

pub not_found : (p : ℕ → Bool) (xs : List ℕ) → position p xs ≡ None → length xs ≤ position_or_len p xs
not_found p xs none = elim (cases_lt (position_or_len p xs) (length xs)) [
  | inl lt ↦ absurd (none_some (ltb (position_or_len p xs) (length xs)) (lt-ltb _ _ lt) none)
  | inr le ↦ le
]
  where
    none_some : (b : Bool) → b ≡ true → cond b (Some (position_or_len p xs)) None ≡ None → ⊥
    none_some true e h = cc
    none_some false e h = cc

pub whole_part : (p : ℕ → Bool) (xs : List ℕ) → length xs ≤ position_or_len p xs → slice_split p xs ≡ xs ∷ []
whole_part p [] le = refl
whole_part p (x ∷ xs) le =
    elim (p x) as (λ b. length (x ∷ xs) ≤ cond (not b) (1 + position_or_len p xs) 0 → cond b ([] ∷ slice_split p xs) (onto_first x (slice_split p xs)) ≡ (x ∷ xs) ∷ []) [
      | true ↦ λ h. absurd (omega arith)
      | false ↦ λ h. ap (onto_first x) (whole_part p xs (omega arith))
    ] le

pub cut_none : (p : ℕ → Bool) (xs : List ℕ) → position p xs ≡ None → slice_split p xs ≡ xs ∷ []
cut_none p xs none = whole_part p xs (not_found p xs none)

-- The first part is what stands before the first that passes.
pub first_cut : (p : ℕ → Bool) (xs : List ℕ) → (others : List (List ℕ)) × (slice_split p xs ≡ before_first p xs ∷ others)
first_cut p xs = elim (cases_lt (position_or_len p xs) (length xs)) [
  | inl lt ↦ (slice_split p (drop (position_or_len p xs + 1) xs), slice_split_first p xs 0 lt)
  | inr le ↦ ([], whole_part p xs le ∙ ap (λ (part : List ℕ). part ∷ []) (sym (take_all (position_or_len p xs) xs le)))
]

pub before_at : (p : ℕ → Bool) (xs : List ℕ) (i : ℕ) → position p xs ≡ Some i → take i xs ≡ before_first p xs
before_at p xs i found = ap (λ (k : ℕ). take k xs) (sym (found_is p xs i found).1)

pub before_none : (p : ℕ → Bool) (xs : List ℕ) → position p xs ≡ None → xs ≡ before_first p xs
before_none p xs none = sym (take_all (position_or_len p xs) xs (not_found p xs none))

-- where none passes, the place is the length
pub none_is : (p : ℕ → Bool) (xs : List ℕ) → position p xs ≡ None → position_or_len p xs ≡ length xs
none_is p xs none = omega (arith, not_found p xs none, prefix_len-le-length (λ x. not (p x)) xs)

-- `&xs[i..]` is `take (length xs - i) (drop i xs)`
pub behind_at : (p : ℕ → Bool) (xs : List ℕ) (i : ℕ) → position p xs ≡ Some i → take (length xs - i) (drop i xs) ≡ drop (position_or_len p xs) xs
behind_at p xs i found = take_rest xs i ∙ ap (λ (k : ℕ). drop k xs) (sym (found_is p xs i found).1)

pub behind_none : (p : ℕ → Bool) (xs : List ℕ) → position p xs ≡ None → take (length xs - length xs) (drop (length xs) xs) ≡ drop (position_or_len p xs) xs
behind_none p xs none = take_rest xs (length xs) ∙ ap (λ (k : ℕ). drop k xs) (sym (none_is p xs none))

pub word_none : (p : ℕ → Bool) (xs : List ℕ) → position p xs ≡ None → xs ≡ take (position_or_len p xs) xs
word_none p xs none = sym (take_all (position_or_len p xs) xs (not_found p xs none))
