-- The first byte that passes one of two tests.
use Rattle.std.proofs.Common.{◌≡◌, ◌<◌, ℕ, Bool, true, false, cond, List, length, get_or, take, Some, None, ◌∙◌, ap, arith, length-take}
use Rattle.std.specs.Prelude.{◌||◌}
use Rattle.std.specs.List.{before_first, position_or_len, position}
use Rattle.std.proofs.lemmas.Bool.{lt-ltb, le-ltb, or_parts}
use Rattle.std.proofs.lemmas.List.{take_all, get_or-take}
use Rattle.std.proofs.lemmas.List.Sums.{position_or_len_is, fails_before_first}
use Rattle.surf_text.proofs.Cuts.{found_is, not_found}

abbrev either : (ℕ → Bool) → (ℕ → Bool) → ℕ → Bool
either p q b = p b || q b

neither : (p q : ℕ → Bool) (xs : List ℕ) (k : ℕ) → k < position_or_len (either p q) xs → (p (get_or xs k 0) ≡ false) × (q (get_or xs k 0) ≡ false)
neither p q xs k lt = or_parts (p (get_or xs k 0)) (q (get_or xs k 0)) (fails_before_first (either p q) xs k 0 lt)

len_where_none : (p : ℕ → Bool) (xs : List ℕ) → ((k : ℕ) → k < length xs → p (get_or xs k 0) ≡ false) → position_or_len p xs ≡ length xs
len_where_none p xs none = position_or_len_is p xs (length xs) 0 (omega arith) none (λ lt. absurd (omega arith))

nowhere : (p : ℕ → Bool) (xs : List ℕ) → ((k : ℕ) → k < length xs → p (get_or xs k 0) ≡ false) → position p xs ≡ None
nowhere p xs none =
    let at = len_where_none p xs none in
    ap (λ (t : Bool). cond t (Some (position_or_len p xs)) None) (le-ltb _ _ (omega (arith, at)))

-- where neither passes
pub none_of_both : (p q : ℕ → Bool) (xs : List ℕ) → position (either p q) xs ≡ None → (position p xs ≡ None) × (position q xs ≡ None)
none_of_both p q xs none =
    let all = not_found (either p q) xs none in
    (nowhere p xs (λ k lt. (neither p q xs k (omega (arith, all, lt))).0), nowhere q xs (λ k lt. (neither p q xs k (omega (arith, all, lt))).1))

module _ (p q : ℕ → Bool) (xs : List ℕ) (i : ℕ) (found : position (either p q) xs ≡ Some i) where
  -- It passes the first test: it is the first that does.
  pub first_of_both : p (get_or xs i 0) ≡ true → position p xs ≡ Some i
  first_of_both here =
      let f = found_is (either p q) xs i found in
      let at : position_or_len p xs ≡ i = position_or_len_is p xs i 0 (omega (arith, f.0, f.1)) (λ k lt. (neither p q xs k (omega (arith, f.1, lt))).0) (λ lt. here) in
      ap (λ (t : Bool). cond t (Some (position_or_len p xs)) None) (lt-ltb _ _ (omega (arith, f.0, f.1, at))) ∙ ap (λ (n : ℕ). Some n) at

  -- None before it passes the second.
  pub none_before_both : before_first q (take i xs) ≡ take i xs
  none_before_both =
      let f = found_is (either p q) xs i found in
      let dark : (k : ℕ) → k < length (take i xs) → q (get_or (take i xs) k 0) ≡ false = λ k lt.
      let below : k < i = omega (arith, lt, length-take i xs) in
      ap q (get_or-take i xs k 0 below) ∙ (neither p q xs k (omega (arith, f.1, below))).1 in
      take_all (position_or_len q (take i xs)) (take i xs) (omega (arith, len_where_none q (take i xs) dark))
