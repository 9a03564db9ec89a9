-- Reading the number of 32 bits that the digits in front are.
use Rattle.std.proofs.Common.{◌≡◌, ◌<◌, ◌≤◌, ◌^◌, ◌+◌, ◌-◌, ◌*◌, ℕ, Bool, true, false, cond, List, length, get_or, take, drop, Option, min, Some, None, MatchOption, sym, ◌∙◌, ap, arith, inl, inr, length-take, not}
use Rattle.std.specs.Prelude.{◌==◌, ◌&&◌, nat_lt}
use Rattle.std.specs.Char.{is_ascii_digit}
use Rattle.std.specs.List.{list_all, position_or_len}
use Rattle.std.proofs.lemmas.Bool.{cases_Bool, cases_lt, eqb-true, ne_eqb, eq-eqb, both_ways, lt-ltb}
use Rattle.std.proofs.lemmas.List.{get_or-take}
use Rattle.std.proofs.lemmas.List.Sums.{fails_before_first, passes_at_first, prefix_len-le-length}
use Rattle.std.proofs.Math.Nat.{min-eq_left, min-eq_right}
use Rattle.surf_text.specs.Text.{is_no_digit, front_digits, value_of, below, short_whole}
use Rattle.surf_text.proofs.Digits.{number_on, number_on-is, whole-is, too_long, digit_more, number_all, digits_all}

module _ (xs : List ℕ) where
  pub other_here : (i : ℕ) → i ≤ position_or_len is_no_digit xs → is_no_digit (get_or xs i 0) ≡ true → position_or_len is_no_digit xs ≡ i
  other_here i le is = elim (cases_lt i (position_or_len is_no_digit xs)) [
    | inl lt ↦ absurd (both_ways (is_no_digit (get_or xs i 0)) (fails_before_first is_no_digit xs i 0 lt) is)
    | inr ge ↦ omega arith
  ]

  pub digit_later : (i : ℕ) → i ≤ position_or_len is_no_digit xs → i < length xs → is_ascii_digit (get_or xs i 0) ≡ true → i < position_or_len is_no_digit xs
  digit_later i le lt digit = elim (cases_lt i (position_or_len is_no_digit xs)) [
    | inl before ↦ before
    | inr ge ↦
        let at : position_or_len is_no_digit xs ≡ i = omega arith in
        let passes : is_no_digit (get_or xs (position_or_len is_no_digit xs) 0) ≡ true = passes_at_first is_no_digit xs 0 (omega (arith, at, lt)) in
        absurd (both_ways (is_no_digit (get_or xs i 0)) (ap not digit) (ap (λ (k : ℕ). is_no_digit (get_or xs k 0)) (sym at) ∙ passes))
  ]

  pub digits_at_end : (i : ℕ) → i ≤ position_or_len is_no_digit xs → length xs ≤ i → (i ≡ position_or_len is_no_digit xs) × (i ≡ length xs)
  digits_at_end i le end =
      let most = prefix_len-le-length (λ b. not (is_no_digit b)) xs in
      (omega (arith, most), omega (arith, most))

  word : List ℕ
  word = front_digits xs

  word_length : length word ≡ position_or_len is_no_digit xs
  unfolding word
  word_length = omega (arith, length-take (position_or_len is_no_digit xs) xs, prefix_len-le-length (λ b. not (is_no_digit b)) xs)

  word_at : (i : ℕ) → i < position_or_len is_no_digit xs → get_or xs i 0 ≡ get_or word i 0
  unfolding word
  word_at i lt = sym (get_or-take (position_or_len is_no_digit xs) xs i 0 lt)

  some : (i : ℕ) → i < length word → false ≡ (length word == 0)
  some i lt = sym (ne_eqb (length word) 0 (λ e. absurd (omega arith)))

  -- what the digits so far and those that follow stand for
  short_word : (i : ℕ) → i < length word → short_whole word ≡ below (2 ^ 32) (number_on 0 word)
  short_word i lt = ap (below (2 ^ 32)) (sym (whole-is word (some i lt)))

  module _ (i n : ℕ) (so_far : number_on n (drop i (front_digits xs)) ≡ number_on 0 (front_digits xs)) where
    module _ (lt : i < position_or_len is_no_digit xs) where
      inside : i < length word
      inside = omega (arith, word_length)

      pub short_more : is_ascii_digit (get_or xs i 0) ≡ true → number_on (n * 10 + (get_or xs i 0 - 48)) (drop (i + 1) (front_digits xs)) ≡ number_on 0 (front_digits xs)
      unfolding word
      short_more digit = sym (digit_more word i n (get_or xs i 0) inside (word_at i lt) digit) ∙ so_far

      pub short_passes : is_ascii_digit (get_or xs i 0) ≡ true → 2 ^ 32 ≤ n * 10 + (get_or xs i 0 - 48) → short_whole (front_digits xs) ≡ None
      unfolding word
      short_passes digit le = short_word i inside ∙ ap (below (2 ^ 32)) (sym (short_more digit)) ∙ too_long (n * 10 + (get_or xs i 0 - 48)) (drop (i + 1) word) le

    short_whole_is : i ≡ position_or_len is_no_digit xs → n < 2 ^ 32 → (i ≡ 0 → ⊥) → short_whole (front_digits xs) ≡ Some n
    unfolding word
    short_whole_is end fits digits =
        let last = word_length in
        let number : number_on 0 word ≡ Some n = sym so_far ∙ number_all word i n (omega (arith, last, end)) (omega arith) in
        let first : 0 < length word = omega (arith, last, end, ne_zero i digits) in
        short_word 0 first ∙ ap (below (2 ^ 32)) number ∙ ap (λ (t : Bool). cond t (Some n) None) (lt-ltb _ _ fits)
      where
        ne_zero : (i : ℕ) → (i ≡ 0 → ⊥) → 0 < i
        ne_zero i differ = elim (cases_lt 0 i) [ inl lt ↦ lt | inr le ↦ absurd (differ (omega arith)) ]

    -- The digits end here.
    pub short_ends : i ≡ position_or_len is_no_digit xs → n < 2 ^ 32 → (r : Option (ℕ × ℕ)) → r ≡ cond (i == 0) None (Some (n, i))
        → MatchOption r (short_whole (front_digits xs) ≡ None) (λ x. (short_whole (front_digits xs) ≡ Some x.0) × (position_or_len is_no_digit xs ≡ x.1))
    short_ends end fits r is = elim (cases_Bool (i == 0)) [
      | inl none ↦
          let start : position_or_len is_no_digit xs ≡ 0 = omega (arith, end, eqb-true i 0 none) in
          let nothing : short_whole (front_digits xs) ≡ None = ap (λ (k : ℕ). short_whole (take k xs)) start in
          rw (is, none) nothing
      | inr digits ↦ rw (is, digits) (short_whole_is end fits (λ e. both_ways (i == 0) digits (eq-eqb i 0 e)), sym end)
    ]

  pub few_end : (d : ℕ) → d ≡ min 8 (position_or_len is_no_digit xs) → d < 8 → position_or_len is_no_digit xs ≡ d
  few_end d is few = elim (cases_lt 8 (position_or_len is_no_digit xs)) [
    | inl many ↦ let most : min 8 (position_or_len is_no_digit xs) ≡ 8 = min-eq_left (omega arith) in absurd (omega (arith, is, most, few))
    | inr le ↦ sym (is ∙ min-eq_right le)
  ]

  -- So many digits stand in front, and they are this number.
  pub few_so_far : (d n : ℕ) → position_or_len is_no_digit xs ≡ d → n ≡ value_of (take d xs) → n < 2 ^ 32 → number_on n (drop d (front_digits xs)) ≡ number_on 0 (front_digits xs)
  unfolding word
  few_so_far d n end is fits =
      let value : value_of (front_digits xs) ≡ n = sym (is ∙ ap (λ (k : ℕ). value_of (take k xs)) (sym end)) in
      let whole_is : number_on 0 (front_digits xs) ≡ cond (true && nat_lt n (2 ^ 64)) (Some n) None =
      number_on-is 0 (front_digits xs) ∙ ap (λ (v : ℕ). cond (list_all is_ascii_digit (front_digits xs) && nat_lt v (2 ^ 64)) (Some v) None) value
      ∙ ap (λ (t : Bool). cond (t && nat_lt n (2 ^ 64)) (Some n) None) (digits_all xs) in
      number_all (front_digits xs) d n (omega (arith, word_length, end)) (omega arith)
      ∙ sym (whole_is ∙ ap (λ (t : Bool). cond t (Some n) None) (lt-ltb n (2 ^ 64) (omega arith)))
