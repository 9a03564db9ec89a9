-- Plain lines: numbers of 32 bits, a space between any two, and nothing else.
use Rattle.std.proofs.Common.{◌≡◌, ◌<◌, ◌+◌, ◌^◌, ℕ, suc, true, List, [], ◌∷◌, Option, Some, None, refl, ◌∙◌, ap, arith, inl, inr}
use Rattle.std.specs.Prelude.{◌==◌, ◌&&◌, Bool, nat_lt}
use Rattle.std.specs.Char.{is_ascii_digit}
use Rattle.std.specs.List.{list_all, slice_split, onto_first, position_or_len, filter}
use Rattle.std.proofs.lemmas.Bool.{cases_Bool, and_parts, eqb-true, ltb-true}
use Rattle.surf_text.specs.Text.{is_blank, is_comment_sign, is_nonempty, uncommented, tokens_of, value_of, whole, below, short_whole}
use Rattle.surf_text.proofs.Digits.{blank_low, comment_low, digit_low}

abbrev pub is_space : ℕ → Bool
is_space b = b == 32

pub below_some : (o : Option ℕ) (bound n : ℕ) → below bound o ≡ Some n → (o ≡ Some n) × (n < bound)
below_some None bound n is = absurd cc
below_some (Some m) bound n is = elim (cases_Bool (nat_lt m bound)) [
  | inl lt ↦
      let same : m ≡ n = let h = rw lt at is in cc in
      (ap (λ (k : ℕ). Some k) same, omega (arith, same, ltb-true m bound lt))
  | inr ge ↦ let h = rw ge at is in absurd cc
]

pub whole_some : (token : List ℕ) (n : ℕ) → whole token ≡ Some n → (is_nonempty token ≡ true) × (list_all is_ascii_digit token ≡ true)
whole_some token n is = elim (cases_Bool (is_nonempty token && list_all is_ascii_digit token && nat_lt (value_of token) (2 ^ 64))) [
  | inl good ↦
      let front = (and_parts (is_nonempty token && list_all is_ascii_digit token) _ good).0 in
      let both = and_parts (is_nonempty token) (list_all is_ascii_digit token) front in
      (both.0, both.1)
  | inr bad ↦ let h = rw bad at is in absurd cc
]

-- a number of 32 bits is a whole number
pub short_is_whole : (token : List ℕ) (n : ℕ) → short_whole token ≡ Some n → (whole token ≡ Some n) × (n < 2 ^ 32)
short_is_whole token n is = below_some (whole token) (2 ^ 32) n is

-- parts that are numbers of 32 bits
abbrev pub AreShort : List (List ℕ) → Type 0
AreShort [] = Unit {0}
AreShort (part ∷ parts) = ((n : ℕ) × (short_whole part ≡ Some n)) × AreShort parts

AreDigits : List (List ℕ) → Type 0
AreDigits [] = Unit {0}
AreDigits (part ∷ parts) = (list_all is_ascii_digit part ≡ true) × AreDigits parts

digits_from : (parts : List (List ℕ)) → AreShort parts → AreDigits parts
unfolding AreDigits
digits_from [] are = tt
digits_from (part ∷ parts) are =
    let n = are.0.0 in
    ((whole_some part n (short_is_whole part n are.0.1).0).1, digits_from parts are.1)

-- None of them is empty.
all_some : (parts : List (List ℕ)) → AreShort parts → filter is_nonempty parts ≡ parts
all_some [] are = refl
all_some (part ∷ parts) are =
    let n = are.0.0 in
    rw ((whole_some part n (short_is_whole part n are.0.1).0).0) (ap (λ (rest : List (List ℕ)). part ∷ rest) (all_some parts are.1))

-- a digit in front of the first part
digits_onto : (b : ℕ) (parts : List (List ℕ)) → AreDigits (onto_first b parts) → (is_ascii_digit b ≡ true) × AreDigits parts
unfolding AreDigits
digits_onto b [] are = ((and_parts (is_ascii_digit b) true are.0).0, tt)
digits_onto b (part ∷ parts) are =
    let both = and_parts (is_ascii_digit b) (list_all is_ascii_digit part) are.0 in
    (both.0, (both.1, are.1))

-- A line of digits and spaces is cut at its blanks where it is cut at its spaces.
same_parts : (bytes : List ℕ) → AreDigits (slice_split is_space bytes) → slice_split is_blank (uncommented bytes) ≡ slice_split is_space bytes
unfolding AreDigits
same_parts [] are = refl
same_parts (b ∷ bs) are =
    let n = position_or_len is_comment_sign bs in
    let k : 1 + n ≡ suc n = omega arith in
    elim (cases_Bool (is_space b)) [
      | inl space ↦
          let is : b ≡ 32 = eqb-true b 32 space in
          let later = rw space at are in
          rw (is, k) (ap (λ (parts : List (List ℕ)). [] ∷ parts) (same_parts bs later.1))
      | inr dark ↦
          let here = digits_onto b (slice_split is_space bs) (rw dark at are) in
          let high : 35 < b = omega (arith, digit_low b here.0) in
          rw (comment_low b high, k, blank_low b high, dark) (ap (onto_first b) (same_parts bs here.1))
    ]

-- The tokens of a plain line are its numbers.
pub plain_tokens : (bytes : List ℕ) → AreShort (slice_split is_space bytes) → tokens_of bytes ≡ slice_split is_space bytes
plain_tokens bytes are = ap (filter is_nonempty) (same_parts bytes (digits_from (slice_split is_space bytes) are)) ∙ all_some (slice_split is_space bytes) are
