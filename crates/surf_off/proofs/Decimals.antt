-- The decimal text of a number is a token that stands for it.
use Rattle.surf_surfaces.proofs.Common.{◌≡◌, ◌<◌, ◌≤◌, ◌+◌, ◌-◌, ◌*◌, ◌%◌, ◌^◌, ℕ, Bool, true, false, List, [], ◌∷◌, ◌++◌, Some, refl, ◌∙◌, ap, arith, inl, inr, ◌&&◌, decimal, nat_lt, nat_le, list_all, list_any, cases_Bool, le-leb, lt-ltb, ne_eqb, is_ascii_digit}
use Rattle.std.proofs.lemmas.Fmt.{decimal_by_steps}
use Rattle.std.proofs.lemmas.List.Sums.{fold_push}
use Rattle.surf_text.proofs.Digits.{blank_low, comment_low, digit_low}
use Rattle.surf_text.specs.Text.{is_blank, is_line_end, is_comment_sign, is_nonempty, value_of, whole}

-- digits that stand for a number
pub record IsDecimal (n : ℕ) (ds : List ℕ) : Type 0 where
  pub digits : list_all is_ascii_digit ds ≡ true
  pub some : is_nonempty ds ≡ true
  pub value : value_of ds ≡ n

is_digit : (d : ℕ) → d < 10 → is_ascii_digit (48 + d) ≡ true
is_digit d lt =
    let low : nat_le 48 (48 + d) ≡ true = le-leb _ _ (omega arith) in
    let high : nat_le (48 + d) 57 ≡ true = le-leb _ _ (omega arith) in
    rw (low, high) refl

all_push : (p : ℕ → Bool) (xs : List ℕ) (x : ℕ) → list_all p xs ≡ true → p x ≡ true → list_all p (xs ++ x ∷ []) ≡ true
all_push p [] x all here = rw here refl
all_push p (y ∷ ys) x all here = at (p y) all (all_push p ys x)
  where
    at : (b : Bool) → (b && list_all p ys) ≡ true → (list_all p ys ≡ true → p x ≡ true → list_all p (ys ++ x ∷ []) ≡ true) → (b && list_all p (ys ++ x ∷ [])) ≡ true
    at true e later = later e here
    at false e later = e

some_push : (xs : List ℕ) (x : ℕ) → is_nonempty (xs ++ x ∷ []) ≡ true
some_push [] x = refl
some_push (y ∷ ys) x = refl

decimal_is : (n : ℕ) → n < 2 ^ 64 → IsDecimal n (decimal n)
decimal_is = decimal_by_steps IsDecimal
    (λ n lt. record { digits = rw (is_digit n lt) refl; some = refl; value = omega arith })
    (λ n ds ge so_far.
    let last : is_ascii_digit (48 + n % 10) ≡ true = is_digit (n % 10) (omega arith) in
    record {
      digits = all_push is_ascii_digit ds (48 + n % 10) so_far.digits last;
      some = some_push ds (48 + n % 10);
      value = fold_push (λ n b. n * 10 + (b - 48)) 0 ds (48 + n % 10) ∙ omega (arith, so_far.value);
    })

-- A token of digits is read as their number.
pub whole_decimal : (n : ℕ) → n < 2 ^ 64 → whole (decimal n) ≡ Some n
whole_decimal n lt =
    let d = decimal_is n lt in
    let small : nat_lt (value_of (decimal n)) (2 ^ 64) ≡ true = lt-ltb _ _ (omega (arith, d.value, lt)) in
    rw (d.some, d.digits, small) (ap (λ (v : ℕ). Some v) d.value)

-- no digit is a blank, a comment sign or a line end
none_digit : (p : ℕ → Bool) → ((b : ℕ) → 48 ≤ b → p b ≡ false) → (ds : List ℕ) → list_all is_ascii_digit ds ≡ true → list_any p ds ≡ false
none_digit p low [] all = refl
none_digit p low (d ∷ ds) all = elim (cases_Bool (is_ascii_digit d)) [
  | inl digit ↦ rw (low d (digit_low d digit)) (none_digit p low ds (rw digit at all))
  | inr other ↦ absurd (differ (rw other at all))
]
  where
    differ : false ≡ true → ⊥
    differ e = cc

pub record IsWord (w : List ℕ) : Type 0 where
  pub some : is_nonempty w ≡ true
  pub dark : list_any is_blank w ≡ false
  pub one_line : list_any is_line_end w ≡ false
  pub uncommented : list_any is_comment_sign w ≡ false

pub word_digits : (ds : List ℕ) → is_nonempty ds ≡ true → list_all is_ascii_digit ds ≡ true → IsWord ds
word_digits ds some digits = record {
  some = some;
  dark = none_digit is_blank (λ b le. blank_low b (omega arith)) ds digits;
  one_line = none_digit is_line_end (λ b le. ne_eqb b 10 (λ e. absurd (omega arith))) ds digits;
  uncommented = none_digit is_comment_sign (λ b le. comment_low b (omega arith)) ds digits;
}

pub word_decimal : (n : ℕ) → n < 2 ^ 64 → IsWord (decimal n)
word_decimal n lt = let d = decimal_is n lt in word_digits (decimal n) d.some d.digits
