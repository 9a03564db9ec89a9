-- Numbers by their digits.
use Rattle.surf_surfaces.proofs.Common.{◌≡◌, ℕ, zero, suc, ◌+◌, ◌-◌, ◌*◌, ◌^◌, ◌<◌, ◌≤◌, true, false, List, [], ◌∷◌, ◌++◌, length, take, drop, get_or, sym, ap, ◌∙◌, arith, inl, inr, nat_le, nat_lt, ◌&&◌, ◌==◌, Some, list_all, and_parts, and_from, leb-true, cases_Bool, take-append-drop, is_ascii_digit, fold-append}
use Rattle.std.proofs.lemmas.List.Folds.{list_all-append}
use Rattle.std.proofs.Math.Nat.{pow-succ', pow-le-pow_right}
use Rattle.surf_text.specs.Text.{value_of, whole, is_nonempty}
use Rattle.surf_geom.specs.Digits.{pushed}
use Rattle.surf_geom.specs.Fixed.{are_digits}

-- bytes that are all digits
abbrev pub AreDigits : List ℕ → Type 0
AreDigits ds = list_all is_ascii_digit ds ≡ true

pub both_digits : (xs ys : List ℕ) → AreDigits (xs ++ ys) → AreDigits xs × AreDigits ys
both_digits xs ys all = and_parts _ _ (sym (list_all-append is_ascii_digit xs ys) ∙ all)

pub join_digits : (xs ys : List ℕ) → AreDigits xs → AreDigits ys → AreDigits (xs ++ ys)
join_digits xs ys first second = list_all-append is_ascii_digit xs ys ∙ and_from _ _ first second

pub cut_digits : (i : ℕ) (ds : List ℕ) → AreDigits ds → AreDigits (take i ds) × AreDigits (drop i ds)
cut_digits i ds all = both_digits (take i ds) (drop i ds) (ap (list_all is_ascii_digit) (take-append-drop i ds) ∙ all)

-- a digit stands for a number below ten
low_digit : (d : ℕ) → is_ascii_digit d ≡ true → d - 48 < 10
low_digit d digit = let parts = and_parts (nat_le 48 d) (nat_le d 57) digit in omega (arith, leb-true 48 d parts.0, leb-true d 57 parts.1)

pub digit_at : (ds : List ℕ) (i d : ℕ) → AreDigits ds → i < length ds → is_ascii_digit (get_or ds i d) ≡ true
digit_at [] i d all lt = absurd (omega arith)
digit_at (x ∷ xs) zero d all lt = (and_parts _ _ all).0
digit_at (x ∷ xs) (suc i) d all lt = digit_at xs i d (and_parts _ _ all).1 (omega arith)

-- more digits make no less
pub pushed_least : (n : ℕ) (ds : List ℕ) → n ≤ pushed n ds
pushed_least n [] = omega arith
pushed_least n (d ∷ ds) = omega (arith, pushed_least (n * 10 + (d - 48)) ds)

pub pushed-append : (n : ℕ) (xs ys : List ℕ) → pushed n (xs ++ ys) ≡ pushed (pushed n xs) ys
pushed-append n xs ys = fold-append (λ n b. n * 10 + (b - 48)) n xs ys

pub pushed_front : (n i : ℕ) (ds : List ℕ) → pushed n (take i ds) ≤ pushed n ds
pushed_front n i ds =
    let whole : pushed n ds ≡ pushed (pushed n (take i ds)) (drop i ds) = ap (pushed n) (sym (take-append-drop i ds)) ∙ pushed-append n (take i ds) (drop i ds) in
    omega (arith, pushed_least (pushed n (take i ds)) (drop i ds))

-- one digit more
one_digit : (n x p q : ℕ) → q ≡ 10 * p → (n * 10 + x) * p ≡ n * q + x * p
one_digit n x p q power = let all : n * q ≡ n * (10 * p) = ap (λ r. n * r) power in omega arith

-- a number in front is raised by the digits behind it
pub pushed_is : (n : ℕ) (ds : List ℕ) → pushed n ds ≡ n * 10 ^ length ds + value_of ds
pushed_is n [] = omega arith
pushed_is n (d ∷ ds) =
    let x = d - 48 in
    let p = 10 ^ length ds in
    let q = 10 ^ suc (length ds) in
    let power : q ≡ 10 * p = pow-succ' 10 (length ds) in
    let left : pushed (n * 10 + x) ds ≡ (n * 10 + x) * p + value_of ds = pushed_is (n * 10 + x) ds in
    let right : pushed (0 * 10 + x) ds ≡ (0 * 10 + x) * p + value_of ds = pushed_is (0 * 10 + x) ds in
    omega (arith, one_digit n x p q power, one_digit 0 x p q power)

pub value-append : (xs ys : List ℕ) → value_of (xs ++ ys) ≡ value_of xs * 10 ^ length ys + value_of ys
value-append xs ys = pushed-append 0 xs ys ∙ pushed_is (value_of xs) ys

pub value_below : (ds : List ℕ) → AreDigits ds → value_of ds < 10 ^ length ds
value_below [] all = omega arith
value_below (d ∷ ds) all =
    let x = d - 48 in
    let parts = and_parts (is_ascii_digit d) (list_all is_ascii_digit ds) all in
    let low : x < 10 = low_digit d parts.0 in
    let rest : value_of ds < 10 ^ length ds = value_below ds parts.1 in
    let power : 10 ^ suc (length ds) ≡ 10 * 10 ^ length ds = pow-succ' 10 (length ds) in
    let is : pushed (0 * 10 + x) ds ≡ (0 * 10 + x) * 10 ^ length ds + value_of ds = pushed_is (0 * 10 + x) ds in
    let most : x * 10 ^ length ds ≤ 9 * 10 ^ length ds = Rattle.std.proofs.lemmas.Nat.mul-le x (10 ^ length ds) 9 (10 ^ length ds) (omega arith) (omega arith) in
    omega (arith, one_digit 0 x (10 ^ length ds) (10 ^ suc (length ds)) power)

-- three digits are below a thousand
pub three_digits : (token : List ℕ) (n : ℕ) → length token ≤ 3 → whole token ≡ Some n → n ≤ 999
three_digits token n le is = elim (cases_Bool ((is_nonempty token && list_all is_ascii_digit token) && nat_lt (value_of token) (2 ^ 64))) [
  | inl fits ↦
      let digits : AreDigits token = (and_parts (is_nonempty token) (list_all is_ascii_digit token) (and_parts (is_nonempty token && list_all is_ascii_digit token) (nat_lt (value_of token) (2 ^ 64)) fits).0).1 in
      let most : 10 ^ length token ≤ 10 ^ 3 = pow-le-pow_right (omega arith) le in
      let below : value_of token < 10 ^ length token = value_below token digits in
      let same = rw fits at is in
      let value : value_of token ≡ n = cc in
      omega arith
  | inr out ↦ let bad = rw out at is in cc
]

-- digits before and behind a point
pub some_front : (xs ys : List ℕ) → false ≡ (length xs == 0) → are_digits (xs ++ ys) ≡ (list_all is_ascii_digit xs && list_all is_ascii_digit ys)
some_front [] ys some = absurd cc
some_front (x ∷ xs) ys some = list_all-append is_ascii_digit (x ∷ xs) ys
