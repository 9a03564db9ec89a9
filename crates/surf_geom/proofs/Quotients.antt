-- The fixed amount of a number is one of the digits that are kept.
use Rattle.std.proofs.Common.{◌≡◌, ℕ, ◌+◌, ◌-◌, ◌*◌, ◌/◌, ◌%◌, ◌^◌, ◌<◌, ◌≤◌, List, ◌++◌, length, take, drop, Some, None, Ok, Err, refl, sym, ap, ◌∙◌, arith, inl, inr, add-zero, append_assoc, length-append, length-drop}
use Rattle.surf_surfaces.proofs.Common.{nat_lt, not, take-append-drop, cases_lt, lt-ltb, le-ltb, le-leb, lt-leb, one-le-pow, pow-le-pow_right}
use Rattle.std.proofs.lemmas.Nat.{mul-le, pow-add, div-mul-add, div-add-mod', mod_below}
use Rattle.surf_text.specs.Text.{value_of}
use Rattle.surf_geom.specs.Digits.{pushed, pushed_to, in_range}
use Rattle.surf_geom.specs.Fixed.{Decimal, numerator, denominator, is_great, fixed_amount, signed, fixed_if}
use Rattle.surf_geom.specs.declared.fault.FixedFault.TheVariants.{Range}
use Rattle.surf_geom.proofs.DigitLaws.{AreDigits, both_digits, cut_digits, pushed_least, pushed-append, value-append, value_below}

some_power : (n : ℕ) → 0 < 10 ^ n
some_power n = omega (arith, one-le-pow n 10 (omega arith))

spread : (x m y r : ℕ) → (x * m + y) * r ≡ x * (r * m) + y * r
spread x m y r = omega arith

-- as many digits as are lowered fall away
cut_quotient : (xs ys : List ℕ) (up down : ℕ) → AreDigits ys → down ≡ up + length ys → value_of (xs ++ ys) * 10 ^ up / 10 ^ down ≡ value_of xs
cut_quotient xs ys up down digits is =
    let raise = 10 ^ up in
    let rest = 10 ^ length ys in
    let x = value_of xs in
    let y = value_of ys in
    let some : 0 < raise = some_power up in
    let below : y < rest = value_below ys digits in
    let power : 10 ^ down ≡ raise * rest = ap (λ n. 10 ^ n) is ∙ pow-add 10 up (length ys) in
    let more : (y + 1) * raise ≤ rest * raise = mul-le (y + 1) raise rest raise (omega arith) (omega arith) in
    let small : y * raise < raise * rest = omega arith in
    let sum : value_of (xs ++ ys) * raise ≡ x * (raise * rest) + y * raise = ap (λ v. v * raise) (value-append xs ys) ∙ spread x rest y raise in
    rw (power, sum) (div-mul-add x (raise * rest) (y * raise) small)

-- all digits fall away
lost_quotient : (ds : List ℕ) (up down : ℕ) → AreDigits ds → up + length ds ≤ down → value_of ds * 10 ^ up / 10 ^ down ≡ 0
lost_quotient ds up down digits le =
    let raise = 10 ^ up in
    let rest = 10 ^ length ds in
    let d = value_of ds in
    let some : 0 < raise = some_power up in
    let below : d < rest = value_below ds digits in
    let power : 10 ^ (up + length ds) ≡ raise * rest = pow-add 10 up (length ds) in
    let most : 10 ^ (up + length ds) ≤ 10 ^ down = pow-le-pow_right (omega arith) le in
    let more : (d + 1) * raise ≤ rest * raise = mul-le (d + 1) raise rest raise (omega arith) (omega arith) in
    let small : d * raise < 10 ^ down = omega arith in
    let sum : d * raise ≡ 0 * 10 ^ down + d * raise = omega arith in
    rw sum (div-mul-add 0 (10 ^ down) (d * raise) small)

regroup : (a b c : ℕ) → a * b * c + 0 ≡ a * (b * c)
regroup a b c = omega arith

-- zeros are put behind all digits
raised_quotient : (v up down : ℕ) → down ≤ up → v * 10 ^ up / 10 ^ down ≡ v * 10 ^ (up - down)
raised_quotient v up down le =
    let base = 10 ^ down in
    let over = 10 ^ (up - down) in
    let same : up ≡ (up - down) + down = omega arith in
    let power : 10 ^ up ≡ over * base = ap (λ n. 10 ^ n) same ∙ pow-add 10 (up - down) down in
    let sum : v * 10 ^ up ≡ (v * over) * base + 0 = ap (λ n. v * n) power ∙ sym (regroup v over base) in
    rw sum (div-mul-add (v * over) base 0 (some_power down))

-- the point nine places farther to the right
nine_more : (d : Decimal) → fixed_amount d ≡ value_of (d.front ++ d.behind) * 10 ^ (d.raised + 9) / denominator d
nine_more d =
    let v = value_of (d.front ++ d.behind) in
    let power : 10 ^ (d.raised + 9) ≡ 10 ^ d.raised * 10 ^ 9 = pow-add 10 d.raised 9 in
    let same : numerator d * 10 ^ 9 ≡ v * 10 ^ (d.raised + 9) = sym (add-zero _) ∙ regroup v (10 ^ d.raised) (10 ^ 9) ∙ ap (λ n. v * n) (sym power) in
    ap (λ n. n / denominator d) same

-- it lies among or before the digits in front
pub amount_before : (d : Decimal) → AreDigits (d.front ++ d.behind) → d.raised + 9 < d.lowered →
    fixed_amount d ≡ value_of (take (length d.front - (d.lowered - (d.raised + 9))) d.front)
amount_before d digits lt = nine_more d ∙ elim (cases_lt (d.lowered - (d.raised + 9)) (length d.front)) [
  | inl some ↦
      let kept = length d.front - (d.lowered - (d.raised + 9)) in
      let xs = take kept d.front in
      let ys = drop kept d.front ++ d.behind in
      let parts = both_digits d.front d.behind digits in
      let cut : AreDigits ys = Rattle.surf_geom.proofs.DigitLaws.join_digits (drop kept d.front) d.behind (cut_digits kept d.front parts.0).1 parts.1 in
      let whole : d.front ++ d.behind ≡ xs ++ ys = ap (λ zs. zs ++ d.behind) (sym (take-append-drop kept d.front)) ∙ append_assoc xs (drop kept d.front) d.behind in
      let down : length d.behind + d.lowered ≡ (d.raised + 9) + length ys = omega (arith, length-append (drop kept d.front) d.behind, length-drop kept d.front) in
      rw whole (cut_quotient xs ys (d.raised + 9) (length d.behind + d.lowered) cut down)
  | inr none ↦
      let kept : length d.front - (d.lowered - (d.raised + 9)) ≡ 0 = omega arith in
      rw kept (lost_quotient (d.front ++ d.behind) (d.raised + 9) (length d.behind + d.lowered) digits (omega (arith, length-append d.front d.behind)))
]

-- it lies among the digits behind the point
pub amount_among : (d : Decimal) → AreDigits (d.front ++ d.behind) → d.lowered ≤ d.raised + 9 → (d.raised + 9) - d.lowered ≤ length d.behind →
    fixed_amount d ≡ pushed (value_of d.front) (take ((d.raised + 9) - d.lowered) d.behind)
amount_among d digits le fits =
    let places = (d.raised + 9) - d.lowered in
    let xs = d.front ++ take places d.behind in
    let ys = drop places d.behind in
    let cut : AreDigits ys = (cut_digits places d.behind (both_digits d.front d.behind digits).1).1 in
    let whole : d.front ++ d.behind ≡ xs ++ ys = ap (λ zs. d.front ++ zs) (sym (take-append-drop places d.behind)) ∙ sym (append_assoc d.front (take places d.behind) ys) in
    let down : length d.behind + d.lowered ≡ (d.raised + 9) + length ys = omega (arith, length-drop places d.behind) in
    nine_more d ∙ rw whole (cut_quotient xs ys (d.raised + 9) (length d.behind + d.lowered) cut down) ∙ pushed-append 0 d.front (take places d.behind)

-- it lies behind all digits
pub amount_past : (d : Decimal) → d.lowered ≤ d.raised + 9 → length d.behind ≤ (d.raised + 9) - d.lowered →
    fixed_amount d ≡ pushed (value_of d.front) d.behind * 10 ^ (((d.raised + 9) - d.lowered) - length d.behind)
amount_past d le past =
    let up = d.raised + 9 in
    let down = length d.behind + d.lowered in
    let same : up - down ≡ (up - d.lowered) - length d.behind = omega arith in
    nine_more d ∙ raised_quotient (value_of (d.front ++ d.behind)) up down (omega arith) ∙ ap (λ n. value_of (d.front ++ d.behind) * 10 ^ n) same ∙ ap (λ v. v * 10 ^ ((up - d.lowered) - length d.behind)) (pushed-append 0 d.front d.behind)

-- out of range is what has 19 digits or more
pub great_is : (d : Decimal) → is_great d ≡ not (nat_lt (fixed_amount d) (10 ^ 18))
great_is d =
    let base = denominator d in
    let some : 0 < base = some_power (length d.behind + d.lowered) in
    let n = numerator d in
    let a = fixed_amount d in
    let split : a * base + (n * 10 ^ 9) % base ≡ n * 10 ^ 9 = div-add-mod' (n * 10 ^ 9) base in
    let rest : (n * 10 ^ 9) % base < base = mod_below (n * 10 ^ 9) base some in
    elim (cases_lt a (10 ^ 18)) [
      | inl lt ↦
          let most : (a + 1) * base ≤ 10 ^ 18 * base = mul-le (a + 1) base (10 ^ 18) base (omega arith) (omega arith) in
          rw (lt-ltb a (10 ^ 18) lt) (lt-leb (10 ^ 9 * base) n (omega arith))
      | inr ge ↦
          let least : 10 ^ 18 * base ≤ a * base = mul-le (10 ^ 18) base a base (omega arith) (omega arith) in
          rw (le-ltb a (10 ^ 18) ge) (le-leb (10 ^ 9 * base) n (omega arith))
    ]

-- an amount that grows out of range stays out of it
pub none_past : (a b : ℕ) → 10 ^ 18 ≤ a → a ≤ b → in_range b ≡ None
none_past a b out le = rw (le-ltb b (10 ^ 18) (omega arith)) refl

pub some_within : (a : ℕ) → a < 10 ^ 18 → in_range a ≡ Some a
some_within a lt = rw (lt-ltb a (10 ^ 18) lt) refl

-- up to so many places behind the number
pub to_few : (n : ℕ) (ds : List ℕ) (places : ℕ) → places ≤ length ds → pushed_to n ds places ≡ pushed n (take places ds)
to_few n ds places le = rw (le-leb places (length ds) le) refl

pub to_many : (n : ℕ) (ds : List ℕ) (places : ℕ) → length ds < places → pushed_to n ds places ≡ pushed n ds * 10 ^ (places - length ds)
to_many n ds places lt = rw (lt-leb places (length ds) lt) refl

-- no places make it less
pub to_least : (n : ℕ) (ds : List ℕ) (places : ℕ) → n ≤ pushed_to n ds places
to_least n ds places = elim (cases_lt (length ds) places) [
  | inl lt ↦
      let some : 0 < 10 ^ (places - length ds) = some_power (places - length ds) in
      let more : pushed n ds * 1 ≤ pushed n ds * 10 ^ (places - length ds) = mul-le (pushed n ds) 1 (pushed n ds) (10 ^ (places - length ds)) (omega arith) (omega arith) in
      omega (arith, to_many n ds places lt, pushed_least n ds)
  | inr le ↦ omega (arith, to_few n ds places le, pushed_least n (take places ds))
]

pub to_least_many : (n : ℕ) (ds : List ℕ) (places : ℕ) → length ds < places → pushed n ds ≤ pushed_to n ds places
to_least_many n ds places lt =
    let some : 0 < 10 ^ (places - length ds) = some_power (places - length ds) in
    let more : pushed n ds * 1 ≤ pushed n ds * 10 ^ (places - length ds) = mul-le (pushed n ds) 1 (pushed n ds) (10 ^ (places - length ds)) (omega arith) (omega arith) in
    omega (arith, to_many n ds places lt)

pub amount_behind : (d : Decimal) → AreDigits (d.front ++ d.behind) → d.lowered ≤ d.raised + 9 → fixed_amount d ≡ pushed_to (value_of d.front) d.behind ((d.raised + 9) - d.lowered)
amount_behind d digits le = elim (cases_lt (length d.behind) ((d.raised + 9) - d.lowered)) [
  | inl lt ↦ amount_past d le (omega arith) ∙ sym (to_many (value_of d.front) d.behind ((d.raised + 9) - d.lowered) lt)
  | inr fits ↦ amount_among d digits le fits ∙ sym (to_few (value_of d.front) d.behind ((d.raised + 9) - d.lowered) fits)
]

-- an amount that is out of range, or in it
pub out_is : (a : ℕ) → None ≡ in_range a → 10 ^ 18 ≤ a
out_is a none = elim (cases_lt a (10 ^ 18)) [
  | inl lt ↦ let bad = none ∙ some_within a lt in cc
  | inr ge ↦ ge
]

pub in_is : (a n : ℕ) → Some n ≡ in_range a → (n ≡ a) × (a < 10 ^ 18)
in_is a n some = elim (cases_lt a (10 ^ 18)) [
  | inl lt ↦ let same = some ∙ some_within a lt in (cc, lt)
  | inr ge ↦ let bad = some ∙ none_past a a ge (omega arith) in cc
]

pub out_of_range : (d : Decimal) → None ≡ in_range (fixed_amount d) → fixed_if (Some d) ≡ Err Range
out_of_range d none = rw (great_is d, le-ltb (fixed_amount d) (10 ^ 18) (out_is (fixed_amount d) none)) refl

pub within_range : (d : Decimal) (n : ℕ) → Some n ≡ in_range (fixed_amount d) → fixed_if (Some d) ≡ Ok (signed d.negative n)
within_range d n some =
    let is = in_is (fixed_amount d) n some in
    rw (great_is d, lt-ltb (fixed_amount d) (10 ^ 18) is.1, is.0) refl
