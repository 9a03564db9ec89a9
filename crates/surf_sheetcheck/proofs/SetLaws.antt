-- Sets of numbers as numbers, bit by bit.
use Rattle.std.proofs.Common.{◌≡◌, ℕ, ◌<◌, ◌≤◌, ◌+◌, ◌-◌, ◌*◌, ◌/◌, ◌^◌, ◌&&◌, ◌||◌, Bool, true, false, not, eqb, nat_le, nat_lt, List, [], ◌∷◌, map, refl, sym, ap, ◌∙◌, subst, arith, inl, inr, bit_xor}
use Rattle.surf_surfaces.proofs.Common.{false≢true, cases_eq, cases_lt, eq-eqb, ne_eqb, lt-ltb, le-ltb, le-leb, lt-leb, AllByRecursion, has, has-xor, xor, odd, numbers, sum_of, xor_lt, pow_below, pow_pos}
use Rattle.surf_signatures.specs.Tables.{words_for}
use Rattle.surf_certcheck.proofs.Placing.{has_one, has_other, has_none, has_above}
use Rattle.surf_sheetcheck.specs.Cocycles.{set_of}
use Rattle.surf_sheetcheck.specs.Tables.{is_within}

-- a set of numbers up to w, which count from 1, is below the power of w
pub set_small : (w : ℕ) (row : List ℕ) → AllByRecursion (λ i. (1 ≤ i) × (i ≤ w)) row → set_of row < 2 ^ w
set_small w [] h = pow_pos w
set_small w (i ∷ rest) h =
    xor_lt w (2 ^ (i - 1)) (set_of rest) (pow_below (i - 1) w (omega (arith, h.0.0, h.0.1))) (set_small w rest h.1)

-- and fits its words
pub fits_words : (w x : ℕ) → x < 2 ^ w → x < 2 ^ (64 * words_for w)
fits_words w x small =
    let room : w ≤ 64 * ((w + 63) / 64) = omega arith in
    elim (cases_eq w (64 * ((w + 63) / 64))) [
      | inl same ↦ subst (λ n. x < 2 ^ n) same small
      | inr ne ↦
          let more : 2 ^ w < 2 ^ (64 * ((w + 63) / 64)) = pow_below w (64 * ((w + 63) / 64)) (omega (arith, room, ne)) in
          omega (arith, more, small)
    ]

-- a sum has a number where an odd number of its members have it
pub has_sum : {X : Type 0} (f : X → ℕ) (xs : List X) (i : ℕ) →
    has (sum_of numbers (map f xs)) i ≡ odd (map (λ x. has (f x) i) xs)
has_sum f [] i = has_none i
has_sum f (x ∷ xs) i = has-xor (f x) (sum_of numbers (map f xs)) i ∙ ap (xor (has (f x) i)) (has_sum f xs i)

-- a number is taken out of a set that has it, and the others stay
pub out : (x i : ℕ) → has x i ≡ true → (j : ℕ) → has (bit_xor x (2 ^ i)) j ≡ (has x j && not (eqb i j))
out x i on j = elim (cases_eq i j) [
  | inl same ↦
      has-xor x (2 ^ i) j ∙ ap (λ k. xor (has x k) (has (2 ^ i) k)) (sym same)
      ∙ ap (λ b. xor b (has (2 ^ i) i)) on ∙ ap (xor true) (has_one i)
      ∙ sym (ap (λ b. has x j && not b) (eq-eqb i j same) ∙ and_no (has x j))
  | inr ne ↦
      has-xor x (2 ^ i) j ∙ ap (xor (has x j)) (has_other i j (λ e. ne (sym e)))
      ∙ xor_no (has x j) ∙ sym (ap (λ b. has x j && not b) (ne_eqb i j ne) ∙ and_yes (has x j))
]
  where
    and_no : (b : Bool) → (b && false) ≡ false
    and_no true = refl
    and_no false = refl

    and_yes : (b : Bool) → (b && true) ≡ b
    and_yes true = refl
    and_yes false = refl

    xor_no : (b : Bool) → xor b false ≡ b
    xor_no true = refl
    xor_no false = refl

-- one number more is within
within_more : (from i j : ℕ) → from ≤ i → is_within from (i + 1) j ≡ (is_within from i j || eqb i j)
within_more from i j l = elim (cases_eq i j) [
  | inl same ↦
      rw (eq-eqb i j same, lt-ltb j (i + 1) (omega (arith, same)), le-leb from j (omega (arith, l, same))) (or_yes (true && nat_lt j i))
  | inr ne ↦ elim (cases_lt j i) [
    | inl less ↦ rw (ne_eqb i j ne, lt-ltb j (i + 1) (omega (arith, less)), lt-ltb j i less) (or_no (nat_le from j && true))
    | inr more ↦ rw (ne_eqb i j ne, le-ltb j (i + 1) (omega (arith, more, ne)), le-ltb j i more) (or_no (nat_le from j && false))
  ]
]
  where
    or_yes : (b : Bool) → true ≡ (b || true)
    or_yes true = refl
    or_yes false = refl

    or_no : (b : Bool) → b ≡ (b || false)
    or_no true = refl
    or_no false = refl

-- a set from which the numbers before i are taken, and then i, if it has it
pub cleared_more : (from i old mid new : ℕ) → from ≤ i → ((j : ℕ) → has mid j ≡ (has old j && not (is_within from i j))) →
    ((j : ℕ) → has new j ≡ (has mid j && not (eqb i j))) →
    (j : ℕ) → has new j ≡ (has old j && not (is_within from (i + 1) j))
cleared_more from i old mid new l was now j =
    now j ∙ ap (λ b. b && not (eqb i j)) (was j)
    ∙ both (has old j) (is_within from i j) (eqb i j) ∙ ap (λ b. has old j && not b) (sym (within_more from i j l))
  where
    both : (a b c : Bool) → ((a && not b) && not c) ≡ (a && not (b || c))
    both true true c = refl
    both true false c = refl
    both false b c = refl

-- a set without a number stays when that is taken out
pub out_already : (x i : ℕ) → has x i ≡ false → (j : ℕ) → has x j ≡ (has x j && not (eqb i j))
out_already x i off j = elim (cases_eq i j) [
  | inl same ↦ rw (eq-eqb i j same) (ap (has x) (sym same) ∙ off ∙ sym (and_no (has x j)))
  | inr ne ↦ rw (ne_eqb i j ne) (sym (and_yes (has x j)))
]
  where
    and_no : (b : Bool) → (b && false) ≡ false
    and_no true = refl
    and_no false = refl

    and_yes : (b : Bool) → (b && true) ≡ b
    and_yes true = refl
    and_yes false = refl

-- nothing is taken out before the first number
pub cleared_none : (from old : ℕ) (j : ℕ) → has old j ≡ (has old j && not (is_within from from j))
cleared_none from old j = elim (cases_lt j from) [
  | inl less ↦ rw (leb-false' less) (sym (and_yes (has old j)))
  | inr more ↦ rw (le-ltb j from more) (sym (yes_and (has old j) (nat_le from j)))
]
  where
    leb-false' : j < from → nat_le from j ≡ false
    leb-false' l = lt-leb from j l

    and_yes : (b : Bool) → (b && true) ≡ b
    and_yes true = refl
    and_yes false = refl

    yes_and : (b c : Bool) → (b && not (c && false)) ≡ b
    yes_and true true = refl
    yes_and true false = refl
    yes_and false c = refl

-- a set from which a number is taken fits where it did
pub out_small : (x i n : ℕ) → has x i ≡ true → x < 2 ^ n → bit_xor x (2 ^ i) < 2 ^ n
out_small x i n on small = elim (cases_lt i n) [
  | inl below ↦ xor_lt n x (2 ^ i) small (pow_below i n below)
  | inr above ↦ absurd (false≢true (sym (has_above n x i small above) ∙ on))
]
