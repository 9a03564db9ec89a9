-- Reading a number from its first digit on.
use Rattle.std.proofs.Common.{◌≡◌, ◌<◌, ◌≤◌, ◌^◌, ◌+◌, ◌-◌, ◌*◌, ℕ, suc, Bool, true, false, cond, List, [], ◌∷◌, length, get_or, take, drop, Option, Some, None, refl, sym, ◌∙◌, ap, arith, inl, inr}
use Rattle.std.proofs.lemmas.Bool.{and_parts, cases_Bool, le-ltb, leb-true, lt-ltb, ne_eqb}
use Rattle.std.proofs.lemmas.Grind.{pow_more}
use Rattle.std.proofs.lemmas.List.{at_drop_more, at_drop_all, take_more}
use Rattle.std.proofs.lemmas.List.Sums.{fold_push}
use Rattle.std.proofs.Math.Nat.{pow-le-pow_right}
use Rattle.std.specs.Prelude.{nat_le, nat_lt, ◌==◌, ◌&&◌, if◌then◌else◌}
use Rattle.std.specs.List.{list_all, fold, position_or_len}
use Rattle.std.specs.Char.{is_ascii_digit}
use Rattle.surf_text.specs.Text.{is_blank, is_comment_sign, is_no_digit, front_digits, value_of, whole, below}

abbrev step : ℕ → ℕ → ℕ
step n b = n * 10 + (b - 48)

-- the number whose first digits are n, if it is below 2 ^ 64
pub number_on : ℕ → List ℕ → Option ℕ
number_on n [] = if nat_lt n (2 ^ 64) then Some n else None
number_on n (b ∷ bs) = if is_ascii_digit b then number_on (step n b) bs else None

pub number_on-is : (n : ℕ) (bs : List ℕ) → number_on n bs ≡ cond (list_all is_ascii_digit bs && nat_lt (fold step n bs) (2 ^ 64)) (Some (fold step n bs)) None
unfolding number_on
number_on-is n [] = refl
number_on-is n (b ∷ bs) =
    elim (is_ascii_digit b) as (λ t. cond t (number_on (step n b) bs) None ≡ cond ((t && list_all is_ascii_digit bs) && nat_lt (fold step (step n b) bs) (2 ^ 64)) (Some (fold step (step n b) bs)) None) [
      | true ↦ number_on-is (step n b) bs
      | false ↦ refl
    ]

-- of a token that isn't empty
pub whole-is : (token : List ℕ) → false ≡ (length token == 0) → number_on 0 token ≡ whole token
whole-is [] e = absurd cc
whole-is (b ∷ bs) e = number_on-is 0 (b ∷ bs)

pub too_great : (n : ℕ) (bs : List ℕ) → 2 ^ 64 ≤ n → number_on n bs ≡ None
unfolding number_on
too_great n [] le = rw (le-ltb _ _ le) refl
too_great n (b ∷ bs) le =
    elim (is_ascii_digit b) as (λ t. cond t (number_on (step n b) bs) None ≡ None) [
      | true ↦ too_great (step n b) bs (omega arith)
      | false ↦ refl
    ]

-- the same for numbers of 32 bits
pub too_long : (n : ℕ) (bs : List ℕ) → 2 ^ 32 ≤ n → below (2 ^ 32) (number_on n bs) ≡ None
unfolding number_on
too_long n [] le = elim (cases_Bool (nat_lt n (2 ^ 64))) [ inl fits ↦ rw (fits, le-ltb n (2 ^ 32) le) refl | inr great ↦ rw great refl ]
too_long n (b ∷ bs) le =
    elim (is_ascii_digit b) as (λ t. below (2 ^ 32) (cond t (number_on (step n b) bs) None) ≡ None) [
      | true ↦ too_long (step n b) bs (omega arith)
      | false ↦ refl
    ]

pub digit_more : (token : List ℕ) (i n b : ℕ) → i < length token → b ≡ get_or token i 0 → is_ascii_digit b ≡ true → number_on n (drop i token) ≡ number_on (step n b) (drop (i + 1) token)
unfolding number_on
digit_more token i n b lt is digit =
    let e : number_on n (drop i token) ≡ cond (is_ascii_digit (get_or token i 0)) (number_on (step n (get_or token i 0)) (drop (i + 1) token)) None = at_drop_more (number_on n) token i 0 lt in
    e ∙ ap (λ (x : ℕ). cond (is_ascii_digit x) (number_on (step n x) (drop (i + 1) token)) None) (sym is) ∙ ap (λ (t : Bool). cond t (number_on (step n b) (drop (i + 1) token)) None) digit

pub no_digit : (token : List ℕ) (i n b : ℕ) → i < length token → b ≡ get_or token i 0 → is_ascii_digit b ≡ false → number_on n (drop i token) ≡ None
unfolding number_on
no_digit token i n b lt is digit =
    let e : number_on n (drop i token) ≡ cond (is_ascii_digit (get_or token i 0)) (number_on (step n (get_or token i 0)) (drop (i + 1) token)) None = at_drop_more (number_on n) token i 0 lt in
    e ∙ ap (λ (x : ℕ). cond (is_ascii_digit x) (number_on (step n x) (drop (i + 1) token)) None) (sym is) ∙ ap (λ (t : Bool). cond t (number_on (step n b) (drop (i + 1) token)) None) digit

pub number_all : (token : List ℕ) (i n : ℕ) → length token ≤ i → n < 2 ^ 64 → number_on n (drop i token) ≡ Some n
unfolding number_on
number_all token i n le lt = at_drop_all (number_on n) token i le ∙ ap (λ (t : Bool). cond t (Some n) None) (lt-ltb _ _ lt)

-- a digit too many
pub no_whole : (token : List ℕ) (i n : ℕ) → false ≡ (length token == 0) → i < length token → number_on n (drop i token) ≡ number_on 0 token → is_ascii_digit (get_or token i 0) ≡ true → 2 ^ 64 ≤ n * 10 + (get_or token i 0 - 48) → None ≡ whole token
no_whole token i n some lt so_far digit le =
    sym (too_great (step n (get_or token i 0)) (drop (i + 1) token) le)
    ∙ sym (digit_more token i n (get_or token i 0) lt refl digit)
    ∙ so_far
    ∙ whole-is token some

pub digit_low : (b : ℕ) → is_ascii_digit b ≡ true → 48 ≤ b
digit_low b digit = leb-true 48 b (and_parts (nat_le 48 b) (nat_le b 57) digit).0

pub digit_high : (b : ℕ) → is_ascii_digit b ≡ true → b ≤ 57
digit_high b digit = leb-true b 57 (and_parts (nat_le 48 b) (nat_le b 57) digit).1

-- the bound for one digit more
pub digit_fits : (n b i : ℕ) → n < 10 ^ i → is_ascii_digit b ≡ true → n * 10 + (b - 48) < 10 ^ (i + 1)
digit_fits n b i fits digit = omega (arith, fits, digit_high b digit, pow_more 10 i)

-- the numbers of so few digits
pub few_fit : (n i : ℕ) → i < 8 → n < 10 ^ i → n < 10000000
few_fit n i lt fits =
    let most : i ≤ 7 = omega (arith, lt) in
    let some : 0 < 10 = omega arith in
    let le : 10 ^ i ≤ 10 ^ 7 = pow-le-pow_right some most in
    omega (arith, fits, le)

-- what the digits so far stand for, and one more
pub value_more : (bytes : List ℕ) (i n : ℕ) → i < length bytes → n ≡ value_of (take i bytes) → n * 10 + (get_or bytes i 0 - 48) ≡ value_of (take (i + 1) bytes)
value_more bytes i n lt is =
    ap (λ (m : ℕ). step m (get_or bytes i 0)) is
    ∙ sym (fold_push step 0 (take i bytes) (get_or bytes i 0))
    ∙ ap value_of (sym (take_more bytes i 0 lt))

pub digits_all : (bytes : List ℕ) → list_all is_ascii_digit (front_digits bytes) ≡ true
digits_all [] = refl
digits_all (b ∷ bs) =
    let k : 1 + position_or_len is_no_digit bs ≡ suc (position_or_len is_no_digit bs) = omega arith in
    elim (cases_Bool (is_ascii_digit b)) [
      | inl digit ↦ rw (digit, k, digit) (digits_all bs)
      | inr other ↦ rw other refl
    ]

-- no byte above the comment sign is a blank or a comment sign
pub blank_low : (b : ℕ) → 35 < b → is_blank b ≡ false
blank_low b lt = rw (ne_eqb b 32 (λ e. absurd (omega arith)), ne_eqb b 9 (λ e. absurd (omega arith)), ne_eqb b 13 (λ e. absurd (omega arith))) refl

pub comment_low : (b : ℕ) → 35 < b → is_comment_sign b ≡ false
comment_low b lt = ne_eqb b 35 (λ e. absurd (omega arith))
