-- Counting the tokens of a line by their first bytes.
use Rattle.std.proofs.Common.{◌≡◌, ◌<◌, ◌≤◌, ◌+◌, ◌-◌, ◌⊎◌, ℕ, zero, suc, Bool, true, false, List, [], ◌∷◌, length, get_or, drop, refl, sym, ◌∙◌, ap, arith, inl, inr, not}
use Rattle.std.specs.Prelude.{if◌then◌else◌, nat_le, ◌==◌}
use Rattle.std.specs.List.{slice_split, position_or_len, filter}
use Rattle.std.proofs.lemmas.Bool.{cases_Bool, cases_lt, lt-leb, le-leb, not-true, not-false}
use Rattle.std.proofs.Math.Dec.{eqb-suc-zero}
use Rattle.std.proofs.lemmas.List.{at_drop_more, at_drop_all}
use Rattle.surf_text.proofs.Digits.{blank_low, comment_low}
use Rattle.surf_text.specs.Text.{is_blank, is_comment_sign, is_nonempty, uncommented, tokens_of}

-- how many tokens begin in bytes that stand within a token or not
pub count_on : Bool → List ℕ → ℕ
count_on inside [] = 0
count_on inside (b ∷ bs) =
    if is_comment_sign b then 0
    else (if is_blank b then count_on false bs
    else (if inside then count_on true bs else suc (count_on true bs)))

-- the first part of a line, and the others
record Counted (bs : List ℕ) : Type 0 where
  head : List ℕ
  tail : List (List ℕ)
  is : slice_split is_blank (uncommented bs) ≡ head ∷ tail
  outside : count_on false bs ≡ length (filter is_nonempty (head ∷ tail))
  within : count_on true bs ≡ length (filter is_nonempty tail)

counted : (bs : List ℕ) → Counted bs
unfolding count_on
counted [] = record { head = []; tail = []; is = refl; outside = refl; within = refl }
counted (b ∷ bs) =
    let c = counted bs in
    let n = position_or_len is_comment_sign bs in
    let k : 1 + n ≡ suc n = omega arith in
    elim (cases_Bool (is_comment_sign b)) [
      | inl sign ↦ record { head = []; tail = []; is = rw sign refl; outside = rw sign refl; within = rw sign refl }
      | inr plain ↦ elim (cases_Bool (is_blank b)) [
        | inl blank ↦ record { head = []; tail = c.head ∷ c.tail; is = rw (plain, k, blank, c.is) refl; outside = rw (plain, blank) c.outside; within = rw (plain, blank) c.outside }
        | inr dark ↦ record { head = b ∷ c.head; tail = c.tail; is = rw (plain, k, dark, c.is) refl; outside = rw (plain, dark) (ap suc c.within); within = rw (plain, dark) c.within }
      ]
    ]

pub count_is : (line : List ℕ) → count_on false line ≡ length (tokens_of line)
count_is line = let c = counted line in c.outside ∙ ap (λ (parts : List (List ℕ)). length (filter is_nonempty parts)) (sym c.is)

module _ (line : List ℕ) (i : ℕ) (lt : i < length line) (inside : Bool) where
  next : count_on inside (drop i line) ≡ (if is_comment_sign (get_or line i 0) then 0
      else (if is_blank (get_or line i 0) then count_on false (drop (i + 1) line)
      else (if inside then count_on true (drop (i + 1) line) else suc (count_on true (drop (i + 1) line)))))
  unfolding count_on
  next = at_drop_more (count_on inside) line i 0 lt

  pub count_stops : is_comment_sign (get_or line i 0) ≡ true → count_on inside (drop i line) ≡ 0
  count_stops sign = next ∙ rw sign refl

  module _ (plain : is_comment_sign (get_or line i 0) ≡ false) where
    count_blank : is_blank (get_or line i 0) ≡ true → count_on inside (drop i line) ≡ count_on false (drop (i + 1) line)
    count_blank blank = next ∙ rw (plain, blank) refl

    count_within : is_blank (get_or line i 0) ≡ false → inside ≡ true → count_on inside (drop i line) ≡ count_on true (drop (i + 1) line)
    count_within dark in' = next ∙ rw (plain, dark, in') refl

    count_first : is_blank (get_or line i 0) ≡ false → inside ≡ false → count_on inside (drop i line) ≡ suc (count_on true (drop (i + 1) line))
    count_first dark out = next ∙ rw (plain, dark, out) refl

above_zero : (n : ℕ) → (n ≡ 0 → ⊥) → 0 < n
above_zero zero some = absurd (some refl)
above_zero (suc n) some = omega arith

-- What is missing can't be had where nothing follows.
pub some_missing : (missing : ℕ) → (missing ≡ 0 → ⊥) → false ≡ nat_le missing 0
some_missing missing some = sym (lt-leb missing 0 (above_zero missing some))

one_less : (missing n : ℕ) → (missing ≡ 0 → ⊥) → nat_le (missing - 1) n ≡ nat_le missing (suc n)
one_less missing n some =
    let positive = above_zero missing some in
    elim (cases_lt n (missing - 1)) [
      | inl lt ↦ lt-leb (missing - 1) n lt ∙ sym (lt-leb missing (suc n) (omega arith))
      | inr le ↦ le-leb (missing - 1) n le ∙ sym (le-leb missing (suc n) (omega arith))
    ]

-- one byte more, and what it leaves missing
module _ (line : List ℕ) (i missing : ℕ) (inside dark : Bool) (lt : i < length line) (plain : is_comment_sign (get_or line i 0) ≡ false) (tested : dark ≡ not (is_blank (get_or line i 0))) where
  pub still_missing : (dark ≡ false) ⊎ ((dark ≡ true) × (inside ≡ true)) → nat_le missing (count_on dark (drop (i + 1) line)) ≡ nat_le missing (count_on inside (drop i line))
  still_missing (inl out) = ap (nat_le missing) (ap (λ (d : Bool). count_on d (drop (i + 1) line)) out ∙ sym (count_blank line i lt inside plain (not-false (is_blank (get_or line i 0)) (sym tested ∙ out))))
  still_missing (inr both) = ap (nat_le missing) (ap (λ (d : Bool). count_on d (drop (i + 1) line)) both.0 ∙ sym (count_within line i lt inside plain (not-true (is_blank (get_or line i 0)) (sym tested ∙ both.0)) both.1))

  pub one_found : (missing ≡ 0 → ⊥) → dark ≡ true → inside ≡ false → nat_le (missing - 1) (count_on dark (drop (i + 1) line)) ≡ nat_le missing (count_on inside (drop i line))
  one_found some in' out =
      ap (λ (d : Bool). nat_le (missing - 1) (count_on d (drop (i + 1) line))) in'
      ∙ one_less missing (count_on true (drop (i + 1) line)) some
      ∙ ap (nat_le missing) (sym (count_first line i lt inside plain (not-true (is_blank (get_or line i 0)) (sym tested ∙ in')) out))

-- a byte within a token
pub still_within : (line : List ℕ) (i missing : ℕ) (inside : Bool) → i < length line → 35 < get_or line i 0 → inside ≡ true
    → nat_le missing (count_on inside (drop (i + 1) line)) ≡ nat_le missing (count_on inside (drop i line))
still_within line i missing inside lt high in' =
    let b = get_or line i 0 in
    ap (nat_le missing) (ap (λ (t : Bool). count_on t (drop (i + 1) line)) in' ∙ sym (count_within line i lt inside (comment_low b high) (blank_low b high) in'))

-- the first byte of a token, which is greater than blanks and the comment sign
module _ (line : List ℕ) (i missing : ℕ) (inside : Bool) (lt : i < length line) (high : 35 < get_or line i 0) (out : inside ≡ false) where
  pub first_within : 1 < missing → nat_le (missing - 1) (count_on true (drop (i + 1) line)) ≡ nat_le missing (count_on inside (drop i line))
  first_within some =
      one_found line i missing inside true lt (comment_low (get_or line i 0) high) (ap not (sym (blank_low (get_or line i 0) high))) (λ e. absurd (omega (arith, e, some))) refl out

  pub last_found : missing ≤ 1 → true ≡ nat_le missing (count_on inside (drop i line))
  last_found last =
      sym (ap (nat_le missing) (count_first line i lt inside (comment_low (get_or line i 0) high) (blank_low (get_or line i 0) high) out)
      ∙ le-leb missing (suc (count_on true (drop (i + 1) line))) (omega (arith, last)))

pub at_space : (line : List ℕ) (i missing : ℕ) (inside : Bool) → i < length line → get_or line i 0 ≡ 32 → nat_le missing (count_on false (drop (i + 1) line)) ≡ nat_le missing (count_on inside (drop i line))
at_space line i missing inside lt is = still_missing line i missing inside false lt (ap is_comment_sign is) (ap (λ (b : ℕ). not (is_blank b)) (sym is)) (inl refl)

pub count_ends : (line : List ℕ) (i : ℕ) (inside : Bool) → length line ≤ i → count_on inside (drop i line) ≡ 0
unfolding count_on
count_ends line i inside le = at_drop_all (count_on inside) line i le

pub none_left : (missing : ℕ) → (missing == 0) ≡ nat_le missing 0
none_left zero = refl
none_left (suc n) = eqb-suc-zero n ∙ sym (lt-leb (suc n) 0 (omega arith))
