-- Plain lines `u v n`.
use Rattle.std.proofs.Common.{◌≡◌, ◌<◌, ◌≤◌, ◌+◌, ◌-◌, ◌⊎◌, ◌||◌, ℕ, Bool, true, false, eqb, ne_eqb, eqb-true, List, [], ◌∷◌, ◌++◌, length, length-append, append_assoc, take, All, Some, refl, sym, ◌∙◌, ap, arith, inl, inr}
use Rattle.surf_surfaces.proofs.Common.{AllByRecursion, list_all, position_or_len, slice_split, and_parts, or_cases, or_right, append-nil, take_all, All-from_recursion, is_ascii_digit, take-append_seam}
use Rattle.std.proofs.lemmas.List.Folds.{list_all-append}
use Rattle.std.proofs.lemmas.List.Splits.{slice_split_at, slice_split_none}
use Rattle.surf_text.specs.Text.{is_line_end, is_comment_sign, is_nonempty, before_some, short_whole, tokens_of, trimmed, trimmed_front, trimmed_back, uncommented}
use Rattle.surf_text.proofs.Digits.{digit_low, blank_low}
use Rattle.surf_text.proofs.Plain.{is_space, plain_tokens, short_is_whole, whole_some}
use Rattle.surf_lengths.specs.Lines.{three_numbers}
use Rattle.surf_lengths.specs.Plain.{IsPlain}

-- a search passes over bytes at none of which it ends
passed : (p ok : ℕ → Bool) (xs tail : List ℕ) → ((b : ℕ) → ok b ≡ true → p b ≡ false) → list_all ok xs ≡ true →
    position_or_len p (xs ++ tail) ≡ length xs + position_or_len p tail
passed p ok [] tail none all = omega arith
passed p ok (x ∷ xs) tail none all =
    let both = and_parts (ok x) (list_all ok xs) all in
    let rest : position_or_len p (xs ++ tail) ≡ length xs + position_or_len p tail = passed p ok xs tail none both.1 in
    rw (none x both.0) (omega (arith, rest))

-- a space or a digit
is_light : ℕ → Bool
is_light b = is_space b || is_ascii_digit b

light_is : (b : ℕ) → is_light b ≡ true → (b ≡ 32) ⊎ (48 ≤ b)
unfolding is_light
light_is b h = elim (or_cases (is_space b) (is_ascii_digit b) h) [
  | inl space ↦ inl (eqb-true b 32 space)
  | inr digit ↦ inr (digit_low b digit)
]

-- no other byte below the digits
light_not : (m : ℕ) → m < 48 → (m ≡ 32 → ⊥) → (b : ℕ) → is_light b ≡ true → eqb b m ≡ false
light_not m low other b h = ne_eqb b m (λ same. elim (light_is b h) [
  | inl space ↦ other (sym same ∙ space)
  | inr digit ↦ absurd (omega (arith, same, digit, low))
])

light_digits : (ds : List ℕ) → list_all is_ascii_digit ds ≡ true → list_all is_light ds ≡ true
unfolding is_light
light_digits [] all = refl
light_digits (d ∷ ds) all =
    let both = and_parts (is_ascii_digit d) (list_all is_ascii_digit ds) all in
    rw (or_right (is_space d) (is_ascii_digit d) both.0) (light_digits ds both.1)

light_more : (xs ys : List ℕ) → list_all is_light xs ≡ true → list_all is_light ys ≡ true → list_all is_light (xs ++ ys) ≡ true
light_more xs ys first second = list_all-append is_light xs ys ∙ rw (first, second) refl

dark_digits : (ds : List ℕ) → list_all is_ascii_digit ds ≡ true → AllByRecursion (λ b. is_space b ≡ false) ds
dark_digits [] all = tt
dark_digits (d ∷ ds) all =
    let both = and_parts (is_ascii_digit d) (list_all is_ascii_digit ds) all in
    let low : 48 ≤ d = digit_low d both.0 in
    (ne_eqb d 32 (λ e. absurd (omega (arith, low, e))), dark_digits ds both.1)

-- no blank stands in front of a number
front_is : (ds tail : List ℕ) → is_nonempty ds ≡ true → list_all is_ascii_digit ds ≡ true → trimmed_front (ds ++ tail) ≡ ds ++ tail
front_is [] tail some all = absurd cc
front_is (d ∷ ds) tail some all =
    let low : 48 ≤ d = digit_low d (and_parts (is_ascii_digit d) (list_all is_ascii_digit ds) all).0 in
    rw (blank_low d (omega (arith, low))) refl

-- nor behind one
back_word : (ds : List ℕ) → is_nonempty ds ≡ true → list_all is_ascii_digit ds ≡ true → trimmed_back ds ≡ ds
back_word [] some all = absurd cc
back_word (d ∷ []) some all =
    let low : 48 ≤ d = digit_low d (and_parts (is_ascii_digit d) true all).0 in
    rw (blank_low d (omega (arith, low))) refl
back_word (d ∷ e ∷ ds) some all =
    ap (before_some d) (back_word (e ∷ ds) refl (and_parts (is_ascii_digit d) (list_all is_ascii_digit (e ∷ ds)) all).1)

some_more : (xs ys : List ℕ) → is_nonempty ys ≡ true → is_nonempty (xs ++ ys) ≡ true
some_more [] ys some = some
some_more (x ∷ xs) ys some = refl

back_more : (xs ys : List ℕ) → is_nonempty ys ≡ true → trimmed_back ys ≡ ys → trimmed_back (xs ++ ys) ≡ xs ++ ys
back_more [] ys some is = is
back_more (x ∷ xs) ys some is = ap (before_some x) (back_more xs ys some is) ∙ at (xs ++ ys) (some_more xs ys some)
  where
    at : (zs : List ℕ) → is_nonempty zs ≡ true → before_some x zs ≡ x ∷ zs
    at [] e = absurd cc
    at (z ∷ zs) e = refl

module _ (u v n behind : List ℕ) (i j k : ℕ) (first : short_whole u ≡ Some i) (second : short_whole v ≡ Some j) (third : short_whole n ≡ Some k) where
  line : List ℕ
  line = u ++ 32 ∷ (v ++ 32 ∷ n)

  digits : (w : List ℕ) (m : ℕ) → short_whole w ≡ Some m → (is_nonempty w ≡ true) × (list_all is_ascii_digit w ≡ true)
  digits w m is = whole_some w m (short_is_whole w m is).0

  light : list_all is_light line ≡ true
  unfolding line is_light
  light =
      let rest : list_all is_light (v ++ 32 ∷ n) ≡ true = light_more v (32 ∷ n) (light_digits v (digits v j second).1) (light_digits n (digits n k third).1) in
      light_more u (32 ∷ (v ++ 32 ∷ n)) (light_digits u (digits u i first).1) rest

  end_is : position_or_len is_line_end (line ++ 10 ∷ behind) ≡ length line
  end_is =
      let past : position_or_len is_line_end (line ++ 10 ∷ behind) ≡ length line + 0 =
      passed is_line_end is_light line (10 ∷ behind) (light_not 10 (omega arith) (λ e. absurd (omega (arith, e)))) light in
      omega (arith, past)

  sign_is : position_or_len is_comment_sign line ≡ length line
  sign_is =
      let past : position_or_len is_comment_sign (line ++ []) ≡ length line + 0 =
      passed is_comment_sign is_light line [] (light_not 35 (omega arith) (λ e. absurd (omega (arith, e)))) light in
      ap (position_or_len is_comment_sign) (sym (append-nil line)) ∙ omega (arith, past)

  uncommented_is : uncommented line ≡ line
  uncommented_is = ap (λ (m : ℕ). take m line) sign_is ∙ take_all (length line) line (omega arith)

  trimmed_is : trimmed line ≡ line
  unfolding line
  trimmed_is =
      let one : trimmed_back (32 ∷ n) ≡ 32 ∷ n = back_more (32 ∷ []) n (digits n k third).0 (back_word n (digits n k third).0 (digits n k third).1) in
      let two : trimmed_back (32 ∷ (v ++ 32 ∷ n)) ≡ 32 ∷ (v ++ 32 ∷ n) = back_more (32 ∷ []) (v ++ 32 ∷ n) (some_more v (32 ∷ n) refl) (back_more v (32 ∷ n) refl one) in
      ap trimmed_back (front_is u (32 ∷ (v ++ 32 ∷ n)) (digits u i first).0 (digits u i first).1) ∙ back_more u (32 ∷ (v ++ 32 ∷ n)) refl two

  parts : slice_split is_space line ≡ u ∷ v ∷ n ∷ []
  unfolding line
  parts =
      let dark : (w : List ℕ) (m : ℕ) → short_whole w ≡ Some m → All (λ b. is_space b ≡ false) w =
      λ w m is. All-from_recursion (λ b. is_space b ≡ false) w (dark_digits w (digits w m is).1) in
      slice_split_at is_space u 32 (v ++ 32 ∷ n) (dark u i first) refl
      ∙ ap (λ (ps : List (List ℕ)). u ∷ ps) (slice_split_at is_space v 32 n (dark v j second) refl)
      ∙ ap (λ (ps : List (List ℕ)). u ∷ v ∷ ps) (slice_split_none is_space n (dark n k third))

  tokens : tokens_of line ≡ u ∷ v ∷ n ∷ []
  tokens = plain_tokens line (rw parts ((i, first), ((j, second), ((k, third), tt)))) ∙ parts

  numbers : three_numbers (tokens_of line) ≡ Some (i, j, k)
  numbers = rw (tokens, (short_is_whole u i first).0, (short_is_whole v j second).0, (short_is_whole n k third).0) refl

  -- the line in a text that goes on behind it
  module _ (text : List ℕ) (is : text ≡ u ++ 32 ∷ (v ++ 32 ∷ (n ++ 10 ∷ behind))) (len : ℕ) (len_is : len ≡ length text - length behind - 1) where
    text_is : text ≡ line ++ 10 ∷ behind
    unfolding line
    text_is =
        is
        ∙ ap (λ (t : List ℕ). u ++ 32 ∷ t) (sym (append_assoc v (32 ∷ n) (10 ∷ behind)))
        ∙ sym (append_assoc u (32 ∷ (v ++ 32 ∷ n)) (10 ∷ behind))

    size : len ≡ length line
    size =
        let both : length (line ++ 10 ∷ behind) ≡ length line + length (10 ∷ behind) = length-append line (10 ∷ behind) in
        let whole : length text ≡ length (line ++ 10 ∷ behind) = ap (λ (t : List ℕ). length t) text_is in
        omega (arith, both, whole, len_is)

    front : take len text ≡ line
    front = rw (size, text_is) (take-append_seam line (10 ∷ behind))

    pub plain_line : IsPlain text (record { u = i; v = j; n = k; len = len })
    plain_line = record {
      len = ap (position_or_len is_line_end) text_is ∙ end_is ∙ sym size;
      bytes = rw (front, uncommented_is) trimmed_is;
      numbers = rw front numbers;
    }
