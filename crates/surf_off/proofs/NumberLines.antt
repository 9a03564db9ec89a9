-- Lines of numbers, and their tokens.
use Rattle.surf_surfaces.proofs.Common.{◌≡◌, ◌<◌, ◌+◌, ◌^◌, ℕ, suc, Bool, true, false, List, [], ◌∷◌, ◌++◌, length, take, drop, refl, sym, ◌∙◌, ap, append_assoc, arith, decimal, map, list_any, position_or_len, append-nil}
use Rattle.std.proofs.lemmas.List.Folds.{list_any-append}
use Rattle.std.proofs.Math.Seq.{take-append_seam, drop-append_seam}
use Rattle.surf_text.specs.Text.{is_blank, is_line_end, is_comment_sign, is_nonempty, uncommented, words_of, tokens_of, trimmed_front, trimmed_back, trimmed, before_some, behind_word, behind_words, rest_after}
use Rattle.surf_text.proofs.Words.{words_first}
use Rattle.surf_off.specs.Clean.{IsClean}
use Rattle.surf_text.specs.Numbers.{numbers_text}
use Rattle.surf_off.specs.Written.{colour_text}
use Rattle.surf_off.proofs.CleanLines.{none_head, none_tail, trimmed_is, trimmed_fronts, trimmed_backs}
use Rattle.surf_off.proofs.Decimals.{word_decimal}

-- nothing, or something that begins with a blank
abbrev pub opens : List ℕ → Bool
opens [] = true
opens (b ∷ bs) = is_blank b

-- What has no comment sign stands before a comment.
pub uncommented_more : (xs ys : List ℕ) → list_any is_comment_sign xs ≡ false → uncommented (xs ++ ys) ≡ xs ++ uncommented ys
uncommented_more [] ys none = refl
uncommented_more (x ∷ xs) ys none =
    let n = position_or_len is_comment_sign (xs ++ ys) in
    let k : 1 + n ≡ suc n = omega arith in
    rw (none_head is_comment_sign x xs none, k) (ap (λ (t : List ℕ). x ∷ t) (uncommented_more xs ys (none_tail is_comment_sign x xs none)))

pub uncommented_is : (bs : List ℕ) → list_any is_comment_sign bs ≡ false → uncommented bs ≡ bs
uncommented_is bs none = ap uncommented (sym (append-nil bs)) ∙ uncommented_more bs [] none ∙ append-nil bs

word_len : (w tail : List ℕ) → list_any is_blank w ≡ false → opens tail ≡ true → position_or_len is_blank (w ++ tail) ≡ length w
word_len [] [] dark ahead = refl
word_len [] (b ∷ bs) dark ahead = rw ahead refl
word_len (x ∷ xs) tail dark ahead =
    let here = none_head is_blank x xs dark in
    let later = word_len xs tail (none_tail is_blank x xs dark) ahead in
    rw here (omega (arith, later))

-- a word in front of what begins with a blank
pub words_word : (w tail : List ℕ) → is_nonempty w ≡ true → list_any is_blank w ≡ false → opens tail ≡ true → words_of (w ++ tail) ≡ w ∷ words_of tail
words_word [] tail some dark ahead = absurd cc
words_word (x ∷ xs) tail some dark ahead =
    let n = word_len (x ∷ xs) tail dark ahead in
    words_first x (xs ++ tail) (none_head is_blank x xs dark)
    ∙ ap (λ (k : ℕ). take k ((x ∷ xs) ++ tail) ∷ words_of (drop k ((x ∷ xs) ++ tail))) n
    ∙ ap (λ (w : List ℕ). w ∷ words_of (drop (length (x ∷ xs)) ((x ∷ xs) ++ tail))) (take-append_seam (x ∷ xs) tail)
    ∙ ap (λ (t : List ℕ). (x ∷ xs) ∷ words_of t) (drop-append_seam (x ∷ xs) tail)

pub behind_first : (w tail : List ℕ) → list_any is_blank w ≡ false → opens tail ≡ true → behind_word (w ++ tail) ≡ trimmed_front tail
behind_first w tail dark ahead =
    ap (λ (k : ℕ). trimmed_front (drop k (w ++ tail))) (word_len w tail dark ahead) ∙ ap trimmed_front (drop-append_seam w tail)

pub front_word : (w tail : List ℕ) → is_nonempty w ≡ true → list_any is_blank w ≡ false → trimmed_front (w ++ tail) ≡ w ++ tail
front_word [] tail some dark = absurd cc
front_word (x ∷ xs) tail some dark = rw (none_head is_blank x xs dark) refl

-- a word and what stands behind it
pub back_word : (w tail : List ℕ) → list_any is_blank w ≡ false → trimmed_back (w ++ tail) ≡ w ++ trimmed_back tail
back_word [] tail dark = refl
back_word (x ∷ xs) tail dark = ap (before_some x) (back_word xs tail (none_tail is_blank x xs dark)) ∙ at (xs ++ trimmed_back tail)
  where
    at : (bs : List ℕ) → before_some x bs ≡ x ∷ bs
    at [] = rw (none_head is_blank x xs dark) refl
    at (y ∷ ys) = refl

-- the same with no blank at the end
back_word_then : (w tail : List ℕ) → list_any is_blank w ≡ false → trimmed_back tail ≡ tail → trimmed_back (w ++ tail) ≡ w ++ tail
back_word_then w tail dark same = back_word w tail dark ∙ ap (λ (t : List ℕ). w ++ t) same

-- the same behind a space
back_space : (w tail : List ℕ) → is_nonempty w ≡ true → list_any is_blank w ≡ false → trimmed_back tail ≡ tail → trimmed_back (32 ∷ (w ++ tail)) ≡ 32 ∷ (w ++ tail)
back_space [] tail some dark same = absurd cc
back_space (x ∷ xs) tail some dark same = ap (before_some 32) (back_word_then (x ∷ xs) tail dark same)

-- numbers, each behind a space, and then a colour
abbrev pub tail_text : List ℕ → List ℕ → List ℕ
tail_text us colour = numbers_text us ++ colour_text colour

pub tail_more : (u : ℕ) (us colour : List ℕ) → tail_text (u ∷ us) colour ≡ 32 ∷ (decimal u ++ tail_text us colour)
tail_more u us colour = ap (λ (t : List ℕ). 32 ∷ t) (append_assoc (decimal u) (numbers_text us) (colour_text colour))

opens_tail : (us colour : List ℕ) → opens (tail_text us colour) ≡ true
opens_tail [] [] = refl
opens_tail [] (b ∷ bs) = refl
opens_tail (u ∷ us) colour = refl

unfoldable pub Small : List ℕ → Type 0
Small [] = Unit {0}
Small (u ∷ us) = (u < 2 ^ 64) × Small us

back_tail_text : (us colour : List ℕ) → Small us → trimmed_back colour ≡ colour → trimmed_back (tail_text us colour) ≡ tail_text us colour
unfolding Small
back_tail_text [] [] small same = refl
back_tail_text [] (b ∷ bs) small same = ap (before_some 32) same
back_tail_text (u ∷ us) colour small same =
    let w = word_decimal u small.0 in
    ap trimmed_back (tail_more u us colour) ∙ back_space (decimal u) (tail_text us colour) w.some w.dark (back_tail_text us colour small.1 same) ∙ sym (tail_more u us colour)

pub none_append : (p : ℕ → Bool) (xs ys : List ℕ) → list_any p xs ≡ false → list_any p ys ≡ false → list_any p (xs ++ ys) ≡ false
none_append p xs ys first second = list_any-append p xs ys ∙ rw (first, second) refl

none_tail_text : (p : ℕ → Bool) → p 32 ≡ false → ((n : ℕ) → n < 2 ^ 64 → list_any p (decimal n) ≡ false) → (us colour : List ℕ) → Small us → list_any p colour ≡ false → list_any p (tail_text us colour) ≡ false
unfolding Small
none_tail_text p space number [] [] small none = refl
none_tail_text p space number [] (b ∷ bs) small none = rw space none
none_tail_text p space number (u ∷ us) colour small none =
    ap (list_any p) (tail_more u us colour) ∙ rw space (none_append p (decimal u) (tail_text us colour) (number u small.0) (none_tail_text p space number us colour small.1 none))

words_tail_text : (us colour : List ℕ) → Small us → words_of (tail_text us colour) ≡ map decimal us ++ words_of (colour_text colour)
unfolding Small
words_tail_text [] colour small = refl
words_tail_text (u ∷ us) colour small =
    let w = word_decimal u small.0 in
    ap words_of (tail_more u us colour) ∙ words_word (decimal u) (tail_text us colour) w.some w.dark (opens_tail us colour) ∙ ap (λ (ws : List (List ℕ)). decimal u ∷ ws) (words_tail_text us colour small.1)

behind_tail_text : (us colour : List ℕ) → Small us → behind_words (length us) (trimmed_front (tail_text us colour)) ≡ trimmed_front (colour_text colour)
unfolding Small
behind_tail_text [] colour small = refl
behind_tail_text (u ∷ us) colour small =
    let w = word_decimal u small.0 in
    ap (λ (t : List ℕ). behind_words (suc (length us)) (trimmed_front t)) (tail_more u us colour)
    ∙ ap (behind_words (suc (length us))) (front_word (decimal u) (tail_text us colour) w.some w.dark)
    ∙ ap (behind_words (length us)) (behind_first (decimal u) (tail_text us colour) w.dark (opens_tail us colour))
    ∙ behind_tail_text us colour small.1

-- a number, numbers behind it, and a colour
abbrev pub number_line : ℕ → List ℕ → List ℕ → List ℕ
number_line k us colour = decimal k ++ tail_text us colour

module _ (k : ℕ) (us colour : List ℕ) (lt : k < 2 ^ 64) (small : Small us) (clean : IsClean colour) where
  pub clean_numbers : IsClean (number_line k us colour)
  clean_numbers =
      let w = word_decimal k lt in
      record {
        one_line = none_append is_line_end (decimal k) (tail_text us colour) w.one_line (none_tail_text is_line_end refl (λ n h. (word_decimal n h).one_line) us colour small clean.one_line);
        uncommented = none_append is_comment_sign (decimal k) (tail_text us colour) w.uncommented (none_tail_text is_comment_sign refl (λ n h. (word_decimal n h).uncommented) us colour small clean.uncommented);
        trimmed = trimmed_is (number_line k us colour) (front_word (decimal k) (tail_text us colour) w.some w.dark) (back_word_then (decimal k) (tail_text us colour) w.dark (back_tail_text us colour small (trimmed_backs colour clean.trimmed)));
      }

  pub tokens_numbers : tokens_of (number_line k us colour) ≡ decimal k ∷ (map decimal us ++ words_of (colour_text colour))
  tokens_numbers =
      let w = word_decimal k lt in
      ap words_of (uncommented_is (number_line k us colour) clean_numbers.uncommented)
      ∙ words_word (decimal k) (tail_text us colour) w.some w.dark (opens_tail us colour)
      ∙ ap (λ (ws : List (List ℕ)). decimal k ∷ ws) (words_tail_text us colour small)

  front_colour : (colour : List ℕ) → IsClean colour → trimmed_front (colour_text colour) ≡ colour
  front_colour [] clean = refl
  front_colour (b ∷ bs) clean = trimmed_fronts (b ∷ bs) clean.trimmed

  pub rest_numbers : rest_after (suc (length us)) (number_line k us colour) ≡ colour
  rest_numbers =
      let w = word_decimal k lt in
      ap (λ (t : List ℕ). behind_words (suc (length us)) (trimmed t)) (uncommented_is (number_line k us colour) clean_numbers.uncommented)
      ∙ ap (behind_words (suc (length us))) clean_numbers.trimmed
      ∙ ap (behind_words (length us)) (behind_first (decimal k) (tail_text us colour) w.dark (opens_tail us colour))
      ∙ behind_tail_text us colour small
      ∙ front_colour colour clean
