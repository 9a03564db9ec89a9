-- Copy lines that have one space between their words.
use Rattle.surf_sew.proofs.Common.{◌≡◌, ◌≤◌, ◌^◌, ℕ, true, false, List, [], ◌∷◌, ◌++◌, Option, Some, None, refl, sym, ◌∙◌, ap, arith, inl, inr, codes, ◌&&◌, nat_lt, nat_le, list_all, list_any, cases_Bool, and_parts, leb-true, ne_eqb, append-nil, is_ascii_digit, IfSome, is_blank, is_nonempty, words_of, whole, value_of, words_word, is_copy, origin_at, origin_of}

-- the words behind the first two
prefix_words : (rest : List ℕ) → words_of (codes "# copy " ++ rest) ≡ codes "#" ∷ codes "copy" ∷ words_of rest
prefix_words rest =
    let second : words_of (codes "copy " ++ rest) ≡ codes "copy" ∷ words_of rest = words_word (codes "copy") (32 ∷ rest) refl refl refl in
    words_word (codes "#") (codes " copy " ++ rest) refl refl refl ∙ ap (λ (ws : List (List ℕ)). codes "#" ∷ ws) second

pub begins_copy : (line rest : List ℕ) → line ≡ codes "# copy " ++ rest → is_copy (words_of line) ≡ true
begins_copy line rest is = ap (λ (l : List ℕ). is_copy (words_of l)) is ∙ ap is_copy (prefix_words rest)

-- the words of a plain copy line
pub line_words : (i v : List ℕ) → is_nonempty i ≡ true → list_any is_blank i ≡ false → is_nonempty v ≡ true → list_any is_blank v ≡ false
    → words_of (codes "# copy " ++ (i ++ (codes " from " ++ v))) ≡ codes "#" ∷ codes "copy" ∷ i ∷ codes "from" ∷ v ∷ []
line_words i v some_i dark_i some_v dark_v =
    let last : words_of v ≡ v ∷ [] = ap words_of (sym (append-nil v)) ∙ words_word v [] some_v dark_v refl in
    let fourth : words_of (codes "from " ++ v) ≡ codes "from" ∷ v ∷ [] = words_word (codes "from") (32 ∷ v) refl refl refl ∙ ap (λ (ws : List (List ℕ)). codes "from" ∷ ws) last in
    let third : words_of (i ++ (codes " from " ++ v)) ≡ i ∷ codes "from" ∷ v ∷ [] = words_word i (codes " from " ++ v) some_i dark_i refl ∙ ap (λ (ws : List (List ℕ)). i ∷ ws) fourth in
    prefix_words (i ++ (codes " from " ++ v)) ∙ ap (λ (ws : List (List ℕ)). codes "#" ∷ codes "copy" ∷ ws) third

digit_dark : (b : ℕ) → is_ascii_digit b ≡ true → is_blank b ≡ false
digit_dark b digit =
    let low : 48 ≤ b = leb-true 48 b (and_parts (nat_le 48 b) (nat_le b 57) digit).0 in
    rw (ne_eqb b 32 (λ e. absurd (omega arith)), ne_eqb b 9 (λ e. absurd (omega arith)), ne_eqb b 13 (λ e. absurd (omega arith))) refl

digits_dark : (ds : List ℕ) → list_all is_ascii_digit ds ≡ true → list_any is_blank ds ≡ false
digits_dark [] all = refl
digits_dark (d ∷ ds) all =
    let both = and_parts (is_ascii_digit d) (list_all is_ascii_digit ds) all in
    rw (digit_dark d both.0, digits_dark ds both.1) refl

-- a token that is a number
whole_word : (w : List ℕ) (n : ℕ) → whole w ≡ Some n → (is_nonempty w ≡ true) × (list_any is_blank w ≡ false)
whole_word w n is = elim (cases_Bool ((is_nonempty w && list_all is_ascii_digit w) && nat_lt (value_of w) (2 ^ 64))) [
  | inl good ↦
      let few = and_parts (is_nonempty w && list_all is_ascii_digit w) (nat_lt (value_of w) (2 ^ 64)) good in
      let word = and_parts (is_nonempty w) (list_all is_ascii_digit w) few.0 in
      (word.0, digits_dark w word.1)
  | inr bad ↦ let is' = rw bad at is in absurd cc
]

pub same_some : (r origin : Option ℕ) → origin ≡ r → IfSome r (λ v. origin ≡ Some v)
same_some None origin is = tt
same_some (Some v) origin is = is

pub plain_origin : (line numbers i v : List ℕ) (place copy vertex : ℕ) → line ≡ codes "# copy " ++ numbers → numbers ≡ i ++ (codes " from " ++ v) → whole i ≡ Some copy → whole v ≡ Some vertex
    → origin_of place (words_of line) ≡ origin_at place (Some copy) (Some vertex)
plain_origin line numbers i v place copy vertex is parts first second =
    let a = whole_word i copy first in
    let b = whole_word v vertex second in
    ap (λ (l : List ℕ). origin_of place (words_of l)) (is ∙ ap (λ (t : List ℕ). codes "# copy " ++ t) parts)
    ∙ ap (origin_of place) (line_words i v a.0 a.1 b.0 b.1)
    ∙ rw (first, second) refl
