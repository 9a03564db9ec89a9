-- Blanks at the ends of a line, and its words.
use Rattle.std.proofs.Common.{◌≡◌, ◌<◌, ◌≤◌, ◌+◌, ◌-◌, ℕ, suc, true, false, cond, List, [], ◌∷◌, ◌++◌, length, get_or, take, drop, refl, sym, ◌∙◌, ap, arith, inl, inr, not}
use Rattle.std.specs.Prelude.{◌==◌}
use Rattle.std.specs.List.{slice_split, onto_first, position_or_len, filter}
use Rattle.std.proofs.lemmas.Bool.{cases_Bool, eqb-true}
use Rattle.std.proofs.Math.Dec.{eqb-suc-zero}
use Rattle.std.proofs.lemmas.List.{take_more}
use Rattle.std.proofs.lemmas.List.Splits.{slice_split-cons_yes, slice_split-cons_no}
use Rattle.surf_text.specs.Text.{TextLine, is_blank, is_nonempty, words_of, tokens_of, uncommented, trimmed_front, before_some, trimmed_back, trimmed, behind_word, onto_lines}
use Rattle.surf_text.specs.Walks.{has_some}

-- what a code finds that seeks a first byte that isn't blank
pub front_is : (bs : List ℕ) → drop (position_or_len (λ b. not (is_blank b)) bs) bs ≡ trimmed_front bs
front_is [] = refl
front_is (b ∷ bs) =
    elim (is_blank b) as (λ t. drop (cond (not (not t)) (1 + position_or_len (λ b. not (is_blank b)) bs) 0) (b ∷ bs) ≡ cond t (trimmed_front bs) (b ∷ bs)) [
      | true ↦ let n = position_or_len (λ b. not (is_blank b)) bs in let k : 1 + n ≡ suc n = omega arith in rw k (front_is bs)
      | false ↦ refl
    ]

pub front_twice : (bs : List ℕ) → trimmed_front (trimmed_front bs) ≡ trimmed_front bs
front_twice [] = refl
front_twice (b ∷ bs) = elim (cases_Bool (is_blank b)) [ inl blank ↦ rw blank (front_twice bs) | inr dark ↦ rw (dark, dark) refl ]

pub front_le : (bs : List ℕ) → length (trimmed_front bs) ≤ length bs
front_le [] = omega arith
front_le (b ∷ bs) = elim (is_blank b) as (λ t. length (cond t (trimmed_front bs) (b ∷ bs)) ≤ length (b ∷ bs)) [ true ↦ let h = front_le bs in omega arith | false ↦ omega arith ]

-- What is the same without the blanks in front doesn't begin with one.
pub begins_dark : (b : ℕ) (bs : List ℕ) → trimmed_front (b ∷ bs) ≡ b ∷ bs → is_blank b ≡ false
begins_dark b bs is = elim (cases_Bool (is_blank b)) [ inl blank ↦ absurd (shorter (rw blank at is)) | inr dark ↦ dark ]
  where
    shorter : trimmed_front bs ≡ b ∷ bs → ⊥
    shorter e = omega (arith, front_le bs, ap length e)

back_keeps : (b : ℕ) (bs : List ℕ) → is_blank b ≡ false → trimmed_front (before_some b bs) ≡ before_some b bs
back_keeps b [] dark = rw (dark, dark) refl
back_keeps b (c ∷ cs) dark = rw dark refl

-- Blanks at both ends are cut off in either order.
pub front_back : (bs : List ℕ) → trimmed_front (trimmed_back bs) ≡ trimmed bs
front_back [] = refl
front_back (b ∷ bs) = elim (cases_Bool (is_blank b)) [
  | inl blank ↦ rw blank (at (trimmed_back bs) blank ∙ front_back bs)
  | inr dark ↦ rw dark (back_keeps b (trimmed_back bs) dark)
]
  where
    at : (back : List ℕ) → is_blank b ≡ true → trimmed_front (before_some b back) ≡ trimmed_front back
    at [] blank = rw blank refl
    at (c ∷ cs) blank = rw blank refl

pub trimmed_begins : (bs : List ℕ) → trimmed_front (trimmed bs) ≡ trimmed bs
trimmed_begins bs = front_back (trimmed_front bs) ∙ ap trimmed_back (front_twice bs)

-- one blank more at the end
pub back_blank : (xs : List ℕ) (b : ℕ) → is_blank b ≡ true → trimmed_back (xs ++ b ∷ []) ≡ trimmed_back xs
back_blank [] b blank = rw blank refl
back_blank (x ∷ xs) b blank = ap (before_some x) (back_blank xs b blank)

pub back_dark : (xs : List ℕ) (b : ℕ) → is_blank b ≡ false → trimmed_back (xs ++ b ∷ []) ≡ xs ++ b ∷ []
back_dark [] b dark = rw dark refl
back_dark (x ∷ xs) b dark = ap (before_some x) (back_dark xs b dark) ∙ at xs
  where
    at : (xs : List ℕ) → before_some x (xs ++ b ∷ []) ≡ x ∷ (xs ++ b ∷ [])
    at [] = refl
    at (y ∷ ys) = refl

-- a blank at the end of what was not cut off yet
pub back_more : (bs : List ℕ) (n : ℕ) → 0 < n → n ≤ length bs → is_blank (get_or bs (n - 1) 0) ≡ true → trimmed_back (take (n - 1) bs) ≡ trimmed_back (take n bs)
back_more bs n some le blank =
    let k : n - 1 + 1 ≡ n = omega arith in
    let more : take (n - 1 + 1) bs ≡ take (n - 1) bs ++ get_or bs (n - 1) 0 ∷ [] = take_more bs (n - 1) 0 (omega arith) in
    sym (back_blank (take (n - 1) bs) (get_or bs (n - 1) 0) blank) ∙ ap trimmed_back (sym more) ∙ ap (λ (i : ℕ). trimmed_back (take i bs)) k

pub back_ends : (bs : List ℕ) (n : ℕ) → n ≤ length bs → is_blank (get_or bs (n - 1) 0) ≡ false → 0 < n → take n bs ≡ trimmed_back (take n bs)
back_ends bs n le dark some =
    let k : n - 1 + 1 ≡ n = omega arith in
    let more : take (n - 1 + 1) bs ≡ take (n - 1) bs ++ get_or bs (n - 1) 0 ∷ [] = take_more bs (n - 1) 0 (omega arith) in
    let is : take n bs ≡ take (n - 1) bs ++ get_or bs (n - 1) 0 ∷ [] = ap (λ (i : ℕ). take i bs) (sym k) ∙ more in
    is ∙ sym (back_dark (take (n - 1) bs) (get_or bs (n - 1) 0) dark) ∙ ap trimmed_back (sym is)

pub back_none : (bs : List ℕ) (n : ℕ) → n ≤ 0 → take n bs ≡ trimmed_back (take n bs)
back_none bs n le = let e : n ≡ 0 = omega arith in rw e refl

-- blanks in front are before no word
pub words_front : (bs : List ℕ) → words_of (trimmed_front bs) ≡ words_of bs
words_front [] = refl
words_front (b ∷ bs) = elim (cases_Bool (is_blank b)) [ inl blank ↦ rw blank (words_front bs) | inr dark ↦ rw (dark, dark) refl ]

-- two lists whose first parts agree, and whose other parts agree but for empty ones
record Alike (xs ys : List ℕ) : Type 0 where
  head : List ℕ
  tail : List (List ℕ)
  tail' : List (List ℕ)
  is : slice_split is_blank xs ≡ head ∷ tail
  is' : slice_split is_blank ys ≡ head ∷ tail'
  same : filter is_nonempty tail ≡ filter is_nonempty tail'

alike_back : (bs : List ℕ) → Alike bs (trimmed_back bs)
alike_back [] = record { head = []; tail = []; tail' = []; is = refl; is' = refl; same = refl }
alike_back (b ∷ bs) = at (trimmed_back bs) refl (alike_back bs)
  where
    at : (back : List ℕ) → trimmed_back bs ≡ back → Alike bs back → Alike (b ∷ bs) (before_some b back)
    at [] back_is a =
        let no_head : a.head ≡ [] = let e = a.is' in cc in
        let no_tail : a.tail' ≡ [] = let e = a.is' in cc in
        let none : filter is_nonempty a.tail ≡ [] = a.same ∙ ap (filter is_nonempty) no_tail in
        elim (cases_Bool (is_blank b)) [
          | inl blank ↦ record { head = []; tail = [] ∷ a.tail; tail' = []; is = rw (blank, a.is, no_head) refl; is' = rw blank refl; same = none }
          | inr dark ↦ record { head = b ∷ []; tail = a.tail; tail' = []; is = rw (dark, a.is, no_head) refl; is' = rw (dark, dark) refl; same = none }
        ]
    at (c ∷ cs) back_is a =
        elim (cases_Bool (is_blank b)) [
          | inl blank ↦ record { head = []; tail = a.head ∷ a.tail; tail' = a.head ∷ a.tail'; is = rw (blank, a.is) refl; is' = slice_split-cons_yes is_blank b (c ∷ cs) blank ∙ ap (λ (parts : List (List ℕ)). [] ∷ parts) a.is'; same = onto a.head a.same }
          | inr dark ↦ record { head = b ∷ a.head; tail = a.tail; tail' = a.tail'; is = rw (dark, a.is) refl; is' = slice_split-cons_no is_blank b (c ∷ cs) dark ∙ ap (onto_first b) a.is'; same = a.same }
        ]
      where
        onto : (h : List ℕ) → filter is_nonempty a.tail ≡ filter is_nonempty a.tail' → filter is_nonempty (h ∷ a.tail) ≡ filter is_nonempty (h ∷ a.tail')
        onto [] e = e
        onto (x ∷ xs) e = ap (λ (parts : List (List ℕ)). (x ∷ xs) ∷ parts) e

-- Blanks behind the last word are in no word.
pub words_back : (bs : List ℕ) → words_of (trimmed_back bs) ≡ words_of bs
words_back bs = let a = alike_back bs in rw (a.is, a.is') (at a.head a.tail a.tail' a.same)
  where
    at : (h : List ℕ) (t t' : List (List ℕ)) → filter is_nonempty t ≡ filter is_nonempty t' → filter is_nonempty (h ∷ t') ≡ filter is_nonempty (h ∷ t)
    at [] t t' e = sym e
    at (x ∷ xs) t t' e = ap (λ (parts : List (List ℕ)). (x ∷ xs) ∷ parts) (sym e)

pub words_trimmed : (bs : List ℕ) → words_of (trimmed bs) ≡ words_of bs
words_trimmed bs = words_back (trimmed_front bs) ∙ words_front bs

-- the first part, and the words in the others
record FirstPart (xs : List ℕ) : Type 0 where
  others : List (List ℕ)
  is : slice_split is_blank xs ≡ take (position_or_len is_blank xs) xs ∷ others
  words : filter is_nonempty others ≡ words_of (drop (position_or_len is_blank xs) xs)

first_part : (xs : List ℕ) → FirstPart xs
first_part [] = record { others = []; is = refl; words = refl }
first_part (x ∷ xs) =
    let f = first_part xs in
    let n = position_or_len is_blank xs in
    let k : 1 + n ≡ suc n = omega arith in
    elim (cases_Bool (is_blank x)) [
      | inl blank ↦ record { others = slice_split is_blank xs; is = rw blank refl; words = rw (blank, blank) refl }
      | inr dark ↦ record { others = f.others; is = rw (dark, f.is, k) refl; words = rw (dark, k) f.words }
    ]

-- What doesn't begin with a blank begins with a word.
pub words_first : (b : ℕ) (bs : List ℕ) → is_blank b ≡ false → words_of (b ∷ bs) ≡ take (position_or_len is_blank (b ∷ bs)) (b ∷ bs) ∷ words_of (drop (position_or_len is_blank (b ∷ bs)) (b ∷ bs))
words_first b bs dark =
    let f = first_part (b ∷ bs) in
    let n = position_or_len is_blank bs in
    let k : 1 + n ≡ suc n = omega arith in
    let part : take (position_or_len is_blank (b ∷ bs)) (b ∷ bs) ≡ b ∷ take n bs = rw (dark, k) refl in
    ap (filter is_nonempty) (f.is ∙ ap (λ (w : List ℕ). w ∷ f.others) part) ∙ ap (λ (ws : List (List ℕ)). (b ∷ take n bs) ∷ ws) f.words ∙ ap (λ (w : List ℕ). w ∷ words_of (drop (position_or_len is_blank (b ∷ bs)) (b ∷ bs))) (sym part)

pub empty_is : (bs : List ℕ) → trimmed_front bs ≡ bs → (length bs == 0) ≡ not (has_some (words_of bs))
empty_is [] is = refl
empty_is (b ∷ bs) is = eqb-suc-zero (length bs) ∙ ap (λ (ws : List (List ℕ)). not (has_some ws)) (sym (words_first b bs (begins_dark b bs is)))

-- The words of what begins with one are that one and those behind it.
pub next_words : (bs : List ℕ) → trimmed_front bs ≡ bs → (length bs == 0) ≡ false → words_of bs ≡ take (position_or_len is_blank bs) bs ∷ words_of (behind_word bs)
next_words [] is some = absurd cc
next_words (b ∷ bs) is some =
    let n = position_or_len is_blank (b ∷ bs) in
    words_first b bs (begins_dark b bs is) ∙ ap (λ (ws : List (List ℕ)). take n (b ∷ bs) ∷ ws) (sym (words_front (drop n (b ∷ bs))))

some_bytes : (bs : List ℕ) → (suc (length bs) == 0) ≡ true → ⊥
some_bytes bs none = let h : suc (length bs) ≡ 0 = eqb-true _ _ none in absurd (omega arith)

pub no_words : (bs : List ℕ) → (length bs == 0) ≡ true → words_of bs ≡ []
no_words [] none = refl
no_words (b ∷ bs) none = absurd (some_bytes bs none)

pub stays_empty : (bs : List ℕ) → (length bs == 0) ≡ true → bs ≡ behind_word bs
stays_empty [] none = refl
stays_empty (b ∷ bs) none = absurd (some_bytes bs none)

module _ (n : ℕ) (line bytes : List ℕ) (lines : List TextLine) (is : bytes ≡ trimmed (uncommented line)) where
  tokens_are : words_of bytes ≡ tokens_of line
  tokens_are = ap words_of is ∙ words_trimmed (uncommented line)

  begins : trimmed_front bytes ≡ bytes
  begins = ap trimmed_front is ∙ trimmed_begins (uncommented line) ∙ sym is

  -- A line is passed over where nothing is left of it.
  pub line_empty : (length bytes == 0) ≡ true → onto_lines (record { number = n; bytes = trimmed (uncommented line) }) (tokens_of line) lines ≡ lines
  line_empty none = ap (λ (ts : List (List ℕ)). onto_lines (record { number = n; bytes = trimmed (uncommented line) }) ts lines) (sym tokens_are ∙ no_words bytes none)

  pub line_there : (length bytes == 0) ≡ false → onto_lines (record { number = n; bytes = trimmed (uncommented line) }) (tokens_of line) lines ≡ record { number = n; bytes = bytes } ∷ lines
  line_there some =
      ap (λ (ts : List (List ℕ)). onto_lines (record { number = n; bytes = trimmed (uncommented line) }) ts lines) (sym tokens_are ∙ next_words bytes begins some)
      ∙ ap (λ (bs : List ℕ). record { number = n; bytes = bs } ∷ lines) (sym is)
