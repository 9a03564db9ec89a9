-- Lines that are passed over: none of them has a comment sign.
use Rattle.surf_sew.proofs.Common.{◌≡◌, ◌<◌, ◌≤◌, ◌+◌, ◌-◌, ℕ, zero, suc, Bool, true, false, List, [], ◌∷◌, ◌++◌, length, get_or, take, drop, count_by, refl, sym, ◌∙◌, ap, arith, inl, inr, codes, length-append, list_any, slice_split, onto_first, filter, position_or_len, bytes_eq, drop_more, take-append-drop, length-slice_split, bytes_eq-Decides, cases_Bool, and_left, both_ways, count_by_more_yes, is_line_end, is_comment_sign, is_blank, is_nonempty, words_of, none_head, none_tail, word_lines_from, is_copy, copies_among}

-- No word has a byte that passes.
unfoldable pub Free : (ℕ → Bool) → List (List ℕ) → Type 0
Free p [] = Unit {0}
Free p (w ∷ ws) = (list_any p w ≡ false) × Free p ws

onto_free : (p : ℕ → Bool) (x : ℕ) (ws : List (List ℕ)) → p x ≡ false → Free p ws → Free p (onto_first x ws)
unfolding Free
onto_free p x [] none free = (rw none refl, tt)
onto_free p x (w ∷ ws) none free = (rw (none, free.0) refl, free.1)

split_free : (p q : ℕ → Bool) (bs : List ℕ) → list_any p bs ≡ false → Free p (slice_split q bs)
unfolding Free
split_free p q [] none = (refl, tt)
split_free p q (b ∷ bs) none = elim (cases_Bool (q b)) [
  | inl cut ↦ rw cut (refl, split_free p q bs (none_tail p b bs none))
  | inr on ↦ rw on (onto_free p b (slice_split q bs) (none_head p b bs none) (split_free p q bs (none_tail p b bs none)))
]

filter_free : (p : ℕ → Bool) (ws : List (List ℕ)) → Free p ws → Free p (filter is_nonempty ws)
unfolding Free
filter_free p [] free = tt
filter_free p ([] ∷ ws) free = filter_free p ws free.1
filter_free p ((b ∷ bs) ∷ ws) free = (free.0, filter_free p ws free.1)

no_sign : (w : List ℕ) → list_any is_comment_sign w ≡ false → bytes_eq w (codes "#") ≡ false
no_sign w none = elim (cases_Bool (bytes_eq w (codes "#"))) [
  | inl same ↦ let is : w ≡ codes "#" = (bytes_eq-Decides w (codes "#")).0 same in absurd (both_ways (list_any is_comment_sign w) none (ap (list_any is_comment_sign) is))
  | inr other ↦ other
]

free_other : (ws : List (List ℕ)) → Free is_comment_sign ws → is_copy ws ≡ false
unfolding Free
free_other [] free = refl
free_other (w ∷ []) free = refl
free_other (w ∷ v ∷ ws) free = and_left (bytes_eq w (codes "#")) (bytes_eq v (codes "copy")) (no_sign w free.0)

-- A line without a comment sign is no copy line.
pub no_copy : (l : List ℕ) → list_any is_comment_sign l ≡ false → is_copy (words_of l) ≡ false
no_copy l none = free_other (words_of l) (filter_free is_comment_sign (slice_split is_blank l) (split_free is_comment_sign is_blank l none))

skip_free : (n : ℕ) (ls more : List (List ℕ)) → Free is_comment_sign ls → copies_among (word_lines_from n (ls ++ more)) ≡ copies_among (word_lines_from (n + length ls) more)
unfolding Free
skip_free n [] more free = let k : n ≡ n + 0 = omega arith in ap (λ (i : ℕ). copies_among (word_lines_from i more)) k
skip_free n (l ∷ ls) more free =
    let k : n + 1 + length ls ≡ n + length (l ∷ ls) = omega arith in
    rw (no_copy l free.0) (skip_free (n + 1) ls more free.1 ∙ ap (λ (i : ℕ). copies_among (word_lines_from i more)) k)

none_free : (n : ℕ) (ls : List (List ℕ)) → Free is_comment_sign ls → copies_among (word_lines_from n ls) ≡ []
unfolding Free
none_free n [] free = refl
none_free n (l ∷ ls) free = rw (no_copy l free.0) (none_free (n + 1) ls free.1)

onto_append : (b : ℕ) (ls more : List (List ℕ)) → 0 < length ls → onto_first b (ls ++ more) ≡ onto_first b ls ++ more
onto_append b [] more some = absurd (omega arith)
onto_append b (l ∷ ls) more some = refl

-- A list that is cut at an element: the parts before it and those behind it.
split_append : (p : ℕ → Bool) (front : List ℕ) (x : ℕ) (rest : List ℕ) → p x ≡ true → slice_split p (front ++ x ∷ rest) ≡ slice_split p front ++ slice_split p rest
split_append p [] x rest here = rw here refl
split_append p (b ∷ bs) x rest here =
    let later = split_append p bs x rest here in
    elim (cases_Bool (p b)) [
      | inl cut ↦ rw cut (ap (λ (ls : List (List ℕ)). [] ∷ ls) later)
      | inr on ↦ rw on (ap (onto_first b) later ∙ onto_append b (slice_split p bs) (slice_split p rest) (omega (arith, length-slice_split p bs)))
    ]

none_before : (p : ℕ → Bool) (xs : List ℕ) (s : ℕ) → s ≤ position_or_len p xs → list_any p (take s xs) ≡ false
none_before p [] zero le = refl
none_before p [] (suc s) le = refl
none_before p (x ∷ xs) zero le = refl
none_before p (x ∷ xs) (suc s) le = elim (cases_Bool (p x)) [
  | inl here ↦ let le' = rw here at le in absurd (omega (arith, le'))
  | inr on ↦ let le' = rw on at le in rw on (none_before p xs s (omega (arith, le')))
]

none_in : (p : ℕ → Bool) (xs : List ℕ) → length xs ≤ position_or_len p xs → list_any p xs ≡ false
none_in p [] le = refl
none_in p (x ∷ xs) le = elim (cases_Bool (p x)) [
  | inl here ↦ let le' = rw here at le in absurd (omega (arith, le'))
  | inr on ↦ let le' = rw on at le in rw on (none_in p xs (omega (arith, le')))
]

-- Without a comment sign there is no copy line.
pub none_left : (xs : List ℕ) (n : ℕ) → length xs ≤ position_or_len is_comment_sign xs → copies_among (word_lines_from n (slice_split is_line_end xs)) ≡ []
none_left xs n none = none_free n (slice_split is_line_end xs) (split_free is_comment_sign is_line_end xs (none_in is_comment_sign xs none))

-- Lines before a place at which a line begins, none of which has a comment sign.
record Skipped (xs : List ℕ) (s : ℕ) : Type 0 where
  front : List (List ℕ)
  free : Free is_comment_sign front
  count : length front ≡ count_by is_line_end (take s xs)
  parts : slice_split is_line_end xs ≡ front ++ slice_split is_line_end (drop s xs)

skipped : (xs : List ℕ) (s : ℕ) → s ≤ position_or_len is_comment_sign xs → s ≤ length xs → (0 < s → is_line_end (get_or xs (s - 1) 0) ≡ true) → Skipped xs s
unfolding Free
skipped xs zero before within ends = record { front = []; free = tt; count = refl; parts = refl }
skipped xs (suc k) before within ends =
    let one : suc k - 1 ≡ k = omega arith in
    let next : k + 1 ≡ suc k = omega arith in
    let last : is_line_end (get_or xs k 0) ≡ true = ap (λ (i : ℕ). is_line_end (get_or xs i 0)) (sym one) ∙ ends (omega arith) in
    let lt : k < length xs = omega arith in
    let whole : xs ≡ take k xs ++ get_or xs k 0 ∷ drop (suc k) xs =
    sym (take-append-drop k xs) ∙ ap (λ (t : List ℕ). take k xs ++ t) (drop_more xs k 0 lt) ∙ ap (λ (i : ℕ). take k xs ++ get_or xs k 0 ∷ drop i xs) next in
    record {
      front = slice_split is_line_end (take k xs);
      free = split_free is_comment_sign is_line_end (take k xs) (none_before is_comment_sign xs k (omega arith));
      count = length-slice_split is_line_end (take k xs) ∙ sym (count_by_more_yes is_line_end xs k 0 lt last) ∙ ap (λ (i : ℕ). count_by is_line_end (take i xs)) next;
      parts = ap (slice_split is_line_end) whole ∙ split_append is_line_end (take k xs) (get_or xs k 0) (drop (suc k) xs) last;
    }

module _ (xs : List ℕ) (s : ℕ) (before : s ≤ position_or_len is_comment_sign xs) (within : s ≤ length xs) (ends : 0 < s → is_line_end (get_or xs (s - 1) 0) ≡ true) where
  pub copies_behind : (n : ℕ) → copies_among (word_lines_from n (slice_split is_line_end xs)) ≡ copies_among (word_lines_from (n + count_by is_line_end (take s xs)) (slice_split is_line_end (drop s xs)))
  copies_behind n =
      let k = skipped xs s before within ends in
      ap (λ (ls : List (List ℕ)). copies_among (word_lines_from n ls)) k.parts
      ∙ skip_free n k.front (slice_split is_line_end (drop s xs)) k.free
      ∙ ap (λ (i : ℕ). copies_among (word_lines_from (n + i) (slice_split is_line_end (drop s xs)))) k.count

  pub lines_behind : count_by is_line_end (take s xs) + length (slice_split is_line_end (drop s xs)) ≡ length (slice_split is_line_end xs)
  lines_behind =
      let k = skipped xs s before within ends in
      omega (arith, ap length k.parts, length-append k.front (slice_split is_line_end (drop s xs)), k.count)
