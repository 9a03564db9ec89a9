-- The copy lines of a text, line by line: which lines are none, and what one says.
use Rattle.surf_sew.proofs.Common.{◌≡◌, ◌<◌, ◌+◌, ◌^◌, ℕ, false, List, [], ◌∷◌, ◌++◌, Some, refl, ◌∙◌, ap, append_assoc, arith, codes, eq-eqb, decimal, list_any, slice_split, lt-ltb, is_line_end, is_comment_sign, copy_text, none_head, none_tail, whole_decimal, word_decimal, none_append, WordLine, word_lines_from, copies_among, origin_of}
use Rattle.surf_sew.proofs.Skips.{no_copy}
use Rattle.surf_sew.proofs.PlainLines.{line_words}

-- the copy lines of a text that goes on at a line of this number
abbrev pub copies_from : ℕ → List ℕ → List WordLine
copies_from n text = copies_among (word_lines_from n (slice_split is_line_end text))

split_first : (l rest : List ℕ) → list_any is_line_end l ≡ false → slice_split is_line_end (l ++ 10 ∷ rest) ≡ l ∷ slice_split is_line_end rest
split_first [] rest none = refl
split_first (x ∷ xs) rest none = rw (none_head is_line_end x xs none, split_first xs rest (none_tail is_line_end x xs none)) refl

-- A line without a comment sign is no copy line.
pub quiet_line : (n : ℕ) (l rest : List ℕ) → list_any is_line_end l ≡ false → list_any is_comment_sign l ≡ false → copies_from n (l ++ 10 ∷ rest) ≡ copies_from (n + 1) rest
quiet_line n l rest one_line none =
    ap (λ (ls : List (List ℕ)). copies_among (word_lines_from n ls)) (split_first l rest one_line) ∙ rw (no_copy l none) refl

-- the words of a copy line
abbrev pub copy_words : ℕ → ℕ → List (List ℕ)
copy_words i v = codes "#" ∷ codes "copy" ∷ decimal i ∷ codes "from" ∷ decimal v ∷ []

module _ (n i v : ℕ) (small_i : i < 2 ^ 64) (small_v : v < 2 ^ 64) where
  -- a first copy line
  pub copy_first : (rest : List ℕ) → copies_from n (copy_text i v ++ rest) ≡ record { number = n; words = copy_words i v } ∷ copies_from (n + 1) rest
  copy_first rest =
      let a = word_decimal i small_i in
      let b = word_decimal v small_v in
      let l = codes "# copy " ++ (decimal i ++ (codes " from " ++ decimal v)) in
      let none : list_any is_line_end l ≡ false = none_append is_line_end (codes "# copy ") (decimal i ++ (codes " from " ++ decimal v)) refl (none_append is_line_end (decimal i) (codes " from " ++ decimal v) a.one_line (none_append is_line_end (codes " from ") (decimal v) refl b.one_line)) in
      let text : copy_text i v ++ rest ≡ l ++ 10 ∷ rest = simp append_assoc in
      ap (copies_from n) text
      ∙ ap (λ (ls : List (List ℕ)). copies_among (word_lines_from n ls)) (split_first l rest none)
      ∙ ap (λ (ws : List (List ℕ)). copies_among (record { number = n; words = ws } ∷ word_lines_from (n + 1) (slice_split is_line_end rest))) (line_words (decimal i) (decimal v) a.some a.dark b.some b.dark)

pub origin_again : (i v : ℕ) → i < 2 ^ 64 → v < 2 ^ 32 → origin_of i (copy_words i v) ≡ Some v
origin_again i v small_i small_v = rw (whole_decimal i small_i, whole_decimal v (omega arith), eq-eqb i i refl, lt-ltb v (2 ^ 32) small_v) refl
