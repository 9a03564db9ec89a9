-- Lines that are passed over, and line ends in their place.
use Rattle.surf_cert.proofs.Common.{◌≡◌, ◌<◌, ◌≤◌, ◌+◌, ◌-◌, ◌++◌, ◌==◌, true, false, ℕ, zero, suc, List, [], ◌∷◌, length, take, drop, replicate, min, refl, sym, ◌∙◌, ap, arith, inl, inr, slice_split, before_first, position_or_len, copy_within, cases_lt, drop-drop, drop_all, take_all, take_rest, take-append-le, append-nil, length-append, length-replicate, length-drop, min-eq_left, min-eq_right, TextLine, is_line_end, tokens_of, trimmed, uncommented, onto_lines, numbered_from, line_empty, line_there}
use Rattle.std.proofs.lemmas.List.Edits.{take-paste}
use Rattle.std.proofs.lemmas.Slice.{drop-append-drop}
use Rattle.std.proofs.lemmas.List.Splits.{slice_split_first}
use Rattle.surf_text.proofs.Cuts.{whole_part}

-- the lines of a text, the first of all numbered n
abbrev pub from_line : ℕ → List ℕ → List TextLine
from_line n text = numbered_from n (slice_split is_line_end text)

-- The first line goes in front of the others, if it has a token.
pub line_first : (n : ℕ) (text : List ℕ) → from_line n text
    ≡ onto_lines (record { number = n; bytes = trimmed (uncommented (before_first is_line_end text)) }) (tokens_of (before_first is_line_end text)) (from_line (n + 1) (drop (position_or_len is_line_end text + 1) text))
line_first n text =
    let len = position_or_len is_line_end text in
    elim (cases_lt len (length text)) [
      | inl lt ↦ ap (numbered_from n) (slice_split_first is_line_end text 0 lt)
      | inr le ↦
          ap (numbered_from n) (whole_part is_line_end text le ∙ ap (λ (line : List ℕ). line ∷ []) (sym (take_all len text le)))
          ∙ ap (λ (rest : List ℕ). onto_lines (record { number = n; bytes = trimmed (uncommented (take len text)) }) (tokens_of (take len text)) (from_line (n + 1) rest)) (sym (drop_all (len + 1) text (omega (arith, le))))
    ]

-- what stands behind a place and the first line from there on
pub behind_first : (text : List ℕ) (at len : ℕ) → drop (min (length text) (at + len + 1)) text ≡ drop (len + 1) (drop at text)
behind_first text at len = elim (cases_lt (at + len) (length text)) [
  | inl lt ↦ let to : min (length text) (at + len + 1) ≡ at + (len + 1) = min-eq_right (omega (arith, lt)) ∙ omega arith in ap (λ (k : ℕ). drop k text) to ∙ sym (drop-drop (len + 1) at text)
  | inr le ↦
      ap (λ (k : ℕ). drop k text) (min-eq_left (omega (arith, le))) ∙ drop_all (length text) text (omega arith)
      ∙ sym (drop_all (len + 1) (drop at text) (omega (arith, le, length-drop at text)))
]

-- Line ends count as lines and have no token.
pub blank_lines : (lines n : ℕ) (rest : List ℕ) → from_line n (replicate lines 10 ++ rest) ≡ from_line (n + lines) rest
blank_lines zero n rest = let all : n ≡ n + 0 = omega arith in ap (λ (k : ℕ). from_line k rest) all
blank_lines (suc lines) n rest = let more : n + 1 + lines ≡ n + suc lines = omega arith in blank_lines lines (n + 1) rest ∙ ap (λ (k : ℕ). from_line k rest) more

-- one line more is passed over, with a token or without one
module _ (text bytes : List ℕ) (at n left len next : ℕ) (want : List TextLine) (len_is : len ≡ position_or_len is_line_end (take (length text - at) (drop at text)))
    (bytes_are : bytes ≡ trimmed (uncommented (before_first is_line_end (take (length text - at) (drop at text))))) (next_is : next ≡ min (length text) (at + len + 1))
    (so_far : drop left (from_line n (drop at text)) ≡ want) where
  line : List ℕ
  line = before_first is_line_end (drop at text)

  are : bytes ≡ trimmed (uncommented line)
  unfolding line
  are = bytes_are ∙ ap (λ (rest : List ℕ). trimmed (uncommented (before_first is_line_end rest))) (take_rest text at)

  ahead : from_line n (drop at text) ≡ onto_lines (record { number = n; bytes = trimmed (uncommented line) }) (tokens_of line) (from_line (n + 1) (drop next text))
  unfolding line
  ahead =
      let size : len ≡ position_or_len is_line_end (drop at text) = len_is ∙ ap (position_or_len is_line_end) (take_rest text at) in
      let rest : drop (position_or_len is_line_end (drop at text) + 1) (drop at text) ≡ drop next text = ap (λ (k : ℕ). drop (k + 1) (drop at text)) (sym size) ∙ sym (behind_first text at len) ∙ ap (λ (k : ℕ). drop k text) (sym next_is) in
      line_first n (drop at text) ∙ ap (λ (r : List ℕ). onto_lines (record { number = n; bytes = trimmed (uncommented line) }) (tokens_of line) (from_line (n + 1) r)) rest

  pub blank_passed : (length bytes == 0) ≡ true → drop left (from_line (n + 1) (drop next text)) ≡ want
  blank_passed none = ap (drop left) (sym (ahead ∙ line_empty n line bytes (from_line (n + 1) (drop next text)) are none)) ∙ so_far

  pub token_passed : (length bytes == 0) ≡ false → 0 < left → drop (left - 1) (from_line (n + 1) (drop next text)) ≡ want
  token_passed some more =
      let all : suc (left - 1) ≡ left = omega (arith, more) in
      ap (drop (suc (left - 1))) (sym (ahead ∙ line_there n line bytes (from_line (n + 1) (drop next text)) are some)) ∙ ap (λ (k : ℕ). drop k (from_line n (drop at text))) all ∙ so_far

pub min_passed : (text : List ℕ) (at len next : ℕ) → at < length text → next ≡ min (length text) (at + len + 1) → (at < next) × (next ≤ length text)
min_passed text at len next inside is = (omega (arith, is, inside), omega (arith, is))

-- No line stands at the end of a text.
pub no_more : (text : List ℕ) (at n left : ℕ) (want : List TextLine) → length text ≤ at → drop left (from_line n (drop at text)) ≡ want → from_line n (drop at text) ≡ want
no_more text at n left want end same =
    let none : from_line n (drop at text) ≡ [] = ap (from_line n) (drop_all at text end) in
    none ∙ sym (drop_all left [] (omega arith)) ∙ ap (drop left) (sym none) ∙ same

-- a text whose first bytes are line ends, and then what stands behind a place moved up to them
module _ (text front : List ℕ) (at lines : ℕ) (few : lines ≤ at) (inside : at ≤ length text) (ends : front ≡ replicate lines 10 ++ drop lines text) where
  front_len : length front ≡ length text
  front_len = omega (arith, ap length ends, length-append (replicate lines 10) (drop lines text), length-replicate {A = ℕ} lines 10, length-drop lines text, few, inside)

  pub put_back : (len : ℕ) → len ≡ length text → take len (front ++ drop (length front) text) ≡ front
  put_back len is =
      ap (λ (rest : List ℕ). take len (front ++ rest)) (drop_all (length front) text (omega (arith, front_len)))
      ∙ ap (take len) (append-nil front) ∙ take_all len front (omega (arith, is, front_len))

  pub moved_up : (end : ℕ) → end ≡ length text → take (lines + (end - at)) (copy_within front at end lines) ≡ replicate lines 10 ++ drop at text
  moved_up end is =
      let size = length-replicate {A = ℕ} lines 10 in
      take-paste front lines (drop at front) (end - at) (omega (arith, front_len, few, inside)) (omega (arith, length-drop at front, front_len, is))
      ∙ ap (λ (first : List ℕ). first ++ take (end - at) (drop at front)) (ap (take lines) ends ∙ take-append-le lines (replicate lines 10) (drop lines text) (omega (arith, size)) ∙ take_all lines (replicate lines 10) (omega (arith, size)))
      ∙ ap (λ (rest : List ℕ). replicate lines 10 ++ take (end - at) rest) (ap (drop at) ends ∙ drop-append-drop lines text (replicate lines 10) at few size)
      ∙ ap (λ (rest : List ℕ). replicate lines 10 ++ rest) (take_all (end - at) (drop at text) (omega (arith, length-drop at text, is)))
