-- The lines from a place on, and a line that is passed over.
use Rattle.std.proofs.Common.{◌≡◌, ◌<◌, ◌≤◌, ◌+◌, ◌-◌, ℕ, List, [], ◌∷◌, length, take, drop, min, not, sym, ◌∙◌, ap, arith, inl, inr}
use Rattle.std.specs.List.{slice_split, before_first, position_or_len}
use Rattle.std.proofs.lemmas.Bool.{cases_lt}
use Rattle.std.proofs.lemmas.List.{drop-drop, drop_all, take_all, take_rest, length-drop}
use Rattle.std.proofs.lemmas.List.Splits.{slice_split_first}
use Rattle.std.proofs.lemmas.List.Sums.{prefix_len-le-length}
use Rattle.std.proofs.Math.Nat.{min-eq_left, min-eq_right}
use Rattle.surf_text.specs.Text.{TextLine, is_line_end, tokens_of, trimmed, uncommented, onto_lines, numbered_from}
use Rattle.surf_text.proofs.Cuts.{whole_part}

-- No line stands at the end of a text.
pub none_ahead : (text : List ℕ) (at n : ℕ) → length text ≤ at → numbered_from n (slice_split is_line_end (drop at text)) ≡ []
none_ahead text at n le = ap (λ (rest : List ℕ). numbered_from n (slice_split is_line_end rest)) (drop_all at text le)

pub line_fits : (text : List ℕ) (at len : ℕ) → at < length text → position_or_len is_line_end (drop at text) ≡ len → at + len ≤ length text
line_fits text at len inside is = omega (arith, inside, is, prefix_len-le-length (λ b. not (is_line_end b)) (drop at text), length-drop at text)

module _ (text : List ℕ) (at n len next : ℕ) (inside : at < length text) (is : position_or_len is_line_end (drop at text) ≡ len) (next_is : next ≡ min (length text) (at + len + 1)) where
  rest : List ℕ
  rest = drop at text

  pub line_passed : numbered_from n (slice_split is_line_end (drop at text))
      ≡ onto_lines (record { number = n; bytes = trimmed (uncommented (take len (drop at text))) }) (tokens_of (take len (drop at text))) (numbered_from (n + 1) (slice_split is_line_end (drop next text)))
  unfolding rest
  line_passed =
      let onto : List TextLine → List TextLine = onto_lines (record { number = n; bytes = trimmed (uncommented (take len rest)) }) (tokens_of (take len rest)) in
      let size : length rest ≡ length text - at = length-drop at text in
      elim (cases_lt len (length rest)) [
        | inl lt ↦
            let first = slice_split_first is_line_end rest 0 (omega (arith, is, lt)) in
            let place : next ≡ at + len + 1 = next_is ∙ min-eq_right (omega (arith, size, lt)) in
            let same : drop (len + 1) rest ≡ drop next text = drop-drop (len + 1) at text ∙ ap (λ (k : ℕ). drop k text) (omega (arith, place)) in
            ap (numbered_from n) first
            ∙ ap (λ (k : ℕ). onto_lines (record { number = n; bytes = trimmed (uncommented (take k rest)) }) (tokens_of (take k rest)) (numbered_from (n + 1) (slice_split is_line_end (drop (k + 1) rest)))) is
            ∙ ap (λ (r : List ℕ). onto (numbered_from (n + 1) (slice_split is_line_end r))) same
        | inr ge ↦
            let place : next ≡ length text = next_is ∙ min-eq_left (omega (arith, size, ge)) in
            let none = none_ahead text next (n + 1) (omega (arith, place)) in
            ap (numbered_from n) (whole_part is_line_end rest (omega (arith, is, ge)) ∙ ap (λ (line : List ℕ). line ∷ []) (sym (take_all len rest ge)))
            ∙ ap onto (sym none)
      ]

-- how long a first line is that is read from a place on, and what it has
pub first_len : (text : List ℕ) (at len : ℕ) → len ≡ position_or_len is_line_end (take (length text - at) (drop at text)) → position_or_len is_line_end (drop at text) ≡ len
first_len text at len is = sym (is ∙ ap (position_or_len is_line_end) (take_rest text at))

pub first_bytes : (text bytes : List ℕ) (at len : ℕ) → len ≡ position_or_len is_line_end (take (length text - at) (drop at text)) → bytes ≡ trimmed (uncommented (before_first is_line_end (take (length text - at) (drop at text)))) → bytes ≡ trimmed (uncommented (take len (drop at text)))
first_bytes text bytes at len is has =
    has
    ∙ ap (λ (rest : List ℕ). trimmed (uncommented (before_first is_line_end rest))) (take_rest text at)
    ∙ ap (λ (k : ℕ). trimmed (uncommented (take k (drop at text)))) (first_len text at len is)
