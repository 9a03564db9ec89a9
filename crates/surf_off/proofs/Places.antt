-- Where what is read of a line stands in the text.
use Rattle.std.proofs.Common.{◌≡◌, ◌<◌, ◌≤◌, ◌+◌, ◌-◌, ℕ, zero, suc, false, List, [], ◌∷◌, ◌++◌, length, length-append, take, drop, refl, sym, ◌∙◌, ap, subst, arith, inl, inr, not}
use Rattle.surf_surfaces.proofs.Common.{list_any, slice_split, position_or_len, cases_lt, take-length}
use Rattle.std.proofs.lemmas.List.{drop-drop, drop_all, drop_at, length-drop}
use Rattle.surf_text.specs.Text.{TextLine, is_blank, is_line_end, trimmed, behind_word, behind_words, rest_after}
use Rattle.surf_text.specs.Walks.{PlacedWalk, lines_ahead, StandsAt}
use Rattle.surf_text.proofs.Words.{front_is}
use Rattle.surf_text.proofs.Spans.{end_stands, behind_stands, inner_stands}
use Rattle.surf_off.specs.Clean.{IsClean}
use Rattle.surf_off.specs.Plain.{IsBehind}
use Rattle.surf_off.proofs.CleanLines.{AllClean, none_head, none_tail, none_split, clean_numbered}
use Rattle.surf_off.proofs.NumberLines.{uncommented_is}

end_behind : (front behind : List ℕ) → list_any is_line_end front ≡ false → position_or_len is_line_end (front ++ behind) ≡ length front + position_or_len is_line_end behind
end_behind [] behind none = omega arith
end_behind (x ∷ xs) behind none =
    let later = end_behind xs behind (none_tail is_line_end x xs none) in
    rw (none_head is_line_end x xs none) (omega (arith, later))

-- What stands behind a first part of a line, from a place in a text on.
module _ (text behind : List ℕ) (at : ℕ) (le : at ≤ length text) (is : IsBehind (drop at text) behind) where
  sizes : length (drop at text) ≡ length is.front + length behind
  sizes = ap length is.is ∙ length-append is.front behind

  pub behind_fits : length behind ≤ length (drop at text)
  behind_fits = omega (arith, sizes)

  pub behind_inside : at < length text
  behind_inside = omega (arith, sizes, is.some, length-drop at text)

  pub behind_line : position_or_len is_line_end (drop at text) ≡ length (drop at text) - length behind + position_or_len is_line_end behind
  behind_line =
      let end = ap (position_or_len is_line_end) is.is ∙ end_behind is.front behind is.one_line in
      omega (arith, sizes, end)

  here : StandsAt (drop at text) behind (length (drop at text) - length behind)
  here =
      let n : length is.front ≡ length (drop at text) - length behind = omega (arith, sizes) in
      let rest : drop (length (drop at text) - length behind) (drop at text) ≡ behind = ap (drop (length (drop at text) - length behind)) is.is ∙ drop_at is.front behind _ n in
      record { within = omega (arith, sizes); same = ap (take (length behind)) rest ∙ take-length behind }

  pub behind_place : (part : List ℕ) (start : ℕ) → StandsAt behind part start → StandsAt text part (at + (length (drop at text) - length behind + start))
  behind_place part start stands =
      inner_stands text (drop at text) part at (length (drop at text) - length behind + start) (end_stands text at le)
      (inner_stands (drop at text) behind part (length (drop at text) - length behind) start here stands)

behind_drop : (k : ℕ) (bytes : List ℕ) → (n : ℕ) × (behind_words k bytes ≡ drop n bytes)
behind_drop zero bytes = (0, refl)
behind_drop (suc k) bytes =
    let m = position_or_len is_blank bytes in
    let j = position_or_len (λ b. not (is_blank b)) (drop m bytes) in
    let next : behind_word bytes ≡ drop (m + j) bytes = sym (front_is (drop m bytes)) ∙ drop-drop j m bytes in
    let later = behind_drop k (behind_word bytes) in
    (m + j + later.0, later.1 ∙ ap (drop later.0) next ∙ drop-drop later.0 (m + j) bytes)

-- What stands behind so many tokens of a clean line is its end.
pub rest_drop : (k : ℕ) (bytes : List ℕ) → IsClean bytes → (n : ℕ) × (rest_after k bytes ≡ drop n bytes)
rest_drop k bytes clean =
    let found = behind_drop k bytes in
    (found.0, ap (λ (t : List ℕ). behind_words k (trimmed t)) (uncommented_is bytes clean.uncommented) ∙ ap (behind_words k) clean.trimmed ∙ found.1)

pub end_fits : (bytes part : List ℕ) (n : ℕ) → part ≡ drop n bytes → length part ≤ length bytes
end_fits bytes part n is = omega (arith, ap length is, length-drop n bytes)

pub end_place : (text bytes part : List ℕ) (start n : ℕ) → StandsAt text bytes start → part ≡ drop n bytes → StandsAt text part (start + (length bytes - length part))
end_place text bytes part start n stands is =
    let size : length part ≡ length bytes - n = ap length is ∙ length-drop n bytes in
    let k = length bytes - length part in
    let same : drop k bytes ≡ part = elim (cases_lt (length bytes) n) [
      | inl lt ↦ drop_all k bytes (omega (arith, size, lt)) ∙ sym (drop_all n bytes (omega (arith, lt))) ∙ sym is
      | inr le ↦ let e : k ≡ n = omega (arith, size, le) in ap (λ (m : ℕ). drop m bytes) e ∙ sym is
    ] in
    subst (λ (p : List ℕ). StandsAt text p (start + k)) same (behind_stands text bytes start stands k (omega arith))

-- The lines of a walk are clean.
pub clean_ahead : (walk : PlacedWalk) (line : TextLine) (lines : List TextLine) → lines_ahead walk ≡ line ∷ lines → IsClean line.bytes
clean_ahead walk line lines is = (subst AllClean is (clean_numbered (walk.number + 1) (slice_split is_line_end (drop walk.at walk.text)) (none_split is_line_end (drop walk.at walk.text)))).0
