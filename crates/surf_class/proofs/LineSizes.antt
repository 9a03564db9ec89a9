-- The lines of a text are no longer than it, and have tokens.
use Rattle.surf_cert.proofs.Common.{◌≡◌, ℕ, suc, ◌<◌, ◌≤◌, ◌+◌, Bool, List, [], ◌∷◌, length, refl, ap, ◌∙◌, subst, arith, inl, inr, cases_Bool, AllByRecursion, slice_split, onto_first, before_first, position_or_len, length-filter, count_by-le-length, length-take, length-slice_split, TextLine, is_blank, is_nonempty, is_line_end, is_comment_sign, uncommented, trimmed_front, before_some, trimmed_back, trimmed, words_of, tokens_of, onto_lines, numbered_from, lines_of, words_trimmed, AllClean, clean_lines, uncommented_is}

front_short : (bs : List ℕ) → length (trimmed_front bs) ≤ length bs
front_short [] = omega arith
front_short (b ∷ bs) = let rest = front_short bs in elim (cases_Bool (is_blank b)) [
  | inl on ↦ rw on (omega (arith, rest))
  | inr off ↦ rw off (omega arith)
]

some_short : (b : ℕ) (bs : List ℕ) → length (before_some b bs) ≤ length (b ∷ bs)
some_short b [] = elim (cases_Bool (is_blank b)) [ inl on ↦ rw on (omega arith) | inr off ↦ rw off (omega arith) ]
some_short b (c ∷ cs) = omega arith

back_short : (bs : List ℕ) → length (trimmed_back bs) ≤ length bs
back_short [] = omega arith
back_short (b ∷ bs) =
    let one = some_short b (trimmed_back bs) in
    let rest = back_short bs in
    omega (arith, one, rest)

before_short : (p : ℕ → Bool) (bs : List ℕ) → length (before_first p bs) ≤ length bs
before_short p bs = let size = length-take (position_or_len p bs) bs in omega (arith, size)

kept_short : (part : List ℕ) → length (trimmed (uncommented part)) ≤ length part
kept_short part =
    let a = back_short (trimmed_front (uncommented part)) in
    let b = front_short (uncommented part) in
    let c = before_short is_comment_sign part in
    omega (arith, a, b, c)

longer : (n m : ℕ) → n ≤ m → (parts : List (List ℕ)) → AllByRecursion (λ part. length part ≤ n) parts →
    AllByRecursion (λ part. length part ≤ m) parts
longer n m le [] all = tt
longer n m le (part ∷ parts) all = (let here = all.0 in omega (arith, here, le), longer n m le parts all.1)

onto_short : (n b : ℕ) (parts : List (List ℕ)) → AllByRecursion (λ part. length part ≤ n) parts →
    AllByRecursion (λ part. length part ≤ suc n) (onto_first b parts)
onto_short n b [] all = (omega arith, tt)
onto_short n b (part ∷ parts) all = (let here = all.0 in omega (arith, here), longer n (suc n) (omega arith) parts all.1)

parts_short : (p : ℕ → Bool) (text : List ℕ) → AllByRecursion (λ part. length part ≤ length text) (slice_split p text)
parts_short p [] = (omega arith, tt)
parts_short p (b ∷ bs) = let rest = parts_short p bs in elim (cases_Bool (p b)) [
  | inl on ↦ rw on (omega arith, longer (length bs) (suc (length bs)) (omega arith) (slice_split p bs) rest)
  | inr off ↦ rw off (onto_short (length bs) b (slice_split p bs) rest)
]

-- a line is what is kept of a part that has tokens
pub record IsKept (bound : ℕ) (line : TextLine) : Type 0 where
  pub part : List ℕ
  pub kept : line.bytes ≡ trimmed (uncommented part)
  pub short : length part ≤ bound
  pub some : 0 < length (tokens_of part)

kept_onto : (bound n : ℕ) (part : List ℕ) (lines : List TextLine) (tokens : List (List ℕ)) → tokens_of part ≡ tokens → length part ≤ bound →
    AllByRecursion (IsKept bound) lines →
    AllByRecursion (IsKept bound) (onto_lines (record { number = n; bytes = trimmed (uncommented part) }) tokens lines)
kept_onto bound n part lines [] is short all = all
kept_onto bound n part lines (token ∷ tokens) is short all = (
  record { part = part; kept = refl; short = short; some = rw is (omega arith) },
  all,
)

all_kept : (bound n : ℕ) (parts : List (List ℕ)) → AllByRecursion (λ part. length part ≤ bound) parts →
    AllByRecursion (IsKept bound) (numbered_from n parts)
all_kept bound n [] all = tt
all_kept bound n (part ∷ parts) all =
    kept_onto bound n part (numbered_from (n + 1) parts) (tokens_of part) refl all.0 (all_kept bound (n + 1) parts all.1)

words_few : (bs : List ℕ) → length (words_of bs) ≤ length bs + 1
words_few bs =
    let a = length-filter is_nonempty (slice_split is_blank bs) in
    let b = count_by-le-length is_nonempty (slice_split is_blank bs) in
    let c = length-slice_split is_blank bs in
    let d = count_by-le-length is_blank bs in
    omega (arith, a, b, c, d)

module _ (text : List ℕ) (line : TextLine) (lines : List TextLine) (is : lines_of text ≡ line ∷ lines) where
  kept_line : IsKept (length text) line
  kept_line =
      let all = all_kept (length text) 1 (slice_split is_line_end text) (parts_short is_line_end text) in
      (subst (λ (ls : List TextLine). AllByRecursion (IsKept (length text)) ls) is all).0

  same_tokens : tokens_of line.bytes ≡ tokens_of kept_line.part
  same_tokens =
      let clean = (subst AllClean is (clean_lines text)).0 in
      ap words_of (uncommented_is line.bytes clean.uncommented) ∙ ap words_of kept_line.kept ∙ words_trimmed (uncommented kept_line.part)

  pub some_token : 0 < length (tokens_of line.bytes)
  some_token = let some = kept_line.some in let same = ap length same_tokens in omega (arith, some, same)

  pub few_tokens : length (tokens_of line.bytes) ≤ length text + 1
  few_tokens =
      let same = ap length same_tokens in
      let few = words_few (uncommented kept_line.part) in
      let short = before_short is_comment_sign kept_line.part in
      let part = kept_line.short in
      omega (arith, same, few, short, part)
