-- Copy lines that are read one after the other.
use Rattle.surf_sew.proofs.Common.{◌≡◌, ◌+◌, ℕ, true, false, List, [], ◌∷◌, ◌++◌, length, Some, None, Result, Ok, Err, refl, sym, ap, append_assoc, not, codes, append-nil, bytes_eq, words_of, whole, has_some, CopyForm, ◌>>=◌, word_lines_from, is_copy, copies_among, origin_at, origin_of}
use Rattle.surf_sew.specs.declared.copies.CopyFault.{CopyFault}
use Rattle.surf_sew.specs.Copies.{origins_from}

-- origins that were read, in front of those to come
abbrev pub with_origins : List ℕ → Result (List ℕ) CopyFault → Result (List ℕ) CopyFault
with_origins front (Ok origins) = Ok (front ++ origins)
with_origins front (Err fault) = Err fault

pub with_none : (read : Result (List ℕ) CopyFault) → with_origins [] read ≡ read
with_none (Ok origins) = refl
with_none (Err fault) = refl

one_more : (front : List ℕ) (v : ℕ) (read : Result (List ℕ) CopyFault) → with_origins front (read >>= λ later. Ok (v ∷ later)) ≡ with_origins (front ++ v ∷ []) read
one_more front v (Ok origins) = ap (λ (os : List ℕ). Ok os) (sym (append_assoc front (v ∷ []) origins))
one_more front v (Err fault) = refl

module _ (n : ℕ) (front line : List ℕ) (lines : List (List ℕ)) where
  pub other_line : is_copy (words_of line) ≡ false → with_origins front (origins_from (length front) (copies_among (word_lines_from n (line ∷ lines)))) ≡ with_origins front (origins_from (length front) (copies_among (word_lines_from (n + 1) lines)))
  other_line other = rw other refl

  pub copy_line : (v : ℕ) → is_copy (words_of line) ≡ true → origin_of (length front) (words_of line) ≡ Some v → with_origins front (origins_from (length front) (copies_among (word_lines_from n (line ∷ lines)))) ≡ with_origins (front ++ v ∷ []) (origins_from (length front + 1) (copies_among (word_lines_from (n + 1) lines)))
  unfolding origins_from
  copy_line v copy origin = rw (copy, origin) (one_more front v (origins_from (length front + 1) (copies_among (word_lines_from (n + 1) lines))))

  pub bad_line : is_copy (words_of line) ≡ true → origin_of (length front) (words_of line) ≡ None → with_origins front (origins_from (length front) (copies_among (word_lines_from n (line ∷ lines)))) ≡ Err (CopyForm n)
  unfolding origins_from
  bad_line copy origin = rw (copy, origin) refl

pub no_line : (n : ℕ) (front : List ℕ) → with_origins front (origins_from (length front) (copies_among (word_lines_from n []))) ≡ Ok front
unfolding origins_from
no_line n front = ap (λ (os : List ℕ). Ok os) (append-nil front)

-- five words, the fourth of which is from
pub five_words : (place : ℕ) (words t1 t2 t3 t4 t5 : List (List ℕ)) (sign copy i from v : List ℕ) → words ≡ sign ∷ t1 → t1 ≡ copy ∷ t2 → t2 ≡ i ∷ t3 → t3 ≡ from ∷ t4 → t4 ≡ v ∷ t5 → not (has_some t5) ≡ true → bytes_eq from (codes "from") ≡ true
    → origin_of place words ≡ origin_at place (whole i) (whole v)
five_words place words t1 t2 t3 t4 [] sign copy i from v e1 e2 e3 e4 e5 last named =
    let all : words ≡ sign ∷ copy ∷ i ∷ from ∷ v ∷ [] = cc in
    rw (all, named) refl
five_words place words t1 t2 t3 t4 (t ∷ ts) sign copy i from v e1 e2 e3 e4 e5 last named = absurd cc
