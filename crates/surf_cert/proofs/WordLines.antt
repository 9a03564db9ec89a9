-- Lines of words with a space between any two, and their tokens.
use Rattle.surf_cert.proofs.Common.{◌≡◌, ◌+◌, ℕ, true, false, List, [], ◌∷◌, ◌++◌, Option, Some, Ok, refl, ◌∙◌, ap, subst, list_any, TextLine, is_line_end, is_comment_sign, uncommented, words_of, tokens_of, trimmed, onto_lines, lines_of, words_trimmed, AllClean, clean_lines, IsWord, opens, uncommented_is, words_word, none_append, lines_from, first_line}
use Rattle.surf_cert.specs.Grammar.{next_of}

-- words, each behind a space
abbrev pub spaced : List (List ℕ) → List ℕ
spaced [] = []
spaced (w ∷ ws) = 32 ∷ (w ++ spaced ws)

-- a first word and others
abbrev pub line_of : List ℕ → List (List ℕ) → List ℕ
line_of w ws = w ++ spaced ws

unfoldable pub AllWords : List (List ℕ) → Type 0
AllWords [] = Unit {0}
AllWords (w ∷ ws) = IsWord w × AllWords ws

opens_spaced : (ws : List (List ℕ)) → opens (spaced ws) ≡ true
opens_spaced [] = refl
opens_spaced (w ∷ ws) = refl

none_ended : (ws : List (List ℕ)) → AllWords ws → list_any is_line_end (spaced ws) ≡ false
unfolding AllWords
none_ended [] words = refl
none_ended (w ∷ ws) words = none_append is_line_end w (spaced ws) words.0.one_line (none_ended ws words.1)

none_commented : (ws : List (List ℕ)) → AllWords ws → list_any is_comment_sign (spaced ws) ≡ false
unfolding AllWords
none_commented [] words = refl
none_commented (w ∷ ws) words = none_append is_comment_sign w (spaced ws) words.0.uncommented (none_commented ws words.1)

words_spaced : (ws : List (List ℕ)) → AllWords ws → words_of (spaced ws) ≡ ws
unfolding AllWords
words_spaced [] words = refl
words_spaced (w ∷ ws) words = words_word w (spaced ws) words.0.some words.0.dark (opens_spaced ws) ∙ ap (λ (vs : List (List ℕ)). w ∷ vs) (words_spaced ws words.1)

-- what is kept of a line has the line's tokens
kept_tokens : (l w : List ℕ) (ws : List (List ℕ)) → list_any is_line_end l ≡ false → tokens_of l ≡ w ∷ ws
    → tokens_of (trimmed (uncommented l)) ≡ w ∷ ws
kept_tokens l w ws one is =
    let kept : TextLine = record { number = 1; bytes = trimmed (uncommented l) } in
    let lines : lines_of (l ++ 10 ∷ []) ≡ kept ∷ lines_from 2 [] = first_line 1 l [] one ∙ ap (λ (tokens : List (List ℕ)). onto_lines kept tokens (lines_from 2 [])) is in
    let all : AllClean (kept ∷ lines_from 2 []) = subst AllClean lines (clean_lines (l ++ 10 ∷ [])) in
    ap words_of (uncommented_is (trimmed (uncommented l)) all.0.uncommented) ∙ words_trimmed (uncommented l) ∙ is

module _ (w : List ℕ) (ws : List (List ℕ)) (first : IsWord w) (words : AllWords ws) where
  one : list_any is_line_end (line_of w ws) ≡ false
  one = none_append is_line_end w (spaced ws) first.one_line (none_ended ws words)

  line_tokens : tokens_of (line_of w ws) ≡ w ∷ ws
  line_tokens =
      ap words_of (uncommented_is (line_of w ws) (none_append is_comment_sign w (spaced ws) first.uncommented (none_commented ws words)))
      ∙ words_word w (spaced ws) first.some first.dark (opens_spaced ws)
      ∙ ap (λ (vs : List (List ℕ)). w ∷ vs) (words_spaced ws words)

  -- what is kept of the line
  pub kept_line : ℕ → TextLine
  kept_line n = record { number = n; bytes = trimmed (uncommented (line_of w ws)) }

  pub kept_is : tokens_of (trimmed (uncommented (line_of w ws))) ≡ w ∷ ws
  kept_is = kept_tokens (line_of w ws) w ws one line_tokens

  -- the line in front of a text
  pub line_first : (n : ℕ) (rest : List ℕ)
      → lines_from n (line_of w ws ++ 10 ∷ rest) ≡ record { number = n; bytes = trimmed (uncommented (line_of w ws)) } ∷ lines_from (n + 1) rest
  line_first n rest =
      first_line n (line_of w ws) rest one
      ∙ ap (λ (tokens : List (List ℕ)). onto_lines (record { number = n; bytes = trimmed (uncommented (line_of w ws)) }) tokens (lines_from (n + 1) rest)) line_tokens

  -- the line read by a form
  pub line_again : {A : Type 0} (form : List (List ℕ) → Option A) (x : A) → form (w ∷ ws) ≡ Some x
      → (n : ℕ) (rest : List ℕ)
      → next_of form (lines_from n (line_of w ws ++ 10 ∷ rest)) ≡ Ok (x, lines_from (n + 1) rest)
  unfolding next_of
  line_again form x good n rest = rw (line_first n rest, kept_is, good) refl
