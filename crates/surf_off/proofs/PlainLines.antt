-- Words behind spaces, and what stands behind them.
use Rattle.std.proofs.Common.{◌≡◌, ◌<◌, ◌≤◌, ◌+◌, ◌-◌, ℕ, suc, Bool, true, false, List, [], ◌∷◌, ◌++◌, length, length-append, take, drop, Some, None, Ok, Err, refl, sym, ◌∙◌, ap, subst, append_assoc, arith, inl, inr}
use Rattle.std.specs.Borrow.{Bor}
use Rattle.surf_surfaces.proofs.Common.{nat_le, nat_lt, ◌==◌, ◌||◌, Option, Result, IfOk, IfSome, both_ways, cases_Bool, le-leb, le-ltb, lt-ltb, list_any, before_first, position_or_len, take-append_seam, append-nil, take-append-drop, take_rest}
use Rattle.surf_text.specs.Text.{TextLine, is_blank, is_line_end, is_comment_sign, is_nonempty, uncommented, words_of, tokens_of, before_some, trimmed_back, trimmed, behind_words, rest_after, short_whole, is_no_digit, front_digits, onto_lines}
use Rattle.surf_text.proofs.Words.{front_back, words_trimmed}
use Rattle.surf_text.proofs.Plain.{whole_some, short_is_whole}
use Rattle.surf_off.specs.Clean.{IsClean}
use Rattle.surf_base.specs.Gives.{◌>>=◌}
use Rattle.surf_off.specs.Off.{size_of, corners_at, distinct, first_repeat, face_of}
use Rattle.surf_off.specs.Plain.{spaced, is_end, closes, AreVertices, BeginsWith, IsPlain, IsBehind, line_before}
use Rattle.surf_off.specs.declared.fault.OffFault.{OffFault}
use Rattle.surf_off.proofs.CleanLines.{none_before, clean_trimmed}
use Rattle.surf_off.proofs.Decimals.{IsWord, word_digits}
use Rattle.surf_off.proofs.NumberLines.{opens, uncommented_is, uncommented_more, words_word, behind_first, front_word, back_word, none_append}

word_short : (word : List ℕ) (u : ℕ) → short_whole word ≡ Some u → IsWord word
word_short word u is = let w = whole_some word u (short_is_whole word u is).0 in word_digits word w.0 w.1

AreWords : List (List ℕ) → Type 0
AreWords [] = Unit {0}
AreWords (word ∷ words) = IsWord word × AreWords words

vertex_words : (v : ℕ) (words : List (List ℕ)) (us : List ℕ) → AreVertices v words us → AreWords words
unfolding AreWords
vertex_words v [] [] are = tt
vertex_words v [] (u ∷ us) are = absurd are
vertex_words v (word ∷ words) [] are = absurd are
vertex_words v (word ∷ words) (u ∷ us) are = (word_short word u are.0, vertex_words v words us are.2)

vertex_count : (v : ℕ) (words : List (List ℕ)) (us : List ℕ) → AreVertices v words us → length words ≡ length us
vertex_count v [] [] are = refl
vertex_count v [] (u ∷ us) are = absurd are
vertex_count v (word ∷ words) [] are = absurd are
vertex_count v (word ∷ words) (u ∷ us) are = ap suc (vertex_count v words us are.2)

vertices_read : (v : ℕ) (words : List (List ℕ)) (us : List ℕ) → AreVertices v words us → (n place : ℕ) → corners_at n v place words ≡ Ok us
unfolding corners_at
vertices_read v [] [] are n place = refl
vertices_read v [] (u ∷ us) are n place = absurd are
vertices_read v (word ∷ words) [] are n place = absurd are
vertices_read v (word ∷ words) (u ∷ us) are n place =
    rw ((short_is_whole word u are.0).0, lt-ltb u v are.1, vertices_read v words us are.2 n (place + 1)) refl

none_spaced : (p : ℕ → Bool) → p 32 ≡ false → ((word : List ℕ) → IsWord word → list_any p word ≡ false) → (words : List (List ℕ)) → AreWords words → list_any p (spaced words) ≡ false
unfolding AreWords
none_spaced p space none [] are = refl
none_spaced p space none (word ∷ words) are = rw space (none_append p word (spaced words) (none word are.0) (none_spaced p space none words are.1))

opens_back : (ys : List ℕ) → opens ys ≡ true → opens (trimmed_back ys) ≡ true
opens_back [] opened = refl
opens_back (b ∷ bs) opened = at (trimmed_back bs)
  where
    at : (back : List ℕ) → opens (before_some b back) ≡ true
    at [] = rw opened refl
    at (c ∷ cs) = opened

end_is : (b : ℕ) → is_blank b ≡ false → is_line_end b ≡ false → is_comment_sign b ≡ false → is_end b ≡ false
end_is b blank end sign = at (b == 32) (b == 9) (b == 13) (b == 10) (b == 35) blank end sign
  where
    at : (p q r s t : Bool) → (p || q || r) ≡ false → s ≡ false → t ≡ false → (p || q || r || s || t) ≡ false
    at p q r s t e f g = elim (cases_Bool p) [
      | inl found ↦ let h = rw found at e in absurd cc
      | inr a ↦ elim (cases_Bool q) [
        | inl found ↦ let h = rw (a, found) at e in absurd cc
        | inr b ↦ elim (cases_Bool r) [
          | inl found ↦ let h = rw (a, b, found) at e in absurd cc
          | inr c ↦ rw (a, b, c, f, g) refl
        ]
      ]
    ]

-- what stands behind a word, up to a comment
opens_behind : (bs : List ℕ) → closes bs ≡ true → opens (uncommented (before_first is_line_end bs)) ≡ true
opens_behind [] closed = refl
opens_behind (b ∷ bs) closed =
    let k : 1 + position_or_len is_line_end bs ≡ suc (position_or_len is_line_end bs) = omega arith in
    let line = take (position_or_len is_line_end bs) bs in
    let j : 1 + position_or_len is_comment_sign line ≡ suc (position_or_len is_comment_sign line) = omega arith in
    elim (cases_Bool (is_line_end b)) [
      | inl end ↦ rw end refl
      | inr inside ↦ elim (cases_Bool (is_comment_sign b)) [
        | inl sign ↦ rw (inside, k, sign) refl
        | inr dark ↦ elim (cases_Bool (is_blank b)) [
          | inl blank ↦ rw (inside, k, dark, j) blank
          | inr other ↦ absurd (both_ways (is_end b) (end_is b other inside dark) closed)
        ]
      ]
    ]

trimmed_word : (w : List ℕ) → IsWord w → (tail : List ℕ) → trimmed (w ++ tail) ≡ w ++ trimmed_back tail
trimmed_word w word tail = ap trimmed_back (front_word w tail word.some word.dark) ∙ back_word w tail word.dark

module _ (tail : List ℕ) (opened : opens tail ≡ true) where
  spaced_more : (word : List ℕ) (words : List (List ℕ)) → spaced (word ∷ words) ++ tail ≡ 32 ∷ (word ++ (spaced words ++ tail))
  spaced_more word words = ap (λ (t : List ℕ). 32 ∷ t) (append_assoc word (spaced words) tail)

  opens_spaced : (words : List (List ℕ)) → opens (spaced words ++ tail) ≡ true
  opens_spaced [] = opened
  opens_spaced (word ∷ words) = refl

  words_spaced : (words : List (List ℕ)) → AreWords words → words_of (spaced words ++ tail) ≡ words ++ words_of tail
  unfolding AreWords
  words_spaced [] are = refl
  words_spaced (word ∷ words) are =
      ap words_of (spaced_more word words)
      ∙ words_word word (spaced words ++ tail) are.0.some are.0.dark (opens_spaced words)
      ∙ ap (λ (ws : List (List ℕ)). word ∷ ws) (words_spaced words are.1)

  behind_word_is : (n : ℕ) (word : List ℕ) → IsWord word → (words : List (List ℕ)) → behind_words (suc n) (trimmed (word ++ (spaced words ++ tail))) ≡ behind_words n (trimmed (spaced words ++ tail))
  behind_word_is n word is words =
      let rest = spaced words ++ tail in
      ap (behind_words (suc n)) (trimmed_word word is rest)
      ∙ ap (behind_words n) (behind_first word (trimmed_back rest) is.dark (opens_back rest (opens_spaced words)))
      ∙ ap (behind_words n) (front_back rest)

  behind_spaced : (words : List (List ℕ)) → AreWords words → behind_words (length words) (trimmed (spaced words ++ tail)) ≡ trimmed tail
  unfolding AreWords
  behind_spaced [] are = refl
  behind_spaced (word ∷ words) are =
      ap (λ (t : List ℕ). behind_words (suc (length words)) (trimmed t)) (spaced_more word words)
      ∙ behind_word_is (length words) word are.0 words
      ∙ behind_spaced words are.1

append_end : (words : List (List ℕ)) (word : List ℕ) → spaced (words ++ word ∷ []) ≡ spaced words ++ (32 ∷ word)
append_end [] word = ap (λ (t : List ℕ). 32 ∷ t) (append-nil word)
append_end (w ∷ ws) word = ap (λ (t : List ℕ). (32 ∷ w) ++ t) (append_end ws word) ∙ sym (append_assoc (32 ∷ w) (spaced ws) (32 ∷ word))

vertices_end : (v : ℕ) (words : List (List ℕ)) (us : List ℕ) (word : List ℕ) (u : ℕ) → AreVertices v words us → short_whole word ≡ Some u → u < v → AreVertices v (words ++ word ∷ []) (us ++ u ∷ [])
vertices_end v [] [] word u are is lt = (is, lt, tt)
vertices_end v [] (x ∷ us) word u are is lt = absurd are
vertices_end v (w ∷ ws) [] word u are is lt = absurd are
vertices_end v (w ∷ ws) (x ∷ us) word u are is lt = (are.0, are.1, vertices_end v ws us word u are.2 is lt)

-- the vertices that were read so far, and what stands behind them
pub record SoFar (v : ℕ) (text us behind : List ℕ) : Type 0 where
  pub words : List (List ℕ)
  pub vertices : AreVertices v words us
  pub is : text ≡ spaced words ++ behind

pub none_so_far : (v : ℕ) (text : List ℕ) → SoFar v text [] text
none_so_far v text = record { words = []; vertices = tt; is = refl }

pub one_more : (v : ℕ) (text us behind number rest : List ℕ) (u d : ℕ) → SoFar v text us behind → behind ≡ 32 ∷ number → short_whole (front_digits number) ≡ Some u → position_or_len is_no_digit number ≡ d → u < v → rest ≡ take (length number - d) (drop d number) → SoFar v text (us ++ u ∷ []) rest
one_more v text us behind number rest u d so_far is short place lt rest_is =
    let word = front_digits number in
    let parts : number ≡ word ++ rest = sym (take-append-drop (position_or_len is_no_digit number) number) ∙ ap (λ (k : ℕ). word ++ drop k number) place ∙ ap (λ (t : List ℕ). word ++ t) (sym (rest_is ∙ take_rest number d)) in
    record {
      words = so_far.words ++ word ∷ [];
      vertices = vertices_end v so_far.words us word u so_far.vertices short lt;
      is = so_far.is
          ∙ ap (λ (t : List ℕ). spaced so_far.words ++ t) (is ∙ ap (λ (t : List ℕ). 32 ∷ t) parts)
          ∙ sym (append_assoc (spaced so_far.words) (32 ∷ word) rest)
          ∙ ap (λ (t : List ℕ). t ++ rest) (sym (append_end so_far.words word));
    }

pub begins : (v : ℕ) (text us behind : List ℕ) → SoFar v text us behind → closes behind ≡ true → BeginsWith v text us behind
begins v text us behind so_far closed = record { words = so_far.words; vertices = so_far.vertices; is = so_far.is; closed = closed }

-- a size in front of the corners
pub sized : (v : ℕ) (text us behind : List ℕ) (k d : ℕ) → short_whole (front_digits text) ≡ Some k → position_or_len is_no_digit text ≡ d → length us ≡ k → BeginsWith v (take (length text - d) (drop d text)) us behind → IsPlain v text us behind
sized v text us behind k d short place count corners = record {
  size = front_digits text;
  count = short ∙ ap (λ (n : ℕ). Some n) (sym count);
  rest = drop d text;
  is = sym (take-append-drop (position_or_len is_no_digit text) text) ∙ ap (λ (n : ℕ). front_digits text ++ drop n text) place;
  corners = subst (λ (rest : List ℕ). BeginsWith v rest us behind) (take_rest text d) corners;
}

take_more_than : (front rest : List ℕ) (k : ℕ) → take (length front + k) (front ++ rest) ≡ front ++ take k rest
take_more_than [] rest k = let n : 0 + k ≡ k = omega arith in ap (λ (m : ℕ). take m rest) n
take_more_than (x ∷ xs) rest k =
    let n : length (x ∷ xs) + k ≡ suc (length xs + k) = omega arith in
    rw n (ap (λ (t : List ℕ). x ∷ t) (take_more_than xs rest k))

pub line_is : (front behind : List ℕ) → line_before (front ++ behind) behind ≡ front ++ before_first is_line_end behind
line_is front behind =
    let n : length (front ++ behind) - length behind ≡ length front = omega (arith, length-append front behind) in
    ap (λ (m : ℕ). take (m + position_or_len is_line_end behind) (front ++ behind)) n ∙ take_more_than front behind (position_or_len is_line_end behind)

-- A text that begins plainly with a face.
module _ (v : ℕ) (text us behind : List ℕ) (plain : IsPlain v text us behind) where
  words : List (List ℕ)
  words = plain.corners.words

  front : List ℕ
  front = plain.size ++ spaced words

  tail : List ℕ
  tail = uncommented (before_first is_line_end behind)

  line : List ℕ
  line = line_before text behind

  bytes : List ℕ
  bytes = trimmed (uncommented line)

  are : AreWords words
  unfolding words
  are = vertex_words v plain.corners.words us plain.corners.vertices

  word : IsWord plain.size
  word = word_short plain.size (length us) plain.count

  text_is : text ≡ front ++ behind
  unfolding front words
  text_is = plain.is ∙ ap (λ (t : List ℕ). plain.size ++ t) plain.corners.is ∙ sym (append_assoc plain.size (spaced plain.corners.words) behind)

  none_front : (p : ℕ → Bool) → p 32 ≡ false → ((w : List ℕ) → IsWord w → list_any p w ≡ false) → list_any p front ≡ false
  unfolding front
  none_front p space none = none_append p plain.size (spaced words) (none plain.size word) (none_spaced p space none words are)

  some_front : 0 < length front
  unfolding front
  some_front = let n = length-append plain.size (spaced words) in omega (arith, n, some plain.size word.some)
    where
      some : (w : List ℕ) → is_nonempty w ≡ true → 0 < length w
      some [] is = absurd cc
      some (b ∷ bs) is = omega arith

  pub behind_is : IsBehind text behind
  behind_is = record { front = front; some = some_front; one_line = none_front is_line_end refl (λ w is. is.one_line); is = text_is }

  raw_is : line ≡ front ++ before_first is_line_end behind
  unfolding line
  raw_is = ap (λ (t : List ℕ). line_before t behind) text_is ∙ line_is front behind

  cut_is : uncommented line ≡ plain.size ++ (spaced words ++ tail)
  unfolding tail front
  cut_is =
      ap uncommented raw_is
      ∙ uncommented_more front (before_first is_line_end behind) (none_front is_comment_sign refl (λ w is. is.uncommented))
      ∙ append_assoc plain.size (spaced words) (uncommented (before_first is_line_end behind))

  opened : opens tail ≡ true
  unfolding tail
  opened = opens_behind behind plain.corners.closed

  plain_tokens : tokens_of line ≡ plain.size ∷ (words ++ words_of tail)
  plain_tokens =
      ap words_of cut_is
      ∙ words_word plain.size (spaced words ++ tail) word.some word.dark (opens_spaced tail opened words)
      ∙ ap (λ (ws : List (List ℕ)). plain.size ∷ ws) (words_spaced tail opened words are)

  clean : IsClean bytes
  unfolding bytes
  clean = clean_trimmed line (ap (list_any is_line_end) raw_is ∙ none_append is_line_end front (before_first is_line_end behind) (none_front is_line_end refl (λ w is. is.one_line)) (none_before is_line_end behind))

  same_tokens : tokens_of bytes ≡ plain.size ∷ (words ++ words_of tail)
  unfolding bytes
  same_tokens = ap words_of (uncommented_is bytes clean.uncommented) ∙ words_trimmed (uncommented line) ∙ plain_tokens

  same_rest : rest_after (suc (length words)) bytes ≡ trimmed tail
  unfolding bytes
  same_rest =
      ap (λ (t : List ℕ). behind_words (suc (length words)) (trimmed t)) (uncommented_is bytes clean.uncommented)
      ∙ ap (behind_words (suc (length words))) clean.trimmed
      ∙ ap (λ (t : List ℕ). behind_words (suc (length words)) (trimmed t)) cut_is
      ∙ behind_word_is tail opened (length words) plain.size word words
      ∙ behind_spaced tail opened words are

  pub plain_ahead : (n : ℕ) (lines : List TextLine) → onto_lines (record { number = n; bytes = trimmed (uncommented (line_before text behind)) }) (tokens_of (line_before text behind)) lines ≡ record { number = n; bytes = trimmed (uncommented (line_before text behind)) } ∷ lines
  unfolding line
  plain_ahead n lines = ap (λ (ts : List (List ℕ)). onto_lines (record { number = n; bytes = trimmed (uncommented (line_before text behind)) }) ts lines) plain_tokens

  -- Its line gives these corners, up to a repeated one, and this colour.
  module _ (sides n : ℕ) (le : sides ≤ 6000000) (large : 3 ≤ length us) (few : length us ≤ 6000000 - sides) where
    pub plain_is : face_of true v sides (record { number = n; bytes = trimmed (uncommented (line_before text behind)) }) ≡ (distinct n us (first_repeat [] us) >>= λ corners. Ok (record { corners = corners; colour = trimmed (uncommented (before_first is_line_end behind)) }))
    unfolding face_of size_of line bytes tail words
    plain_is =
        let ws = plain.corners.words in
        let count : length ws ≡ length us = vertex_count v ws us plain.corners.vertices in
        let size = short_is_whole plain.size (length us) plain.count in
        let others = words_of tail in
        let large_is : nat_le 3 (length us) ≡ true = le-leb 3 (length us) large in
        let enough : nat_le (length us) (length (ws ++ others)) ≡ true = le-leb _ _ (omega (arith, length-append ws others, count)) in
        let few_is : nat_lt 6000000 (sides + length us) ≡ false = le-ltb _ _ (omega (arith, few, le)) in
        let all : take (length us) (ws ++ others) ≡ ws = ap (λ (k : ℕ). take k (ws ++ others)) (sym count) ∙ take-append_seam ws others in
        let rest : rest_after (suc (length us)) bytes ≡ trimmed tail = ap (λ (k : ℕ). rest_after (suc k) bytes) (sym count) ∙ same_rest in
        rw (same_tokens, size.0, large_is, enough, few_is, all, vertices_read v ws us plain.corners.vertices n 0, rest) refl

    pub plain_good : distinct n us (first_repeat [] us) ≡ Ok us → face_of true v sides (record { number = n; bytes = trimmed (uncommented (line_before text behind)) }) ≡ Ok (record { corners = us; colour = trimmed (uncommented (before_first is_line_end behind)) })
    plain_good good = plain_is ∙ rw good refl

    pub plain_bad : (e : OffFault) → distinct n us (first_repeat [] us) ≡ Err e → face_of true v sides (record { number = n; bytes = trimmed (uncommented (line_before text behind)) }) ≡ Err e
    plain_bad e bad = plain_is ∙ rw bad refl

-- the same for all that a reader of the corners may answer
pub sized_all : (v : ℕ) (text us : List ℕ) (k d : ℕ) → short_whole (front_digits text) ≡ Some k → position_or_len is_no_digit text ≡ d → (r : Result (Option (Bor (List ℕ))) OffFault) → IfOk r (λ plain. IfSome plain (λ b. length us ≡ k)) → IfOk r (λ plain. IfSome plain (λ b. BeginsWith v (take (length text - d) (drop d text)) us b.now)) → IfOk r (λ plain. IfSome plain (λ b. IsPlain v text us b.now))
sized_all v text us k d short place (Err e) count reads = tt
sized_all v text us k d short place (Ok None) count reads = tt
sized_all v text us k d short place (Ok (Some b)) count reads = sized v text us b.now k d short place count reads
