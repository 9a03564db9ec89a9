-- Lines of words and numbers are read as what they were written of.
use Rattle.surf_cert.proofs.Common.{◌≡◌, ◌<◌, ◌+◌, ◌^◌, ℕ, zero, suc, true, false, List, [], ◌∷◌, ◌++◌, Option, Some, None, refl, sym, ◌∙◌, ap, append_assoc, append-nil, codes, inl, inr, arith, decimal, map, bytes_eq, cases_Bool, bytes_eq-Decides, All, option_map_or, whole, IsWord, word_decimal, whole_decimal, lines_from, tokens_of, TextLine, numbers_text}
use Rattle.std.specs.Prelude.{length, sum, flat_map, drop, ◌==◌, if◌then◌else◌}
use Rattle.std.specs.List.{range_with_len}
use Rattle.surf_surfaces.proofs.Common.{cases_eq, ne_eqb, eq-eqb, Tree}
use Rattle.surf_surfaces.specs.Choice.{Loop}
use Rattle.surf_text.specs.Text.{lines_of, trimmed, uncommented}
use Rattle.surf_cert.proofs.WordLines.{spaced, line_of, AllWords, line_first, kept_is}
use Rattle.surf_texts.specs.DistanceTexts.{parent_in, parent_text, vertex_line, distances_text}
use Rattle.surf_texts.specs.MeasuredTexts.{measured_line, measured_text, total_lines}
use Rattle.surf_texts.specs.Rereading.{number_in, sized_walk, walk_on, walks_in, IsWritable, AreWritable, WalksAreReread, OneWalkIsReread, parent_on, distance_on, DistancesAreReread}

-- ---- numbers

number_again : (n : ℕ) → n < 2 ^ 64 → number_in (decimal n) ≡ n
number_again n fits = rw (whole_decimal n fits) refl

numbers_again : (ns : List ℕ) → All (λ n. n < 2 ^ 64) ns → map number_in (map decimal ns) ≡ ns
numbers_again [] fits = refl
numbers_again (n ∷ ns) fits =
    rw (number_again n (fits 0 0 (omega arith)), numbers_again ns (λ k d l. fits (suc k) d (omega arith))) refl

decimal_words : (ns : List ℕ) → All (λ n. n < 2 ^ 64) ns → AllWords (map decimal ns)
unfolding AllWords
decimal_words [] fits = tt
decimal_words (n ∷ ns) fits =
    (word_decimal n (fits 0 0 (omega arith)), decimal_words ns (λ k d l. fits (suc k) d (omega arith)))

spaced_numbers : (ns : List ℕ) → numbers_text ns ≡ spaced (map decimal ns)
spaced_numbers [] = refl
spaced_numbers (n ∷ ns) = ap (λ (t : List ℕ). 32 ∷ (decimal n ++ t)) (spaced_numbers ns)

with_first : (n : ℕ) (ns : List ℕ) → n < 2 ^ 64 → All (λ m. m < 2 ^ 64) ns → All (λ m. m < 2 ^ 64) (n ∷ ns)
with_first n ns one all zero d l = one
with_first n ns one all (suc k) d l = all k d (omega arith)

-- ---- walks

-- the line of a length and a walk, by a word
abbrev line_text : List ℕ → ℕ → List ℕ → List ℕ
line_text word size walk = word ++ 32 ∷ (decimal size ++ (numbers_text walk ++ 10 ∷ []))

module _ (word : List ℕ) (is_word : IsWord word) where
  -- the words of the line
  line_is : (size : ℕ) (walk rest : List ℕ) →
      line_text word size walk ++ rest ≡ line_of word (map decimal (size ∷ walk)) ++ 10 ∷ rest
  line_is size walk rest =
      append_assoc word (32 ∷ (decimal size ++ (numbers_text walk ++ 10 ∷ []))) rest
      ∙ ap (λ (t : List ℕ). word ++ 32 ∷ t) (append_assoc (decimal size) (numbers_text walk ++ 10 ∷ []) rest)
      ∙ ap (λ (t : List ℕ). word ++ 32 ∷ (decimal size ++ t)) (append_assoc (numbers_text walk) (10 ∷ []) rest)
      ∙ ap (λ (t : List ℕ). word ++ 32 ∷ (decimal size ++ (t ++ 10 ∷ rest))) (spaced_numbers walk)
      ∙ ap (λ (t : List ℕ). word ++ 32 ∷ t) (sym (append_assoc (decimal size) (spaced (map decimal walk)) (10 ∷ rest)))
      ∙ sym (append_assoc word (spaced (map decimal (size ∷ walk))) (10 ∷ rest))

  -- a line in front of others is read as its length and walk
  walk_again : (size : ℕ) (walk : List ℕ) → IsWritable size walk → (n : ℕ) (rest : List ℕ) →
      map walk_on (lines_from n (line_text word size walk ++ rest)) ≡ (size, walk) ∷ map walk_on (lines_from (n + 1) rest)
  walk_again size walk fits n rest =
      let all = with_first size walk fits.short_size fits.short_vertices in
      let words = decimal_words (size ∷ walk) all in
      let tokens = kept_is word (map decimal (size ∷ walk)) is_word words in
      let numbers = numbers_again (size ∷ walk) all in
      ap (λ (t : List ℕ). map walk_on (lines_from n t)) (line_is size walk rest)
      ∙ ap (λ (lines : List TextLine). map walk_on lines) (line_first word (map decimal (size ∷ walk)) is_word words n rest)
      ∙ ap (λ (ts : List (List ℕ)). sized_walk (map number_in (drop 1 ts)) ∷ map walk_on (lines_from (n + 1) rest)) tokens
      ∙ ap (λ (ns : List ℕ). sized_walk ns ∷ map walk_on (lines_from (n + 1) rest)) numbers

  walks_again : (walks : List Loop) → All (λ w. IsWritable w.size w.walk) walks → (n : ℕ) →
      map walk_on (lines_from n (flat_map (λ w. line_text word w.size w.walk) walks)) ≡ map (λ w. (w.size, w.walk)) walks
  walks_again [] fits n = refl
  walks_again (w ∷ walks) fits n =
      walk_again w.size w.walk (fits 0 w (omega arith)) n (flat_map (λ w. line_text word w.size w.walk) walks)
      ∙ ap (λ (read : List (ℕ × List ℕ)). (w.size, w.walk) ∷ read)
      (walks_again walks (λ k d l. fits (suc k) d (omega arith)) (n + 1))

  -- a line in front of others, as what is kept of it
  line_kept : (size : ℕ) (walk : List ℕ) → IsWritable size walk → (n : ℕ) (rest : List ℕ) →
      (kept : TextLine) × (lines_from n (line_text word size walk ++ rest) ≡ kept ∷ lines_from (n + 1) rest)
  line_kept size walk fits n rest =
      let words = decimal_words (size ∷ walk) (with_first size walk fits.short_size fits.short_vertices) in (
        record { number = n; bytes = trimmed (uncommented (line_of word (map decimal (size ∷ walk)))) },
        ap (λ (t : List ℕ). lines_from n t) (line_is size walk rest)
            ∙ line_first word (map decimal (size ∷ walk)) is_word words n rest,
      )

-- the lines of a count and a total in front of others are left out
module _ (word : List ℕ) (is_word : IsWord word) where
  heads_left_out : (count total : ℕ) → count < 2 ^ 64 → total < 2 ^ 64 → (rest : List ℕ) →
      drop 2 (lines_from 1 ((line_text word count [] ++ line_text (codes "total") total []) ++ rest)) ≡ lines_from 3 rest
  heads_left_out count total few small rest =
      let total_word : IsWord (codes "total") = record { some = refl; dark = refl; one_line = refl; uncommented = refl } in
      let none : All (λ v. v < 2 ^ 64) [] = λ k d l. absurd (omega (arith, l)) in
      let (first, is_first) = line_kept word is_word count [] (record { short_size = few; short_vertices = none }) 1
      (line_text (codes "total") total [] ++ rest) in
      let (second, is_second) = line_kept (codes "total") total_word total [] (record { short_size = small; short_vertices = none }) 2 rest in
      ap (λ (t : List ℕ). drop 2 (lines_from 1 t)) (append_assoc (line_text word count []) (line_text (codes "total") total []) rest)
      ∙ ap (λ (lines : List TextLine). drop 2 lines) (is_first ∙ ap (λ (lines : List TextLine). first ∷ lines) is_second)

  -- the text of walks, by the words of its lines
  text_again : (one : List ℕ) → IsWord one → (walks : List Loop) → AreWritable walks →
      walks_in 2 ((line_text word (length walks) [] ++ line_text (codes "total") (sum (map (λ w. w.size) walks)) [])
      ++ flat_map (λ w. line_text one w.size w.walk) walks)
      ≡ map (λ w. (w.size, w.walk)) walks
  text_again one is_one walks fits =
      ap (λ (lines : List TextLine). map walk_on lines)
      (heads_left_out (length walks) (sum (map (λ w. w.size) walks)) fits.count fits.total (flat_map (λ w. line_text one w.size w.walk) walks))
      ∙ walks_again one is_one walks fits.each 3

-- lines of one word, however they are written
lines_are : (one : ℕ → List ℕ → List ℕ) (word : List ℕ) → ((size : ℕ) (walk : List ℕ) → one size walk ≡ line_text word size walk) →
    (walks : List Loop) → flat_map (λ w. one w.size w.walk) walks ≡ flat_map (λ w. line_text word w.size w.walk) walks
lines_are one word same [] = refl
lines_are one word same (w ∷ walks) =
    ap (λ (t : List ℕ). t ++ flat_map (λ w. one w.size w.walk) walks) (same w.size w.walk)
    ∙ ap (λ (t : List ℕ). line_text word w.size w.walk ++ t) (lines_are one word same walks)

loop_line : (size : ℕ) (walk : List ℕ) → measured_line "loop " size walk ≡ line_text (codes "loop") size walk
loop_line size walk = simp (append_assoc, append-nil)

cycle_line : (size : ℕ) (walk : List ℕ) → measured_line "cycle " size walk ≡ line_text (codes "cycle") size walk
cycle_line size walk = simp (append_assoc, append-nil)

shortest_line : (size : ℕ) (walk : List ℕ) → measured_line "shortest " size walk ≡ line_text (codes "shortest") size walk
shortest_line size walk = simp (append_assoc, append-nil)

loops_head : (count total : ℕ) → total_lines "loops " count total ≡ line_text (codes "loops") count [] ++ line_text (codes "total") total []
loops_head count total = simp (append_assoc, append-nil)

cycles_head : (count total : ℕ) → total_lines "cycles " count total ≡ line_text (codes "cycles") count [] ++ line_text (codes "total") total []
cycles_head count total = simp (append_assoc, append-nil)

pub walks_are_reread : WalksAreReread
walks_are_reread walks fits =
    let loops : IsWord (codes "loops") = record { some = refl; dark = refl; one_line = refl; uncommented = refl } in
    let loop : IsWord (codes "loop") = record { some = refl; dark = refl; one_line = refl; uncommented = refl } in
    let cycles : IsWord (codes "cycles") = record { some = refl; dark = refl; one_line = refl; uncommented = refl } in
    let cycle : IsWord (codes "cycle") = record { some = refl; dark = refl; one_line = refl; uncommented = refl } in
    let count = length walks in
    let total = sum (map (λ w. w.size) walks) in (
      ap (λ (t : List ℕ). walks_in 2 (t ++ flat_map (λ w. measured_line "loop " w.size w.walk) walks)) (loops_head count total)
          ∙ ap (λ (t : List ℕ). walks_in 2 ((line_text (codes "loops") count [] ++ line_text (codes "total") total []) ++ t))
          (lines_are (measured_line "loop ") (codes "loop") loop_line walks)
          ∙ text_again (codes "loops") loops (codes "loop") loop walks fits,
      ap (λ (t : List ℕ). walks_in 2 (t ++ flat_map (λ w. measured_line "cycle " w.size w.walk) walks)) (cycles_head count total)
          ∙ ap (λ (t : List ℕ). walks_in 2 ((line_text (codes "cycles") count [] ++ line_text (codes "total") total []) ++ t))
          (lines_are (measured_line "cycle ") (codes "cycle") cycle_line walks)
          ∙ text_again (codes "cycles") cycles (codes "cycle") cycle walks fits,
    )

one_again : (word : List ℕ) → IsWord word → (size : ℕ) (walk : List ℕ) → IsWritable size walk →
    walks_in 0 (line_text word size walk) ≡ (size, walk) ∷ []
one_again word is_word size walk fits =
    ap (λ (t : List ℕ). map walk_on (lines_from 1 t)) (sym (append-nil (line_text word size walk)))
    ∙ walk_again word is_word size walk fits 1 []

pub one_walk_is_reread : OneWalkIsReread
one_walk_is_reread size walk fits = (
  ap (walks_in 0) (cycle_line size walk)
      ∙ one_again (codes "cycle") (record { some = refl; dark = refl; one_line = refl; uncommented = refl }) size walk fits,
  ap (walks_in 0) (shortest_line size walk)
      ∙ one_again (codes "shortest") (record { some = refl; dark = refl; one_line = refl; uncommented = refl }) size walk fits,
)

-- ---- distances

no_dash : (n : ℕ) → n < 2 ^ 64 → bytes_eq (decimal n) (codes "-") ≡ false
no_dash n fits = elim (cases_Bool (bytes_eq (decimal n) (codes "-"))) [
  | inl same ↦
      let is : decimal n ≡ codes "-" = (bytes_eq-Decides (decimal n) (codes "-")).0 same in
      let bad : ◌≡◌ {A = Option ℕ} None (Some n) = ap whole (sym is) ∙ whole_decimal n fits in
      absurd cc
  | inr other ↦ other
]

abbrev IsShort : Option ℕ → Type 0
IsShort None = Unit {0}
IsShort (Some u) = u < 2 ^ 64

parent_word : (p : Option ℕ) → IsShort p → IsWord (parent_text p)
parent_word None fits = record { some = refl; dark = refl; one_line = refl; uncommented = refl }
parent_word (Some u) fits = word_decimal u fits

parent_again : (p : Option ℕ) → IsShort p → parent_on (parent_text p) ≡ p
parent_again None fits = refl
parent_again (Some u) fits = rw (no_dash u fits, number_again u fits) refl

vertex_is : (v d : ℕ) (p : Option ℕ) (rest : List ℕ) →
    vertex_line v d p ++ rest ≡ line_of (decimal v) (decimal d ∷ parent_text p ∷ []) ++ 10 ∷ rest
vertex_is v d p rest = simp (append_assoc, append-nil)

distance_again : (v d : ℕ) (p : Option ℕ) → v < 2 ^ 64 → d < 2 ^ 64 → IsShort p → (n : ℕ) (rest : List ℕ) →
    map distance_on (lines_from n (vertex_line v d p ++ rest)) ≡ (v, (d, p)) ∷ map distance_on (lines_from (n + 1) rest)
unfolding AllWords
distance_again v d p short near fits n rest =
    let first = word_decimal v short in
    let others : AllWords (decimal d ∷ parent_text p ∷ []) = (word_decimal d near, (parent_word p fits, tt)) in
    ap (λ (t : List ℕ). map distance_on (lines_from n t)) (vertex_is v d p rest)
    ∙ ap (λ (lines : List TextLine). map distance_on lines) (line_first (decimal v) (decimal d ∷ parent_text p ∷ []) first others n rest)
    ∙ rw (
      kept_is (decimal v) (decimal d ∷ parent_text p ∷ []) first others,
      number_again v short,
      number_again d near,
      parent_again p fits,
    ) refl

parent_short : (tree : Tree) (v : ℕ) → tree.parent v < 2 ^ 64 → IsShort (parent_in tree v)
parent_short tree v fits = elim (cases_eq v tree.root) [
  | inl root ↦ rw (eq-eqb v tree.root root) tt
  | inr other ↦ rw (ne_eqb v tree.root other) fits
]

distances_again : (tree : Tree) (a k : ℕ) → a + k < 2 ^ 64 →
    ((v : ℕ) → v < a + k → (tree.rank v < 2 ^ 64) × (tree.parent v < 2 ^ 64)) → (n : ℕ) →
    map distance_on (lines_from n (flat_map (λ v. vertex_line v (tree.rank v) (parent_in tree v)) (range_with_len a k)))
    ≡ map (λ v. (v, (tree.rank v, parent_in tree v))) (range_with_len a k)
distances_again tree a zero few short n = refl
distances_again tree a (suc k) few short n =
    let here = short a (omega arith) in
    distance_again a (tree.rank a) (parent_in tree a) (omega (arith, few)) here.0 (parent_short tree a here.1) n
    (flat_map (λ v. vertex_line v (tree.rank v) (parent_in tree v)) (range_with_len (a + 1) k))
    ∙ ap (λ (read : List (ℕ × (ℕ × Option ℕ))). (a, (tree.rank a, parent_in tree a)) ∷ read)
    (distances_again tree (a + 1) k (omega (arith, few)) (λ v l. short v (omega (arith, l))) (n + 1))

pub distances_are_reread : DistancesAreReread
distances_are_reread vertices tree few short =
    distances_again tree 0 vertices (omega (arith, few)) (λ v l. short v (omega (arith, l))) 1
