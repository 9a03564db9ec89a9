-- Each line that is written is read as what it was written of.
use Rattle.surf_cert.proofs.Common.{◌≡◌, ◌<◌, ◌+◌, ◌^◌, ℕ, suc, true, false, List, [], ◌∷◌, ◌++◌, Option, Some, None, Ok, refl, sym, ◌∙◌, ap, append_assoc, append-nil, codes, inl, inr, arith, decimal, map, nat_le, nat_lt, ◌==◌, bytes_eq, cases_Bool, le-leb, lt-ltb, eq-eqb, bytes_eq-Decides, All, option_map_or, whole, IsWord, word_decimal, whole_decimal, lines_from, cert_number, the_word, base_of, base_at, parent_of, tree_row, dual_row, is_next, pair_behind, cycle_of, greatest, IsNumber, IsParent, IsPair, IsFaceRow, CycleFits, next_of, numbers_text, base_line, vertex_line, face_line, pair_line, cycle_line}
use Rattle.std.proofs.lemmas.Fmt.{decimal_digit}
use Rattle.surf_cert.specs.Lines.{numbers_of}
use Rattle.surf_cert.proofs.WordLines.{spaced, line_of, AllWords, line_again}

pub small : (n : ℕ) → IsNumber n → n < 2 ^ 64
small n fits = omega (arith, fits)

-- a number of a text is read
pub number_again : (n : ℕ) → IsNumber n → cert_number (decimal n) ≡ Some n
number_again n fits =
    let low : nat_le n greatest ≡ true = le-leb n greatest fits in
    rw (whole_decimal n (small n fits), low) refl

no_dash : (n : ℕ) → n < 2 ^ 64 → bytes_eq (decimal n) (codes "-") ≡ false
no_dash n lt = elim (cases_Bool (bytes_eq (decimal n) (codes "-"))) [
  | inl same ↦
      let is : decimal n ≡ codes "-" = (bytes_eq-Decides (decimal n) (codes "-")).0 same in
      let bad : ◌≡◌ {A = Option ℕ} None (Some n) = ap whole (sym is) ∙ whole_decimal n lt in
      absurd cc
  | inr other ↦ other
]

pub word : (n : ℕ) → IsNumber n → IsWord (decimal n)
word n fits = word_decimal n (small n fits)

dash : IsWord (codes "-")
dash = record { some = refl; dark = refl; one_line = refl; uncommented = refl }

-- what is read of a line in front of a text
abbrev pub Reads : {A : Type 0} → (List (List ℕ) → Option A) → List ℕ → A → Type 0
Reads form line x = (n : ℕ) (rest : List ℕ) → next_of form (lines_from n (line ++ rest)) ≡ Ok (x, lines_from (n + 1) rest)

-- the same where the line is words
pub reads_words : {A : Type 0} (form : List (List ℕ) → Option A) (line w : List ℕ) (ws : List (List ℕ)) (x : A) → IsWord w
    → AllWords ws → form (w ∷ ws) ≡ Some x → line ≡ line_of w ws ++ 10 ∷ [] → Reads form line x
reads_words form line w ws x first words good is n rest =
    let text : line ++ rest ≡ line_of w ws ++ 10 ∷ rest = ap (λ (l : List ℕ). l ++ rest) is ∙ append_assoc (line_of w ws) (10 ∷ []) rest in
    ap (λ (t : List ℕ). next_of form (lines_from n t)) text ∙ line_again w ws first words form x good n rest

-- a line that is one of the words
pub dual_again : Reads (the_word (codes "dual")) (codes "dual\n") tt
unfolding AllWords
dual_again = reads_words (the_word (codes "dual")) (codes "dual\n") (codes "dual") [] tt (record { some = refl; dark = refl; one_line = refl; uncommented = refl }) tt refl refl

pub left_again : Reads (the_word (codes "left")) (codes "left\n") tt
unfolding AllWords
left_again = reads_words (the_word (codes "left")) (codes "left\n") (codes "left") [] tt (record { some = refl; dark = refl; one_line = refl; uncommented = refl }) tt refl refl

pub cycles_again : Reads (the_word (codes "cycles")) (codes "cycles\n") tt
unfolding AllWords
cycles_again = reads_words (the_word (codes "cycles")) (codes "cycles\n") (codes "cycles") [] tt (record { some = refl; dark = refl; one_line = refl; uncommented = refl }) tt refl refl

pub base_again : (x : ℕ) → IsNumber x → Reads base_of (base_line x) x
unfolding AllWords
base_again x fits = reads_words base_of (base_line x) (codes "tree") (decimal x ∷ []) x (record { some = refl; dark = refl; one_line = refl; uncommented = refl }) (word x fits, tt) (rw (number_again x fits) refl) (rw (append-nil (decimal x)) refl)

pub base_at_again : (x : ℕ) → IsNumber x → Reads (base_at x) (base_line x) x
unfolding AllWords
base_at_again x fits =
    let same : (x == x) ≡ true = eq-eqb x x refl in
    reads_words (base_at x) (base_line x) (codes "tree") (decimal x ∷ []) x (record { some = refl; dark = refl; one_line = refl; uncommented = refl }) (word x fits, tt) (rw (number_again x fits, same) refl) (rw (append-nil (decimal x)) refl)

-- a parent, or `-` for none
abbrev parent_text : Option ℕ → List ℕ
parent_text p = option_map_or decimal p (codes "-")

parent_word : (p : Option ℕ) → IsParent p → IsWord (parent_text p)
parent_word None fits = dash
parent_word (Some u) fits = word u fits

parent_again : (p : Option ℕ) → IsParent p → parent_of (parent_text p) ≡ Some p
parent_again None fits = refl
parent_again (Some u) fits = rw (no_dash u (small u fits), number_again u fits) refl

pub vertex_again : (d : ℕ) (p : Option ℕ) → d < 2 ^ 64 → IsParent p → Reads tree_row (vertex_line (d, p)) (d, p)
unfolding AllWords
vertex_again d p lt fits =
    reads_words tree_row (vertex_line (d, p)) (decimal d) (parent_text p ∷ []) (d, p) (word_decimal d lt) (parent_word p fits, tt)
    (rw (whole_decimal d lt, parent_again p fits) refl) (rw (append-nil (parent_text p)) (sym (append_assoc (decimal d) (32 ∷ parent_text p) (10 ∷ []))))

pub face_again : (row : ℕ × Option (ℕ × ℕ)) → IsFaceRow row → Reads dual_row (face_line row) row
unfolding AllWords
face_again (d, None) fits =
    let zero : decimal d ≡ codes "0" = ap decimal fits ∙ decimal_digit 0 (omega arith) in
    let none : ◌≡◌ {A = ℕ × Option (ℕ × ℕ)} (0, None) (d, None) = ap (λ (n : ℕ). (n, None)) (sym fits) in
    reads_words dual_row (face_line (d, None)) (decimal d) (codes "-" ∷ []) (d, None) (word d (omega (arith, fits))) (dash, tt)
    (rw zero (ap (λ (row : ℕ × Option (ℕ × ℕ)). Some row) none)) (sym (append_assoc (decimal d) (codes " -") (10 ∷ [])))
face_again (d, Some (u, v)) fits =
    let number_u : IsNumber u = omega (arith, fits.2.ordered, fits.2.number) in
    let low : nat_le 1 d ≡ true = le-leb 1 d fits.0 in
    let ordered : nat_lt u v ≡ true = lt-ltb u v fits.2.ordered in
    reads_words dual_row (face_line (d, Some (u, v))) (decimal d) (decimal u ∷ decimal v ∷ []) (d, Some (u, v)) (word d fits.1) (word u number_u, (word v fits.2.number, tt))
    (rw (number_again d fits.1, number_again u number_u, number_again v fits.2.number, low, ordered) refl) (simp (append_assoc, append-nil))

pub pair_again : (before : Option (ℕ × ℕ)) (p : ℕ × ℕ) → IsPair p → is_next before p ≡ true
    → Reads (pair_behind before) (pair_line p) p
unfolding AllWords
pair_again before (u, v) fits next =
    let number_u : IsNumber u = omega (arith, fits.ordered, fits.number) in
    let ordered : nat_lt u v ≡ true = lt-ltb u v fits.ordered in
    reads_words (pair_behind before) (pair_line (u, v)) (decimal u) (decimal v ∷ []) (u, v) (word u number_u) (word v fits.number, tt)
    (rw (number_again u number_u, number_again v fits.number, ordered, next) refl) (simp (append_assoc, append-nil))

pub all_words : (ns : List ℕ) → All IsNumber ns → AllWords (map decimal ns)
unfolding AllWords
all_words [] fits = tt
all_words (n ∷ ns) fits = (word n (fits 0 0 (omega arith)), all_words ns (λ k d lt. fits (suc k) d (omega arith)))

pub all_numbers : (ns : List ℕ) → All IsNumber ns → numbers_of (map decimal ns) ≡ Some ns
unfolding numbers_of
all_numbers [] fits = refl
all_numbers (n ∷ ns) fits = rw (number_again n (fits 0 0 (omega arith)), all_numbers ns (λ k d lt. fits (suc k) d (omega arith))) refl

pub numbers_spaced : (ns : List ℕ) → numbers_text ns ≡ spaced (map decimal ns)
numbers_spaced [] = refl
numbers_spaced (n ∷ ns) = ap (λ (t : List ℕ). 32 ∷ (decimal n ++ t)) (numbers_spaced ns)

pub cycle_again : (ns : List ℕ) → CycleFits ns → Reads cycle_of (cycle_line ns) ns
unfolding AllWords
cycle_again [] fits = absurd (let some = fits.some in omega (arith, some))
cycle_again (n ∷ ns) fits =
    reads_words cycle_of (cycle_line (n ∷ ns)) (decimal n) (map decimal ns) (n ∷ ns) (word n (fits.numbers 0 0 (omega arith))) (all_words ns (λ k d lt. fits.numbers (suc k) d (omega arith)))
    (all_numbers (n ∷ ns) fits.numbers) (rw (numbers_spaced ns) (sym (append_assoc (decimal n) (spaced (map decimal ns)) (10 ∷ []))))
