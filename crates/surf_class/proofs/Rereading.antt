-- What is written of evidence is read as that evidence.
use Rattle.surf_cert.proofs.Common.{◌≡◌, ℕ, zero, suc, ◌<◌, ◌+◌, ◌*◌, ◌^◌, true, nat_lt, ltb, eqb, List, [], ◌∷◌, ◌++◌, length, get_or, map, All, Ok, refl, sym, ap, ◌∙◌, arith, codes, decimal, append_assoc, lt-ltb, eq-eqb, pair_lt, IsWord, word_decimal, IsNumber, IsPair, numbers_text}
use Rattle.surf_class.proofs.Common.{null_faces, odd_pairs, is_rising, is_ordered, two_by_two, face_numbers, pair_numbers, counted, if_formed, evidence_of, if_alone, evidence_on, evidence_in, counted_text, both_ends, FacesFit, PairsFit, EvidenceIsReread}
use Rattle.surf_cert.proofs.LineTexts.{number_again}
use Rattle.surf_cert.proofs.WordLines.{spaced, line_of, AllWords, line_first, kept_is}
use Rattle.surf_class.specs.Numbers.{numbers_from}
use Rattle.surf_class.proofs.Lists.{rising_all}

small : (n : ℕ) → IsNumber n → n < 2 ^ 64
small n fits = omega (arith, fits)

all_words : (ns : List ℕ) → All IsNumber ns → AllWords (map decimal ns)
unfolding AllWords
all_words [] fits = tt
all_words (n ∷ ns) fits =
    (word_decimal n (small n (fits 0 0 (omega arith))), all_words ns (λ k d l. fits (suc k) d (omega arith)))

spaced_is : (ns : List ℕ) → numbers_text ns ≡ spaced (map decimal ns)
spaced_is [] = refl
spaced_is (n ∷ ns) = ap (λ (t : List ℕ). 32 ∷ (decimal n ++ t)) (spaced_is ns)

-- numbers in decimal are read as they are
again : (place : ℕ) (ns : List ℕ) → All IsNumber ns → numbers_from place (map decimal ns) ≡ Ok ns
unfolding numbers_from
again place [] fits = refl
again place (n ∷ ns) fits =
    rw (number_again n (fits 0 0 (omega arith)), again (place + 1) ns (λ k d l. fits (suc k) d (omega arith))) refl

-- the text is one line of words
line_is : (word : List ℕ) (count : ℕ) (ns : List ℕ) →
    counted_text word count ns ≡ line_of word (map decimal (count ∷ ns)) ++ 10 ∷ []
line_is word count ns =
    append_assoc word (32 ∷ decimal count) (numbers_text ns ++ 10 ∷ [])
    ∙ ap (λ (t : List ℕ). word ++ 32 ∷ (decimal count ++ (t ++ 10 ∷ []))) (spaced_is ns)
    ∙ ap (λ (t : List ℕ). word ++ 32 ∷ t) (sym (append_assoc (decimal count) (spaced (map decimal ns)) (10 ∷ [])))
    ∙ sym (append_assoc word (spaced (map decimal (count ∷ ns))) (10 ∷ []))

module _ (word : List ℕ) (count : ℕ) (ns : List ℕ) (is_word : IsWord word) (fits : All IsNumber (count ∷ ns)) where
  tokens : List (List ℕ)
  tokens = map decimal (count ∷ ns)

  -- it has one line
  pub read_line : evidence_in (counted_text word count ns) ≡ if_alone [] (evidence_of 1 (word ∷ map decimal (count ∷ ns)))
  read_line =
      let words = all_words (count ∷ ns) fits in
      let ts = map decimal (count ∷ ns) in
      ap evidence_in (line_is word count ns)
      ∙ ap evidence_on (line_first word ts is_word words 1 [])
      ∙ ap (λ us. if_alone [] (evidence_of 1 us)) (kept_is word ts is_word words)

  pub numbers_read : numbers_from 0 (map decimal (count ∷ ns)) ≡ Ok (count ∷ ns)
  numbers_read = again 0 (count ∷ ns) fits

cons_fits : (n : ℕ) (ns : List ℕ) → IsNumber n → All IsNumber ns → All IsNumber (n ∷ ns)
cons_fits n ns one all zero d l = one
cons_fits n ns one all (suc k) d l = all k d (omega arith)

null_word : IsWord (codes "null")
null_word = record { some = refl; dark = refl; one_line = refl; uncommented = refl }

odd_word : IsWord (codes "odd")
odd_word = record { some = refl; dark = refl; one_line = refl; uncommented = refl }

faces_again : (faces : List ℕ) → FacesFit faces →
    evidence_in (counted_text (codes "null") (length faces) faces) ≡ Ok (null_faces faces)
faces_again faces fits =
    let n = length faces in
    let all = cons_fits n faces fits.count fits.numbers in
    let rises : is_rising nat_lt faces ≡ true =
    rising_all nat_lt faces 0 (λ k l. lt-ltb (get_or faces k 0) (get_or faces (k + 1) 0) (fits.rises k (k + 1) 0 (omega arith) l)) in
    let same : eqb n n ≡ true = eq-eqb n n refl in
    read_line (codes "null") n faces null_word all
    ∙ ap (λ r. if_alone [] (if_formed 1 (counted face_numbers r))) (numbers_read (codes "null") n faces null_word all)
    ∙ rw (same, rises) refl

two_again : (pairs : List (ℕ × ℕ)) → two_by_two (both_ends pairs) ≡ pairs
two_again [] = refl
two_again (p ∷ ps) = ap (λ (qs : List (ℕ × ℕ)). p ∷ qs) (two_again ps)

both_length : (pairs : List (ℕ × ℕ)) → length (both_ends pairs) ≡ 2 * length pairs
both_length [] = refl
both_length (p ∷ ps) = let more = both_length ps in omega (arith, more)

ends_fit : (pairs : List (ℕ × ℕ)) → All IsPair pairs → All IsNumber (both_ends pairs)
ends_fit [] all = λ k d l. absurd (omega arith)
ends_fit (p ∷ ps) all =
    let here : IsPair p = all 0 p (omega arith) in
    let first : IsNumber p.0 = (let less = here.ordered in let number = here.number in omega (arith, less, number)) in
    cons_fits p.0 (p.1 ∷ both_ends ps) first
    (cons_fits p.1 (both_ends ps) here.number (ends_fit ps (λ k d l. all (suc k) d (omega arith))))

ordered_again : (pairs : List (ℕ × ℕ)) → All IsPair pairs → is_ordered pairs ≡ true
ordered_again [] all = refl
ordered_again (p ∷ ps) all =
    let here : ltb p.0 p.1 ≡ true = lt-ltb p.0 p.1 (all 0 p (omega arith)).ordered in
    rw here (ordered_again ps (λ k d l. all (suc k) d (omega arith)))

pairs_again : (pairs : List (ℕ × ℕ)) → PairsFit pairs →
    evidence_in (counted_text (codes "odd") (length pairs) (both_ends pairs)) ≡ Ok (odd_pairs pairs)
pairs_again pairs fits =
    let n = length pairs in
    let ns = both_ends pairs in
    let all = cons_fits n ns fits.count (ends_fit pairs fits.ends) in
    let rises : is_rising pair_lt pairs ≡ true =
    rising_all pair_lt pairs (0, 0) (λ k l. fits.rises k (k + 1) (0, 0) (omega arith) l) in
    let same : eqb (length ns) (2 * n) ≡ true = eq-eqb (length ns) (2 * n) (both_length pairs) in
    read_line (codes "odd") n ns odd_word all
    ∙ ap (λ r. if_alone [] (if_formed 1 (counted pair_numbers r))) (numbers_read (codes "odd") n ns odd_word all)
    ∙ rw (same, two_again pairs, ordered_again pairs fits.ends, rises) refl

pub evidence_again : EvidenceIsReread
evidence_again (null_faces faces) fits = faces_again faces fits
evidence_again (odd_pairs pairs) fits = pairs_again pairs fits
