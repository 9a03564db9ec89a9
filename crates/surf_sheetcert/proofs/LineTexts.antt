-- Each line that is written is read as what it was written of.
use Rattle.surf_cert.proofs.Common.{◌≡◌, ℕ, true, List, [], ◌∷◌, ◌++◌, Option, Some, refl, append_assoc, append-nil, codes, arith, decimal, map, nat_lt, lt-ltb, All, All-cons, is_next, IsNumber, IsPair, word_decimal, whole_decimal}
use Rattle.surf_cert.specs.Lines.{numbers_of}
use Rattle.surf_sheets.specs.Rows.{SheetRow}
use Rattle.surf_sheetcheck.specs.Fits.{NumbersFit, SheetFits}
use Rattle.surf_cert.proofs.WordLines.{line_of, AllWords}
use Rattle.surf_cert.proofs.LineTexts.{Reads, word, number_again, reads_words, all_words, all_numbers, numbers_spaced}
use Rattle.surf_sheetcert.specs.Lines.{count_of, rises, Cocycles, cocycles_on, sheet_on}
use Rattle.surf_sheetcert.specs.Written.{cocycles_line, sheet_line}
use Rattle.surf_sheetcert.proofs.Rising.{rising_from}

-- a line of a word and a count
pub cocycles_counted : (n : ℕ) → IsNumber n
    → Reads (count_of (codes "cocycles")) (codes "cocycles " ++ (decimal n ++ codes "\n")) n
unfolding AllWords
cocycles_counted n fits = reads_words (count_of (codes "cocycles")) (codes "cocycles " ++ (decimal n ++ codes "\n")) (codes "cocycles") (decimal n ∷ []) n (record { some = refl; dark = refl; one_line = refl; uncommented = refl }) (word n fits, tt) (rw (number_again n fits) refl) (rw (append-nil (decimal n)) refl)

pub sheets_counted : (n : ℕ) → IsNumber n
    → Reads (count_of (codes "sheets")) (codes "sheets " ++ (decimal n ++ codes "\n")) n
unfolding AllWords
sheets_counted n fits = reads_words (count_of (codes "sheets")) (codes "sheets " ++ (decimal n ++ codes "\n")) (codes "sheets") (decimal n ∷ []) n (record { some = refl; dark = refl; one_line = refl; uncommented = refl }) (word n fits, tt) (rw (number_again n fits) refl) (rw (append-nil (decimal n)) refl)

-- an edge of some cocycles, each with a number up to k
pub record EdgeFits (k : ℕ) (row : Cocycles) : Type 0 where
  pub edge : IsPair row.0
  pub numbers : NumbersFit k row.1

each_number : (k : ℕ) → IsNumber k → (is : List ℕ) → NumbersFit k is → All IsNumber is
each_number k few is fits n d lt = let most = (fits.each n d lt).1 in omega (arith, most, few)

line_is : (u v : ℕ) (is : List ℕ)
    → cocycles_line ((u, v), is) ≡ line_of (decimal u) (decimal v ∷ map decimal is) ++ 10 ∷ []
line_is u v is = rw (numbers_spaced is) (simp append_assoc)

pub edge_again : (k : ℕ) (before : Option (ℕ × ℕ)) (row : Cocycles) → IsNumber k → EdgeFits k row → is_next before row.0 ≡ true
    → Reads (cocycles_on k before) (cocycles_line row) row
unfolding AllWords numbers_of rises
edge_again k before ((u, v), []) few fits next = absurd (let some = fits.numbers.some in omega (arith, some))
edge_again k before ((u, v), i ∷ is) few fits next =
    let number_u : IsNumber u = omega (arith, fits.edge.ordered, fits.edge.number) in
    let each = each_number k few (i ∷ is) fits.numbers in
    let ordered : nat_lt u v ≡ true = lt-ltb u v fits.edge.ordered in
    let rise : rises 0 k (i ∷ is) ≡ true = rising_from 0 k (i ∷ is) (record { each = fits.numbers.each; rise = fits.numbers.rises }) in
    let all : numbers_of (map decimal (u ∷ v ∷ i ∷ is)) ≡ Some (u ∷ v ∷ i ∷ is) =
    all_numbers (u ∷ v ∷ i ∷ is) (All-cons IsNumber u (v ∷ i ∷ is) number_u (All-cons IsNumber v (i ∷ is) fits.edge.number each)) in
    reads_words (cocycles_on k before) (cocycles_line ((u, v), i ∷ is)) (decimal u) (decimal v ∷ map decimal (i ∷ is)) ((u, v), i ∷ is) (word u number_u)
    (word v fits.edge.number, all_words (i ∷ is) each) (rw (all, ordered, next, rise) refl) (line_is u v (i ∷ is))

pub sheet_again : (row : SheetRow) → SheetFits row → Reads sheet_on (sheet_line row) row
unfolding AllWords
sheet_again row fits =
    reads_words sheet_on (sheet_line row) (decimal row.from)
    (decimal row.to ∷ decimal row.walk ∷ decimal row.first ∷ decimal row.last ∷ decimal row.margin ∷ []) row (word row.from fits.from)
    (word row.to fits.to, (word row.walk fits.walk, (word row.first fits.first, (word row.last fits.last, (word_decimal row.margin fits.margin, tt)))))
    (rw (
      number_again row.from fits.from,
      number_again row.to fits.to,
      number_again row.walk fits.walk,
      number_again row.first fits.first,
      number_again row.last fits.last,
      whole_decimal row.margin fits.margin,
    ) refl) (simp (append_assoc, append-nil))
