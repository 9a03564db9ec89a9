-- What is written of a certificate by sheets that fits is read as that certificate.
use Rattle.surf_cert.proofs.Common.{◌≡◌, ◌+◌, ℕ, zero, suc, true, List, [], ◌∷◌, ◌++◌, length, Option, Some, None, Ok, refl, sym, ◌∙◌, ap, append_assoc, append-nil, codes, arith, decimal, flat_map, inl, inr, cases_eq, eq-eqb, ne_eqb, All, zip, length-zip, firsts-zip, seconds-zip, TextLine, tokens_of, IsWord, word_decimal, lines_from, counts_of, is_next, IsNumber, IsPair, next_of}
use Rattle.surf_cert.specs.declared.line.Counts.{Counts}
use Rattle.surf_sheets.specs.Rows.{SheetCert}
use Rattle.surf_sheetcheck.specs.Fits.{NumbersFit, SheetFits, SheetCertFits}
use Rattle.surf_cert.proofs.WordLines.{line_of, AllWords, line_first, kept_is, line_again}
use Rattle.surf_cert.proofs.LineTexts.{number_again}
use Rattle.surf_cert.proofs.Reread.{ReadsPart, Follow, follow_all, rows_again, cycles_part}
use Rattle.surf_sheetcert.specs.Lines.{Cocycles, sheet_on}
use Rattle.surf_sheetcert.specs.Grammar.{edges_of, tables_of, cocycles_of, sheets_of, made_of, parts_of, behind_counts, sheets_in, sheet_cert_in}
use Rattle.surf_sheetcert.specs.Written.{sheet_head_text, cocycles_line, cocycles_text, sheet_line, sheets_text, parts_text, behind_text, RereadsSheets}
use Rattle.surf_sheetcert.proofs.LineTexts.{cocycles_counted, sheets_counted, EdgeFits, edge_again, sheet_again}

-- edges, each behind the one before
abbrev FollowRows : Option (ℕ × ℕ) → List Cocycles → Type 0
FollowRows before [] = Unit {0}
FollowRows before (row ∷ rows) = (is_next before row.0 ≡ true) × FollowRows (Some row.0) rows

edges_again : (k : ℕ) → IsNumber k → (before : Option (ℕ × ℕ)) (rows : List Cocycles) → All (EdgeFits k) rows → FollowRows before rows
    → ReadsPart (edges_of k before (length rows)) (flat_map cocycles_line rows) rows
unfolding edges_of
edges_again k few before [] good follow n rest = (n, refl)
edges_again k few before (row ∷ rows) good follow n rest =
    let more = edges_again k few (Some row.0) rows (λ j d lt. good (suc j) d (omega arith)) follow.1 (n + 1) rest in
    let text : flat_map cocycles_line (row ∷ rows) ++ rest ≡ cocycles_line row ++ (flat_map cocycles_line rows ++ rest) = append_assoc (cocycles_line row) (flat_map cocycles_line rows) rest in
    let first = edge_again k before row few (good 0 row (omega arith)) follow.0 n (flat_map cocycles_line rows ++ rest) in
    (more.0, rw (text, first, more.1) refl)

follow_rows : (before : Option (ℕ × ℕ)) (ps : List (ℕ × ℕ)) (ns : List (List ℕ)) → Follow before ps → FollowRows before (zip ps ns)
follow_rows before [] ns follow = tt
follow_rows before (p ∷ ps) [] follow = tt
follow_rows before (p ∷ ps) (n ∷ ns) follow = (follow.0, follow_rows (Some p) ps ns follow.1)

all_edges : (k : ℕ) (ps : List (ℕ × ℕ)) (ns : List (List ℕ)) → All IsPair ps → All (NumbersFit k) ns → All (EdgeFits k) (zip ps ns)
all_edges k [] ns pairs fits j d lt = absurd (omega (arith, lt))
all_edges k (p ∷ ps) [] pairs fits j d lt = absurd (omega (arith, lt))
all_edges k (p ∷ ps) (n ∷ ns) pairs fits zero d lt = record { edge = pairs 0 p (omega arith); numbers = fits 0 n (omega arith) }
all_edges k (p ∷ ps) (n ∷ ns) pairs fits (suc j) d lt = all_edges k ps ns (λ j d lt. pairs (suc j) d (omega arith)) (λ j d lt. fits (suc j) d (omega arith)) j d (omega arith)

module _ (cert : SheetCert) (fits : SheetCertFits cert) where
  k : ℕ
  k = length cert.cycles

  rows : List Cocycles
  rows = zip cert.edges cert.numbers

  same : length cert.numbers ≡ length cert.edges
  same = fits.as_many

  count : length rows ≡ length cert.edges
  unfolding rows
  count = omega (arith, length-zip cert.edges cert.numbers, fits.as_many)

  cocycles_part : ReadsPart (cocycles_of k) (cocycles_text rows) (cert.edges, cert.numbers)
  unfolding cocycles_of tables_of k rows
  cocycles_part n rest =
      let lines = flat_map cocycles_line (zip cert.edges cert.numbers) in
      let head = codes "cocycles " ++ (decimal (length (zip cert.edges cert.numbers)) ++ codes "\n") in
      let number : IsNumber (length (zip cert.edges cert.numbers)) = omega (arith, count, fits.edge_count) in
      let read = edges_again (length cert.cycles) fits.count None (zip cert.edges cert.numbers)
      (all_edges (length cert.cycles) cert.edges cert.numbers fits.edges.pairs fits.numbers)
      (follow_rows None cert.edges cert.numbers (follow_all cert.edges fits.edges.rises)) (n + 1) rest in (
        read.0,
        ap (λ (t : List ℕ). cocycles_of (length cert.cycles) (lines_from n t)) (append_assoc head lines rest)
            ∙ rw (
              cocycles_counted (length (zip cert.edges cert.numbers)) number n (lines ++ rest),
              read.1,
              firsts-zip cert.edges cert.numbers same,
              seconds-zip cert.edges cert.numbers same,
            ) refl,
      )

  sheets_part : ReadsPart sheets_of (sheets_text cert.sheets) cert.sheets
  unfolding sheets_of
  sheets_part n rest =
      let lines = flat_map sheet_line cert.sheets in
      let head = codes "sheets " ++ (decimal (length cert.sheets) ++ codes "\n") in
      let read = rows_again sheet_on sheet_line SheetFits sheet_again cert.sheets fits.sheets (n + 1) rest in (
        read.0,
        ap (λ (t : List ℕ). sheets_of (lines_from n t)) (append_assoc head lines rest)
            ∙ rw (sheets_counted (length cert.sheets) fits.sheet_count n (lines ++ rest), read.1) refl,
      )

  counts_are : Counts
  counts_are = record { vertices = cert.vertices; faces = cert.faces; left = length cert.cycles }

  parts_again : (n : ℕ) → parts_of counts_are (lines_from n (parts_text cert)) ≡ Ok cert
  unfolding parts_of counts_are k rows
  parts_again n =
      let cocycles = cocycles_text (zip cert.edges cert.numbers) in
      let sheets = sheets_text cert.sheets in
      let first = cycles_part (length cert.cycles) cert.cycles refl fits.cycles n (cocycles ++ sheets) in
      let second = cocycles_part first.0 sheets in
      let third = sheets_part second.0 [] in
      let last : sheets_of (lines_from second.0 sheets) ≡ Ok (cert.sheets, lines_from third.0 []) =
      ap (λ (t : List ℕ). sheets_of (lines_from second.0 t)) (sym (append-nil sheets)) ∙ third.1 in
      rw (first.1, second.1, last) refl

  none : length cert.cycles ≡ 0 → made_of counts_are [] ([], []) [] ≡ cert
  unfolding counts_are
  none is =
      let no_cycles = empty_is cert.cycles is in
      let others = fits.none no_cycles in
      let no_numbers : cert.numbers ≡ [] = empty_is cert.numbers (omega (arith, fits.as_many, ap length others.0)) in
      λ i. record {
        vertices = cert.vertices;
        faces = cert.faces;
        cycles = sym no_cycles i;
        edges = sym others.0 i;
        numbers = sym no_numbers i;
        sheets = sym others.1 i;
      }
    where
      empty_is : {A : Type 0} (xs : List A) → length xs ≡ 0 → xs ≡ []
      empty_is [] e = refl
      empty_is (x ∷ xs) e = absurd (omega (arith, e))

  behind_again : (n : ℕ) → behind_counts counts_are (lines_from n (behind_text cert)) ≡ Ok cert
  unfolding behind_counts counts_are
  behind_again n = elim (cases_eq (length cert.cycles) 0) [
    | inl empty ↦ rw (eq-eqb (length cert.cycles) 0 empty) (ap (λ (c : SheetCert). Ok c) (none empty))
    | inr other ↦ rw (ne_eqb (length cert.cycles) 0 other) (parts_again n)
  ]

  -- the first two lines
  header : List (List ℕ)
  header = codes "2" ∷ codes "basis" ∷ []

  counts_words : List (List ℕ)
  counts_words = decimal cert.vertices ∷ decimal cert.faces ∷ decimal (length cert.cycles) ∷ []

  two_lines : (rest : List ℕ) → sheet_head_text cert.vertices cert.faces (length cert.cycles) ++ rest
      ≡ line_of (codes "SURFCERT") header ++ 10 ∷ (line_of (codes "counts") counts_words ++ 10 ∷ rest)
  unfolding header counts_words
  two_lines rest = simp (append_assoc, append-nil)

  header_are_words : AllWords header
  unfolding header AllWords
  header_are_words = (record { some = refl; dark = refl; one_line = refl; uncommented = refl }, (record { some = refl; dark = refl; one_line = refl; uncommented = refl }, tt))

  counts_are_words : AllWords counts_words
  unfolding counts_words AllWords
  counts_are_words = (word_decimal cert.vertices (omega (arith, fits.vertices)), (word_decimal cert.faces (omega (arith, fits.faces)), (word_decimal (length cert.cycles) (omega (arith, fits.count)), tt)))

  counts_given : counts_of (codes "counts" ∷ counts_words) ≡ Some counts_are
  unfolding counts_words counts_are
  counts_given = rw (number_again cert.vertices fits.vertices, number_again cert.faces fits.faces, number_again (length cert.cycles) fits.count) refl

  name : IsWord (codes "SURFCERT")
  name = record { some = refl; dark = refl; one_line = refl; uncommented = refl }

  counts_again : (rest : List ℕ) → next_of counts_of (lines_from 2 (line_of (codes "counts") counts_words ++ 10 ∷ rest)) ≡ Ok (counts_are, lines_from 3 rest)
  counts_again rest = line_again (codes "counts") counts_words (record { some = refl; dark = refl; one_line = refl; uncommented = refl }) counts_are_words counts_of counts_are counts_given 2 rest

  -- the first line, and what follows
  in_again : (line : TextLine) (lines : List TextLine) → tokens_of line.bytes ≡ codes "SURFCERT" ∷ codes "2" ∷ codes "basis" ∷ []
      → sheets_in lines ≡ Ok cert → sheet_cert_in (line ∷ lines) ≡ Ok cert
  unfolding sheet_cert_in
  in_again line lines words read = rw (words, read) refl

  behind_first : (lines rest : List TextLine) → next_of counts_of lines ≡ Ok (counts_are, rest) → behind_counts counts_are rest ≡ Ok cert
      → sheets_in lines ≡ Ok cert
  unfolding sheets_in
  behind_first lines rest first behind = rw (first, behind) refl

  -- The text of a certificate by sheets is read as that certificate.
  pub sheets_again : RereadsSheets cert
  unfolding header
  sheets_again =
      let rest = behind_text cert in
      ap (λ (t : List ℕ). sheet_cert_in (lines_from 1 t)) (two_lines rest)
      ∙ ap sheet_cert_in (line_first (codes "SURFCERT") header name header_are_words 1 (line_of (codes "counts") counts_words ++ 10 ∷ rest))
      ∙ in_again _ _ (kept_is (codes "SURFCERT") header name header_are_words) (behind_first _ _ (counts_again rest) (behind_again 3))
