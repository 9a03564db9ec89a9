-- A certificate by sheets that was read fits the lines of a text.
use Rattle.surf_cert.proofs.Common.{◌≡◌, ◌≢◌, ◌<◌, ◌≤◌, ◌^◌, ℕ, zero, suc, Bool, true, false, ◌&&◌, nat_lt, List, [], ◌∷◌, length, Option, Some, None, Result, Ok, Err, refl, sym, ◌∙◌, ap, subst, codes, inl, inr, arith, map, IfOk, IfSome, cases_Bool, cases_eq, eq-eqb, ne_eqb, ltb-true, length-map, pair_lt, All-nil, All-cons, All, AllPairs, TextLine, tokens_of, lines_of, bytes_eq, counts_of, is_next, cert_number, whole, IsNumber, IsPair, LeftFits, CycleFits, Gives, ◌>>=◌, onto_rows, next_of}
use Rattle.std.specs.Prelude.{option_and_then}
use Rattle.surf_text.specs.Text.{is_nonempty}
use Rattle.surf_cert.specs.Lines.{numbers_of}
use Rattle.surf_cert.specs.declared.fault.CertText.{CertText}
use Rattle.surf_cert.specs.declared.fault.CertText.TheVariants.{Memory}
use Rattle.surf_cert.specs.declared.line.Counts.{Counts}
use Rattle.surf_sheets.specs.Rows.{SheetRow, SheetCert}
use Rattle.surf_sheetcheck.specs.Fits.{NumbersFit, SheetFits, SheetCertFits}
use Rattle.surf_cert.specs.Grammar.{rows_of, cycles_of}
use Rattle.surf_cert.proofs.Reread.{Follow}
use Rattle.surf_cert.proofs.ReadLines.{all_fit, number_fits, whole_fits, AreCounts, counts_fit}
use Rattle.surf_cert.proofs.ReadParts.{bind_fits, next_fits, AreRows, rows_fit, rise, cycles_fit, ended_fits}
use Rattle.surf_sheetcert.specs.Lines.{count_of, rises, Cocycles, cocycles_among, cocycles_on, six_numbers, sheet_on, is_sheet_header}
use Rattle.surf_sheetcert.specs.Grammar.{Tables, edges_of, tables_of, cocycles_of, sheets_of, made_of, parts_of, behind_counts, sheets_in, sheet_cert_in, parsed_sheets}
use Rattle.surf_sheetcert.proofs.Rising.{rising_is}
use Rattle.surf_sheetcert.proofs.LineTexts.{EdgeFits}

-- lines

count_fits : (word : List ℕ) (tokens : List (List ℕ)) → IfSome (count_of word tokens) IsNumber
count_fits word [] = tt
count_fits word (w ∷ []) = tt
count_fits word (w ∷ n ∷ []) = elim (cases_Bool (bytes_eq w word)) [ inl is ↦ rw is (number_fits n) | inr other ↦ rw other tt ]
count_fits word (w ∷ n ∷ t ∷ ts) = tt

all_four : (p q r s : Bool) → (p && q && r && s) ≡ true → (p ≡ true) × (q ≡ true) × (r ≡ true) × (s ≡ true)
all_four true true true true e = (refl, refl, refl, refl)
all_four true true true false e = absurd cc
all_four true true false s e = absurd cc
all_four true false r s e = absurd cc
all_four false q r s e = absurd cc

nonempty_is : (row : List ℕ) → is_nonempty row ≡ true → 1 ≤ length row
nonempty_is [] e = absurd cc
nonempty_is (i ∷ is) e = omega arith

-- what is read of a line behind an edge
pub record IsEdgeRead (k : ℕ) (before : Option (ℕ × ℕ)) (row : Cocycles) : Type 0 where
  pub fits : EdgeFits k row
  pub next : is_next before row.0 ≡ true

among_fits : (k : ℕ) (before : Option (ℕ × ℕ)) (ns : List ℕ) → All IsNumber ns → IfSome (cocycles_among k before ns) (IsEdgeRead k before)
among_fits k before [] all = tt
among_fits k before (u ∷ []) all = tt
among_fits k before (u ∷ v ∷ row) all =
    elim (cases_Bool (nat_lt u v && is_next before (u, v) && is_nonempty row && rises 0 k row)) [
      | inl is ↦ rw is (
          let parts = all_four (nat_lt u v) (is_next before (u, v)) (is_nonempty row) (rises 0 k row) is in
          let are = rising_is 0 k row parts.3 in
          record {
            fits = record {
              edge = record { ordered = ltb-true u v parts.0; number = all 1 v (omega arith) };
              numbers = record { some = nonempty_is row parts.2; each = are.each; rises = are.rise };
            };
            next = parts.1;
          }
          )
      | inr other ↦ rw other tt
    ]

edge_fits : (k : ℕ) (before : Option (ℕ × ℕ)) (tokens : List (List ℕ)) → IfSome (cocycles_on k before tokens) (IsEdgeRead k before)
edge_fits k before tokens = at (numbers_of tokens) (all_fit tokens)
  where
    at : (ns : Option (List ℕ)) → IfSome ns (λ ns. (length ns ≡ length tokens) × All IsNumber ns)
        → IfSome (option_and_then (cocycles_among k before) ns) (IsEdgeRead k before)
    at None fits = tt
    at (Some ns) fits = among_fits k before ns fits.1

sheet_fits : (tokens : List (List ℕ)) → IfSome (sheet_on tokens) SheetFits
sheet_fits [] = tt
sheet_fits (f ∷ []) = tt
sheet_fits (f ∷ g ∷ []) = tt
sheet_fits (f ∷ g ∷ w ∷ []) = tt
sheet_fits (f ∷ g ∷ w ∷ a ∷ []) = tt
sheet_fits (f ∷ g ∷ w ∷ a ∷ b ∷ []) = tt
sheet_fits (f ∷ g ∷ w ∷ a ∷ b ∷ m ∷ []) =
    at (cert_number f) (cert_number g) (cert_number w) (cert_number a) (cert_number b) (whole m)
    (number_fits f) (number_fits g) (number_fits w) (number_fits a) (number_fits b) (whole_fits m)
  where
    at : (f g w a b m : Option ℕ) → IfSome f IsNumber → IfSome g IsNumber → IfSome w IsNumber → IfSome a IsNumber
        → IfSome b IsNumber → IfSome m (λ n. n < 2 ^ 64) → IfSome (six_numbers f g w a b m) SheetFits
    at None g w a b m p q r s t u = tt
    at (Some f) None w a b m p q r s t u = tt
    at (Some f) (Some g) None a b m p q r s t u = tt
    at (Some f) (Some g) (Some w) None b m p q r s t u = tt
    at (Some f) (Some g) (Some w) (Some a) None m p q r s t u = tt
    at (Some f) (Some g) (Some w) (Some a) (Some b) None p q r s t u = tt
    at (Some f) (Some g) (Some w) (Some a) (Some b) (Some m) p q r s t u = record { from = p; to = q; walk = r; first = s; last = t; margin = u }
sheet_fits (f ∷ g ∷ w ∷ a ∷ b ∷ m ∷ t ∷ ts) = tt

-- parts

-- the edges in order, each with its numbers
record AreEdges (k : ℕ) (before : Option (ℕ × ℕ)) (n : ℕ) (read : List Cocycles × List TextLine) : Type 0 where
  count : length read.0 ≡ n
  pairs : All IsPair (map (λ row. row.0) read.0)
  numbers : All (NumbersFit k) (map (λ row. row.1) read.0)
  follow : Follow before (map (λ row. row.0) read.0)

edges_fit : (k : ℕ) (before : Option (ℕ × ℕ)) (n : ℕ) (lines : List TextLine) → IfOk (edges_of k before n lines) (AreEdges k before n)
unfolding edges_of
edges_fit k before zero lines = record { count = refl; pairs = All-nil IsPair; numbers = All-nil (NumbersFit k); follow = tt }
edges_fit k before (suc n) lines =
    bind_fits (next_of (cocycles_on k before) lines) (λ x. onto_rows x.0 (edges_of k (Some x.0.0) n x.1)) (λ x. IsEdgeRead k before x.0) (AreEdges k before (suc n))
    (next_fits (cocycles_on k before) (IsEdgeRead k before) (edge_fits k before) lines)
    (λ x good. at x.0 (edges_of k (Some x.0.0) n x.1) good (edges_fit k (Some x.0.0) n x.1))
  where
    at : (row : Cocycles) (read : Result (List Cocycles × List TextLine) CertText) → IsEdgeRead k before row
        → IfOk read (AreEdges k (Some row.0) n) → IfOk (onto_rows row read) (AreEdges k before (suc n))
    at row (Ok rows) good fits = record {
      count = ap suc fits.count;
      pairs = All-cons IsPair row.0 (map (λ row. row.0) rows.0) good.fits.edge fits.pairs;
      numbers = All-cons (NumbersFit k) row.1 (map (λ row. row.1) rows.0) good.fits.numbers fits.numbers;
      follow = (good.next, fits.follow);
    }
    at row (Err e) good fits = tt

-- what a certificate asks of its edges and their numbers
record TablesFit (k : ℕ) (tables : Tables) : Type 0 where
  count : IsNumber (length tables.0)
  edges : LeftFits (length tables.0) tables.0
  as_many : length tables.1 ≡ length tables.0
  numbers : All (NumbersFit k) tables.1

tables_fit : (k n : ℕ) (lines : List TextLine) → IsNumber n → IfOk (tables_of k n lines) (λ x. TablesFit k x.0)
unfolding tables_of
tables_fit k n lines few = at (edges_of k None n lines) (edges_fit k None n lines)
  where
    at : (read : Result (List Cocycles × List TextLine) CertText) → IfOk read (AreEdges k None n)
        → IfOk {T = Tables × List TextLine} (read >>= λ rows. Ok ((map (λ row. row.0) rows.0, map (λ row. row.1) rows.0), rows.1)) (λ x. TablesFit k x.0)
    at (Err e) fits = tt
    at (Ok rows) fits =
        let firsts = length-map rows.0 (λ row. row.0) in
        let seconds = length-map rows.0 (λ row. row.1) in
        record {
          count = omega (arith, firsts, fits.count, few);
          edges = record { count = refl; pairs = fits.pairs; rises = rise None (map (λ row. row.0) rows.0) fits.follow };
          as_many = seconds ∙ sym firsts;
          numbers = fits.numbers;
        }

cocycles_fit : (k : ℕ) (lines : List TextLine) → IfOk (cocycles_of k lines) (λ x. TablesFit k x.0)
unfolding cocycles_of
cocycles_fit k lines =
    bind_fits (next_of (count_of (codes "cocycles")) lines) (λ n. tables_of k n.0 n.1) (λ n. IsNumber n.0) (λ x. TablesFit k x.0)
    (next_fits (count_of (codes "cocycles")) IsNumber (count_fits (codes "cocycles")) lines) (λ n few. tables_fit k n.0 n.1 few)

abbrev SheetsFit : List SheetRow → Type 0
SheetsFit sheets = IsNumber (length sheets) × All SheetFits sheets

sheets_fit : (lines : List TextLine) → IfOk (sheets_of lines) (λ x. SheetsFit x.0)
unfolding sheets_of AreRows
sheets_fit lines =
    bind_fits (next_of (count_of (codes "sheets")) lines) (λ n. rows_of sheet_on n.0 n.1) (λ n. IsNumber n.0) (λ x. SheetsFit x.0)
    (next_fits (count_of (codes "sheets")) IsNumber (count_fits (codes "sheets")) lines)
    (λ n few. at n.0 few (rows_of sheet_on n.0 n.1) (rows_fit sheet_on SheetFits sheet_fits n.0 n.1))
  where
    at : (n : ℕ) → IsNumber n → (read : Result (List SheetRow × List TextLine) CertText) → IfOk read (AreRows SheetFits n) → IfOk read (λ x. SheetsFit x.0)
    at n few (Ok rows) fits = (omega (arith, few, fits.0), fits.1)
    at n few (Err e) fits = tt

-- the whole

made_fits : (counts : Counts) (cycles : List (List ℕ)) (tables : Tables) (sheets : List SheetRow) → AreCounts counts
    → counts.left ≢ 0 → length cycles ≡ counts.left → All CycleFits cycles → TablesFit counts.left tables → SheetsFit sheets
    → SheetCertFits (made_of counts cycles tables sheets)
made_fits counts cycles tables sheets few some many fit t s = record {
  vertices = few.vertices;
  faces = few.faces;
  count = omega (arith, many, few.left);
  cycles = fit;
  edge_count = t.count;
  edges = t.edges;
  as_many = t.as_many;
  numbers = subst (λ k. All (NumbersFit k) tables.1) (sym many) t.numbers;
  sheet_count = s.0;
  sheets = s.1;
  none = λ none. absurd (some (sym many ∙ ap length none));
}

no_pairs : AllPairs (λ p q. pair_lt p q ≡ true) []
no_pairs i j d lt within = absurd (omega (arith, within))

none_fits : (counts : Counts) → AreCounts counts → SheetCertFits (made_of counts [] ([], []) [])
none_fits counts few = record {
  vertices = few.vertices;
  faces = few.faces;
  count = omega arith;
  cycles = All-nil CycleFits;
  edge_count = omega arith;
  edges = record { count = refl; pairs = All-nil IsPair; rises = no_pairs };
  as_many = refl;
  numbers = All-nil (NumbersFit 0);
  sheet_count = omega arith;
  sheets = All-nil SheetFits;
  none = λ none. (refl, refl);
}

parts_fit : (counts : Counts) (lines : List TextLine) → AreCounts counts → counts.left ≢ 0 → IfOk (parts_of counts lines) SheetCertFits
unfolding parts_of
parts_fit counts lines few some =
    bind_fits (cycles_of counts.left lines) _ (λ x. (length x.0 ≡ counts.left) × All CycleFits x.0) SheetCertFits (cycles_fit counts.left lines) (λ cycles c.
    bind_fits (cocycles_of counts.left cycles.1) _ (λ x. TablesFit counts.left x.0) SheetCertFits (cocycles_fit counts.left cycles.1) (λ tables t.
    bind_fits (sheets_of tables.1) _ (λ x. SheetsFit x.0) SheetCertFits (sheets_fit tables.1) (λ sheets s.
    ended_fits (made_of counts cycles.0 tables.0 sheets.0) sheets.1 SheetCertFits (made_fits counts cycles.0 tables.0 sheets.0 few some c.0 c.1 t s))))

behind_fits : (counts : Counts) (lines : List TextLine) → AreCounts counts → IfOk (behind_counts counts lines) SheetCertFits
unfolding behind_counts
behind_fits counts lines few = elim (cases_eq counts.left 0) [
  | inl none ↦ rw (eq-eqb counts.left 0 none) (ended_fits (made_of counts [] ([], []) []) lines SheetCertFits (none_fits counts few))
  | inr some ↦ rw (ne_eqb counts.left 0 some) (parts_fit counts lines few some)
]

in_fits : (lines : List TextLine) → IfOk (sheets_in lines) SheetCertFits
unfolding sheets_in
in_fits lines =
    bind_fits (next_of counts_of lines) _ (λ counts. AreCounts counts.0) SheetCertFits (next_fits counts_of AreCounts counts_fit lines) (λ counts few. behind_fits counts.0 counts.1 few)

cert_fits : (lines : List TextLine) → IfOk (sheet_cert_in lines) SheetCertFits
unfolding sheet_cert_in
cert_fits [] = tt
cert_fits (line ∷ lines) = elim (cases_Bool (is_sheet_header (tokens_of line.bytes))) [
  | inl sheets ↦ rw sheets (in_fits lines)
  | inr other ↦ rw other tt
]

-- What a call gave that reads a text fits, if it is a certificate.
pub given_fits : (result : Result SheetCert CertText) (text : List ℕ) → Gives Memory (λ x. x) result (parsed_sheets text)
    → IfOk result SheetCertFits
given_fits (Ok cert) text gives = subst (λ (read : Result SheetCert CertText). IfOk read SheetCertFits) gives (cert_fits (lines_of text))
given_fits (Err e) text gives = tt
