-- The texts of certificates by sheets, over the list of lines that have a token. A line has exactly the tokens that its
-- form shows. The first line that doesn't fit decides.
use Rattle.std.specs.Prelude.{ℕ, zero, suc, List, [], ◌∷◌, ◌==◌, codes, map, Option, Some, None, Result, Ok, Err}
use Rattle.std.specs.Prelude.{if◌then◌else◌}
use Rattle.surf_base.specs.Gives.{◌>>=◌}
use Rattle.surf_text.specs.Text.{TextLine, tokens_of, lines_of}
use Rattle.surf_sheets.specs.Rows.{SheetRow, SheetCert}
use Rattle.surf_cert.specs.Lines.{counts_of}
use Rattle.surf_cert.specs.Grammar.{Read, next_of, onto_rows, rows_of, cycles_of, ended}
use Rattle.surf_cert.specs.declared.fault.CertText.{CertText}
use Rattle.surf_cert.specs.declared.fault.CertText.TheVariants.{Header, Trailing}
use Rattle.surf_cert.specs.declared.line.Counts.{Counts}
use Rattle.surf_sheetcert.specs.Lines.{is_sheet_header, count_of, Cocycles, cocycles_on, sheet_on}

-- so many edges with the numbers of their cocycles, each edge greater than the one before
unfoldable pub edges_of : ℕ → Option (ℕ × ℕ) → ℕ → List TextLine → Read (List Cocycles)
edges_of k before zero lines = Ok ([], lines)
edges_of k before (suc n) lines =
    next_of (cocycles_on k before) lines >>= λ x. onto_rows x.0 (edges_of k (Some x.0.0) n x.1)

-- a list of edges, and one of the numbers of each
abbrev pub Tables : Type 0
Tables = List (ℕ × ℕ) × List (List ℕ)

-- so many edges apart from their numbers
unfoldable pub tables_of : ℕ → ℕ → List TextLine → Read Tables
tables_of k n lines = edges_of k None n lines >>= λ rows.
    Ok ((map (λ row. row.0) rows.0, map (λ row. row.1) rows.0), rows.1)

-- the line that says how many, and these
unfoldable pub cocycles_of : ℕ → List TextLine → Read Tables
cocycles_of k lines = next_of (count_of (codes "cocycles")) lines >>= λ n. tables_of k n.0 n.1

-- the line that says how many sheets there are, and these
unfoldable pub sheets_of : List TextLine → Read (List SheetRow)
sheets_of lines = next_of (count_of (codes "sheets")) lines >>= λ n. rows_of sheet_on n.0 n.1

-- a certificate of these parts
abbrev pub made_of : Counts → List (List ℕ) → Tables → List SheetRow → SheetCert
made_of counts cycles tables sheets = record {
  vertices = counts.vertices;
  faces = counts.faces;
  cycles = cycles;
  edges = tables.0;
  numbers = tables.1;
  sheets = sheets;
}

-- what stands behind the counts, where there are cycles
unfoldable pub parts_of : Counts → List TextLine → Result SheetCert CertText
parts_of counts lines = do
  cycles ← cycles_of counts.left lines
  tables ← cocycles_of counts.left cycles.1
  sheets ← sheets_of tables.1
  ended Trailing sheets.1 (made_of counts cycles.0 tables.0 sheets.0)

-- what stands behind the counts: nothing where there is no cycle
unfoldable pub behind_counts : Counts → List TextLine → Result SheetCert CertText
behind_counts counts lines =
    if counts.left == 0 then ended Trailing lines (made_of counts [] ([], []) []) else parts_of counts lines

-- a certificate by sheets, behind its first line
unfoldable pub sheets_in : List TextLine → Result SheetCert CertText
sheets_in lines = next_of counts_of lines >>= λ counts. behind_counts counts.0 counts.1

-- the same with its first line
unfoldable pub sheet_cert_in : List TextLine → Result SheetCert CertText
sheet_cert_in [] = Err (Header 0)
sheet_cert_in (line ∷ lines) =
    if is_sheet_header (tokens_of line.bytes) then sheets_in lines else Err (Header line.number)

-- the certificate by sheets that a text is, or its first fault
abbrev pub parsed_sheets : List ℕ → Result SheetCert CertText
parsed_sheets text = sheet_cert_in (lines_of text)
