-- The texts of certificates by sheets.
use Rattle.std.specs.Prelude.{◌≡◌, ℕ, List, [], ◌++◌, ◌==◌, length, flat_map, codes, decimal, Ok}
use Rattle.std.specs.Prelude.{if◌then◌else◌}
use Rattle.std.specs.List.{zip}
use Rattle.surf_text.specs.Numbers.{numbers_text}
use Rattle.surf_sheets.specs.Rows.{SheetRow, SheetCert}
use Rattle.surf_cert.specs.Written.{cycles_text}
use Rattle.surf_sheetcert.specs.Lines.{Cocycles}
use Rattle.surf_sheetcert.specs.Grammar.{parsed_sheets}

-- the first line, and the counts of vertices, faces and cycles
abbrev pub sheet_head_text : ℕ → ℕ → ℕ → List ℕ
sheet_head_text v f k =
    codes "SURFCERT 2 basis\ncounts " ++ (decimal v ++ (codes " " ++ (decimal f ++ (codes " " ++ (decimal k ++ codes "\n")))))

-- an edge and the numbers of its cocycles
abbrev pub cocycles_line : Cocycles → List ℕ
cocycles_line row =
    decimal row.0.0 ++ (codes " " ++ (decimal row.0.1 ++ (numbers_text row.1 ++ codes "\n")))

-- how many edges there are, and these
abbrev pub cocycles_text : List Cocycles → List ℕ
cocycles_text rows =
    (codes "cocycles " ++ (decimal (length rows) ++ codes "\n")) ++ flat_map cocycles_line rows

abbrev pub sheet_line : SheetRow → List ℕ
sheet_line row =
    decimal row.from ++ (codes " " ++ (decimal row.to ++ (codes " " ++ (decimal row.walk
    ++ (codes " " ++ (decimal row.first ++ (codes " " ++ (decimal row.last ++ (codes " " ++ (decimal row.margin
    ++ codes "\n"))))))))))

-- how many sheets there are, and these
abbrev pub sheets_text : List SheetRow → List ℕ
sheets_text sheets = (codes "sheets " ++ (decimal (length sheets) ++ codes "\n")) ++ flat_map sheet_line sheets

-- what stands behind the counts, where there are cycles
abbrev pub parts_text : SheetCert → List ℕ
parts_text cert =
    cycles_text cert.cycles ++ (cocycles_text (zip cert.edges cert.numbers) ++ sheets_text cert.sheets)

-- what stands behind the counts: nothing where there is no cycle
abbrev pub behind_text : SheetCert → List ℕ
behind_text cert = if length cert.cycles == 0 then [] else parts_text cert

-- the text of a certificate by sheets
abbrev pub sheet_cert_text : SheetCert → List ℕ
sheet_cert_text cert = sheet_head_text cert.vertices cert.faces (length cert.cycles) ++ behind_text cert

-- The text is read as the certificate that it was written of.
abbrev pub RereadsSheets : SheetCert → Type 0
RereadsSheets cert = parsed_sheets (sheet_cert_text cert) ≡ Ok cert
