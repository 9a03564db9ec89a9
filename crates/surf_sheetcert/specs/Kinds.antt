-- Certificates by trees and by sheets, told apart by their first line.
use Rattle.std.specs.Prelude.{ℕ, Bool, false, List, [], ◌∷◌, Result, Ok, if◌then◌else◌}
use Rattle.surf_base.specs.Gives.{◌>>=◌}
use Rattle.surf_text.specs.Text.{TextLine, tokens_of, lines_of}
use Rattle.surf_records.specs.Fits.{CertFits}
use Rattle.surf_cert.specs.Grammar.{parsed_cert}
use Rattle.surf_cert.specs.declared.fault.CertText.{CertText}
use Rattle.surf_sheetcheck.specs.Fits.{SheetCertFits}
use Rattle.surf_sheetcert.specs.Lines.{is_sheet_header}
use Rattle.surf_sheetcert.specs.Grammar.{parsed_sheets}
use Rattle.surf_sheetcert.specs.declared.kinds.AnyCert.{AnyCert}
use Rattle.surf_sheetcert.specs.declared.kinds.AnyCert.TheVariants.{Trees, Sheets}

-- whether the first line is that of a certificate by sheets
abbrev pub begins_sheets : List TextLine → Bool
begins_sheets [] = false
begins_sheets (line ∷ lines) = is_sheet_header (tokens_of line.bytes)

-- the certificate that a text is, or its first fault
abbrev pub parsed_any : List ℕ → Result AnyCert CertText
parsed_any text =
    if begins_sheets (lines_of text) then (parsed_sheets text >>= λ cert. Ok (Sheets cert))
    else (parsed_cert text >>= λ cert. Ok (Trees cert))

-- Its lists fit the lines of a text.
abbrev pub AnyCertFits : AnyCert → Type 0
AnyCertFits (Trees cert) = CertFits cert
AnyCertFits (Sheets cert) = SheetCertFits cert
