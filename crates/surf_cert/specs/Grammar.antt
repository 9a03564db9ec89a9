-- The texts of certificates, over the list of lines that have a token. A line has exactly the tokens that its form
-- shows. The first line that doesn't fit decides.
use Rattle.std.specs.Prelude.{◌+◌, ℕ, zero, suc, List, [], ◌∷◌, codes, map, Option, Some, None, Result, Ok, Err}
use Rattle.std.specs.Prelude.{if◌then◌else◌, ok_or}
use Rattle.surf_base.specs.Gives.{◌>>=◌}
use Rattle.surf_text.specs.Text.{TextLine, tokens_of, lines_of}
use Rattle.surf_validity.specs.Rows.{TreeRows, DualRows, LoopCert, BasisCert}
use Rattle.surf_cert.specs.Lines.{the_word, is_header, counts_of, base_of, base_at, tree_row, dual_row, pair_behind}
use Rattle.surf_cert.specs.Lines.{cycle_of}
use Rattle.surf_records.specs.declared.cert.Cert.{Cert}
use Rattle.surf_records.specs.declared.cert.Cert.TheVariants.{Loops, Basis}
use Rattle.surf_cert.specs.declared.fault.CertText.{CertText}
use Rattle.surf_cert.specs.declared.fault.CertText.TheVariants.{Header, Form, Early, Trailing}

-- what the tokens of a line say, where it has a form
abbrev pub LineForm : Type 0 → Type 0
LineForm A = List (List ℕ) → Option A

-- what is read of lines, and the lines behind it
abbrev pub Read : Type 0 → Type 0
Read A = Result (A × List TextLine) CertText

-- the next line, which has a form, and the lines behind it
unfoldable pub next_of : {A : Type 0} → LineForm A → List TextLine → Read A
next_of form [] = Err Early
next_of form (line ∷ lines) = ok_or (form (tokens_of line.bytes)) (Form line.number) >>= λ x. Ok (x, lines)

-- a row in front of those that are read behind it
abbrev pub onto_rows : {A : Type 0} → A → Read (List A) → Read (List A)
onto_rows row (Ok rest) = Ok (row ∷ rest.0, rest.1)
onto_rows row (Err e) = Err e

-- so many lines of one form
unfoldable pub rows_of : {A : Type 0} → LineForm A → ℕ → List TextLine → Read (List A)
rows_of form zero lines = Ok ([], lines)
rows_of form (suc n) lines = next_of form lines >>= λ x. onto_rows x.0 (rows_of form n x.1)

-- so many pairs, each greater than the one before
unfoldable pub pairs_of : Option (ℕ × ℕ) → ℕ → List TextLine → Read (List (ℕ × ℕ))
pairs_of before zero lines = Ok ([], lines)
pairs_of before (suc n) lines = next_of (pair_behind before) lines >>= λ x. onto_rows x.0 (pairs_of (Some x.0) n x.1)

-- the rows of so many vertices, from this base
unfoldable pub tree_of : ℕ → ℕ → List TextLine → Read TreeRows
tree_of base v lines = rows_of tree_row v lines >>= λ rows.
    Ok (record { base = base; distance = map (λ row. row.0) rows.0; parent = map (λ row. row.1) rows.0 }, rows.1)

-- a line with the base, and the rows of so many vertices
unfoldable pub based_tree : LineForm ℕ → ℕ → List TextLine → Read TreeRows
based_tree base v lines = next_of base lines >>= λ x. tree_of x.0 v x.1

-- so many trees of v vertices, the base of the first being this one, and the base of each later one the next vertex
unfoldable pub trees_of : ℕ → ℕ → ℕ → List TextLine → Read (List TreeRows)
trees_of base v zero lines = Ok ([], lines)
trees_of base v (suc n) lines = based_tree (base_at base) v lines >>= λ x. onto_rows x.0 (trees_of (base + 1) v n x.1)

-- the rows of so many faces
unfoldable pub dual_rows_of : ℕ → List TextLine → Read DualRows
dual_rows_of f lines = rows_of dual_row f lines >>= λ rows.
    Ok (record { depth = map (λ row. row.0) rows.0; side = map (λ row. row.1) rows.0 }, rows.1)

-- the same behind their word
unfoldable pub dual_of : ℕ → List TextLine → Read DualRows
dual_of f lines = next_of (the_word (codes "dual")) lines >>= λ word. dual_rows_of f word.1

-- so many left edges
unfoldable pub left_of : ℕ → List TextLine → Read (List (ℕ × ℕ))
left_of k lines = next_of (the_word (codes "left")) lines >>= λ word. pairs_of None k word.1

-- so many cycles
unfoldable pub cycles_of : ℕ → List TextLine → Read (List (List ℕ))
cycles_of k lines = next_of (the_word (codes "cycles")) lines >>= λ word. rows_of cycle_of k word.1

-- Where no line stands behind, this is what was read. Else it is a fault, at the first line there.
abbrev pub ended : {A F : Type 0} → (ℕ → F) → List TextLine → A → Result A F
ended fault [] x = Ok x
ended fault (line ∷ lines) x = Err (fault line.number)

-- a loop certificate, behind its first line
unfoldable pub loops_in : List TextLine → Result LoopCert CertText
loops_in lines = do
  counts ← next_of counts_of lines
  tree ← based_tree base_of counts.0.vertices counts.1
  dual ← dual_of counts.0.faces tree.1
  left ← left_of counts.0.left dual.1
  ended Trailing left.1 (record { tree = tree.0; dual = dual.0; left = left.0 })

-- a basis certificate, behind its first line
unfoldable pub basis_in : List TextLine → Result BasisCert CertText
basis_in lines = do
  counts ← next_of counts_of lines
  trees ← trees_of 0 counts.0.vertices counts.0.vertices counts.1
  dual ← dual_of counts.0.faces trees.1
  left ← left_of counts.0.left dual.1
  cycles ← cycles_of counts.0.left left.1
  ended Trailing cycles.1 (record { trees = trees.0; dual = dual.0; left = left.0; cycles = cycles.0 })

-- The first line says of which kind a certificate is.
unfoldable pub cert_in : List TextLine → Result Cert CertText
cert_in [] = Err (Header 0)
cert_in (line ∷ lines) =
    if is_header (codes "loops") (tokens_of line.bytes) then (loops_in lines >>= λ cert. Ok (Loops cert))
    else (if is_header (codes "basis") (tokens_of line.bytes) then (basis_in lines >>= λ cert. Ok (Basis cert))
    else Err (Header line.number))

-- the certificate that a text is, or its first fault
abbrev pub parsed_cert : List ℕ → Result Cert CertText
parsed_cert text = cert_in (lines_of text)
