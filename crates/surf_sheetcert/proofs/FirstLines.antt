-- Certificates by trees and by sheets differ in their first line.
use Rattle.surf_cert.proofs.Common.{◌≡◌, ℕ, Bool, true, false, ◌&&◌, List, [], ◌∷◌, Result, Ok, Err, refl, sym, ◌∙◌, ap, codes, inl, inr, cases_Bool, true≢false, bytes_eq, bytes_eq-Decides, TextLine, lines_of, tokens_of, CertFits, ◌>>=◌, is_header, parsed_cert}
use Rattle.std.specs.Cmp.Lexicographic.{pointwise}
use Rattle.surf_cert.specs.declared.fault.CertText.{CertText}
use Rattle.surf_records.specs.declared.cert.Cert.{Cert}
use Rattle.surf_cert.specs.Grammar.{cert_in}
use Rattle.surf_cert.proofs.ReadParts.{given_fits as trees_given_fit}
use Rattle.surf_sheetcert.specs.Lines.{is_sheet_header}
use Rattle.surf_sheetcert.specs.Grammar.{parsed_sheets}
use Rattle.surf_sheetcert.specs.Kinds.{begins_sheets, parsed_any}
use Rattle.surf_sheetcert.specs.declared.kinds.AnyCert.TheVariants.{Trees, Sheets}

first_of : (p q : Bool) → (p && q) ≡ true → (p ≡ true) × (q ≡ true)
first_of true true e = (refl, refl)
first_of true false e = absurd cc
first_of false q e = absurd cc

none_of : (p q : Bool) → q ≡ false → (p && q) ≡ false
none_of true q e = e
none_of false q e = refl

-- a line of the second version is none of the first
other_version : (word : List ℕ) (tokens : List (List ℕ)) → is_sheet_header tokens ≡ true → is_header word tokens ≡ false
other_version word [] e = absurd cc
other_version word (a ∷ []) e = absurd (true≢false (sym e ∙ none_of (bytes_eq a (codes "SURFCERT")) false refl))
other_version word (a ∷ b ∷ ts) e =
    let second = first_of (bytes_eq a (codes "SURFCERT")) _ e in
    let two : bytes_eq b (codes "2") ≡ true = (first_of (bytes_eq b (codes "2")) _ second.1).0 in
    let is : b ≡ codes "2" = (bytes_eq-Decides b (codes "2")).0 two in
    none_of (bytes_eq a (codes "SURFCERT")) _ (ap (λ (t : List ℕ). bytes_eq t (codes "1") && pointwise bytes_eq ts (word ∷ [])) is)

is_ok : {A : Type 0} → Result A CertText → Bool
is_ok (Ok x) = true
is_ok (Err e) = false

no_trees : (line : TextLine) (lines : List TextLine) (cert : Cert) → is_sheet_header (tokens_of line.bytes) ≡ true →
    cert_in (line ∷ lines) ≡ Ok cert → ⊥
unfolding cert_in is_ok
no_trees line lines cert sheets is =
    let first = other_version (codes "loops") (tokens_of line.bytes) sheets in
    let second = other_version (codes "basis") (tokens_of line.bytes) sheets in
    let one : is_ok (cert_in (line ∷ lines)) ≡ false = rw (first, second) refl in
    true≢false (sym (ap is_ok is) ∙ one)

trees_begun : (lines : List TextLine) (cert : Cert) → cert_in lines ≡ Ok cert → begins_sheets lines ≡ false
trees_begun [] cert is = refl
trees_begun (line ∷ lines) cert is = elim (cases_Bool (is_sheet_header (tokens_of line.bytes))) [
  | inl sheets ↦ absurd (no_trees line lines cert sheets is)
  | inr other ↦ other
]

-- what is read as a certificate by trees is one
pub trees_again : (text : List ℕ) (cert : Cert) → parsed_cert text ≡ Ok cert → parsed_any text ≡ Ok (Trees cert)
trees_again text cert is = rw (trees_begun (lines_of text) cert is, is) refl

-- and what is read as one by sheets
pub sheets_begun : (text : List ℕ) → begins_sheets (lines_of text) ≡ true →
    parsed_any text ≡ (parsed_sheets text >>= λ cert. Ok (Sheets cert))
sheets_begun text begun = rw begun refl

pub trees_are_begun : (text : List ℕ) → begins_sheets (lines_of text) ≡ false →
    parsed_any text ≡ (parsed_cert text >>= λ cert. Ok (Trees cert))
trees_are_begun text begun = rw begun refl

-- What a call gave that reads a certificate by trees fits.
pub trees_fit : (cert : Cert) (text : List ℕ) → parsed_cert text ≡ Ok cert → CertFits cert
trees_fit cert text is = trees_given_fit (Ok cert) text is
