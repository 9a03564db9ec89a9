-- The text of evidence: one line `null n f0 f1 ..` with n faces, or `odd n u v u v ..` with n edges.
use Rattle.std.specs.Prelude.{ℕ, ◌*◌, ◌==◌, ◌&&◌, Bool, true, nat_lt, List, [], ◌∷◌, length, codes, Option, Some}
use Rattle.std.specs.Prelude.{None, Result, Ok, Err, if◌then◌else◌}
use Rattle.std.specs.List.{list_all}
use Rattle.std.specs.Str.{bytes_eq}
use Rattle.surf_text.specs.Text.{TextLine, tokens_of, lines_of}
use Rattle.surf_surfaces.specs.Mesh.{pair_lt}
use Rattle.surf_classes.specs.Evidence.{Evidence, null_faces, odd_pairs}
use Rattle.surf_class.specs.Numbers.{numbers_from}
use Rattle.surf_class.specs.declared.numbers.NumberFault.{NumberFault}
use Rattle.surf_class.specs.declared.fault.EvidenceFault.{EvidenceFault}
use Rattle.surf_class.specs.declared.fault.EvidenceFault.TheVariants.{Header, Form, Trailing}

-- each is above the one before it, and the first is above this one
abbrev pub rises_from : {X : Type 0} → (X → X → Bool) → X → List X → Bool
rises_from lt before [] = true
rises_from lt before (x ∷ xs) = lt before x && rises_from lt x xs

-- each is above the one before it
abbrev pub is_rising : {X : Type 0} → (X → X → Bool) → List X → Bool
is_rising lt [] = true
is_rising lt (x ∷ xs) = rises_from lt x xs

-- numbers two by two
abbrev pub two_by_two : List ℕ → List (ℕ × ℕ)
two_by_two [] = []
two_by_two (u ∷ []) = []
two_by_two (u ∷ v ∷ numbers) = (u, v) ∷ two_by_two numbers

-- each pair has its lesser number first
abbrev pub is_ordered : List (ℕ × ℕ) → Bool
is_ordered pairs = list_all (λ p. nat_lt p.0 p.1) pairs

-- so many faces, increasing
abbrev pub face_numbers : ℕ → List ℕ → Option Evidence
face_numbers n faces = if (length faces == n) && is_rising nat_lt faces then Some (null_faces faces) else None

abbrev pub pair_list : List (ℕ × ℕ) → Option Evidence
pair_list pairs = if is_ordered pairs && is_rising pair_lt pairs then Some (odd_pairs pairs) else None

-- so many edges, increasing, each by its lesser end and its greater
abbrev pub pair_numbers : ℕ → List ℕ → Option Evidence
pair_numbers n ends = if length ends == 2 * n then pair_list (two_by_two ends) else None

-- how many there are, and they
abbrev pub counted : (ℕ → List ℕ → Option Evidence) → Result (List ℕ) NumberFault → Option Evidence
counted listed (Ok (n ∷ numbers)) = listed n numbers
counted listed _ = None

abbrev pub if_formed : ℕ → Option Evidence → Result Evidence EvidenceFault
if_formed line None = Err (Form line)
if_formed line (Some evidence) = Ok evidence

-- what a line says behind its first token, which says the kind
abbrev pub evidence_of : ℕ → List (List ℕ) → Result Evidence EvidenceFault
evidence_of line [] = Err (Header line)
evidence_of line (word ∷ tokens) =
    if bytes_eq word (codes "null") then if_formed line (counted face_numbers (numbers_from 0 tokens))
    else (if bytes_eq word (codes "odd") then if_formed line (counted pair_numbers (numbers_from 0 tokens))
    else Err (Header line))

-- no line stands behind
abbrev pub if_alone : List TextLine → Result Evidence EvidenceFault → Result Evidence EvidenceFault
if_alone lines (Err fault) = Err fault
if_alone [] (Ok evidence) = Ok evidence
if_alone (line ∷ lines) (Ok evidence) = Err (Trailing line.number)

abbrev pub evidence_on : List TextLine → Result Evidence EvidenceFault
evidence_on [] = Err (Header 0)
evidence_on (line ∷ lines) = if_alone lines (evidence_of line.number (tokens_of line.bytes))

-- the evidence that a text gives, or the first fault
abbrev pub evidence_in : List ℕ → Result Evidence EvidenceFault
evidence_in text = evidence_on (lines_of text)
