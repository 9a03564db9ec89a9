-- What `certify` writes passes `check`, what `class` writes is confirmed, and what `cut` writes is sewn.
use Rattle.std.specs.Prelude.{◌≡◌, ℕ, ◌≤◌, List, [], ◌∷◌, length, Some, Ok, codes}
use Rattle.surf_base.specs.Outside.{Files, bytes_of}
use Rattle.surf_class.specs.Texts.{evidence_text}
use Rattle.surf_classes.specs.Evidence.{Evidence}
use Rattle.surf_off.specs.Off.{OffParts, off_of, off_without_limits}
use Rattle.surf_surfaces.specs.Choice.{Loop}
use Rattle.surf_surfaces.specs.Mesh.{Mesh}
use Rattle.surf_texts.specs.MeasuredTexts.{measured_text}
use Rattle.surf_texts.specs.CountLines.{count_line}
use Rattle.surf_texts.specs.EvidenceLines.{right_line}
use Rattle.surf_answers.specs.Commands.{length_file}
use Rattle.surf_run.specs.Leads.{Answer, Leads}
use Rattle.surf_run.specs.Named.{AgreeOn}
use Rattle.surf_texts.specs.Outcome.{Outcome}
use Rattle.surf_answers.specs.Says.{Says}
use Rattle.surf_answers.specs.Summaries.{total_size}

-- `check` of a file answers that its certificate of loops is valid, with the total of the loops that `loops` says.
abbrev pub LoopsPass : Files → List ℕ → List ℕ → List ℕ → List ℕ → Type 0
LoopsPass files mesh lengths base cert =
    (loops : List Loop)
    × ((outcome : Outcome) → Says (measured_text "loops " "loop " loops) outcome →
    Leads (codes "loops" ∷ mesh ∷ lengths ∷ base ∷ []) files outcome)
    × Answer (codes "check" ∷ mesh ∷ lengths ∷ cert ∷ []) files 0 (count_line "valid loops " (total_size loops)) []

-- What `certify` writes at a base passes `check` in a later run, with the total of `loops`.
abbrev pub CertifiedLoopsPass : Type 0
CertifiedLoopsPass =
    (files later : Files) (mesh lengths base cert text : List ℕ) →
    Answer (codes "certify" ∷ mesh ∷ lengths ∷ base ∷ []) files 0 text [] →
    AgreeOn (mesh ∷ length_file lengths) files later → bytes_of later cert ≡ Some text →
    LoopsPass later mesh lengths base cert

-- `check` of a file answers that its certificate of a basis is valid, with the total of the cycles that `basis` says.
abbrev pub BasisPasses : Files → List ℕ → List ℕ → List ℕ → Type 0
BasisPasses files mesh lengths cert =
    (basis : List Loop)
    × ((outcome : Outcome) → Says (measured_text "cycles " "cycle " basis) outcome →
    Leads (codes "basis" ∷ mesh ∷ lengths ∷ []) files outcome)
    × Answer (codes "check" ∷ mesh ∷ lengths ∷ cert ∷ []) files 0 (count_line "valid basis " (total_size basis)) []

-- What `certify` writes of a basis passes `check` in a later run, with the total of `basis`.
abbrev pub CertifiedBasesPass : Type 0
CertifiedBasesPass =
    (files later : Files) (mesh lengths cert text : List ℕ) →
    Answer (codes "certify" ∷ mesh ∷ lengths ∷ []) files 0 text [] →
    AgreeOn (mesh ∷ length_file lengths) files later → bytes_of later cert ≡ Some text →
    BasisPasses later mesh lengths cert

-- What `class` writes is confirmed in a later run.
abbrev pub ClassesAreConfirmed : Type 0
ClassesAreConfirmed =
    (files later : Files) (mesh walk cert text : List ℕ) →
    Answer (codes "class" ∷ mesh ∷ walk ∷ []) files 0 text [] →
    AgreeOn (mesh ∷ walk ∷ []) files later → bytes_of later cert ≡ Some text →
    (evidence : Evidence) × (text ≡ evidence_text (codes "null") (codes "odd") evidence)
    × Answer (codes "confirm" ∷ mesh ∷ walk ∷ cert ∷ []) later 0 (right_line evidence) []

-- The text isn't too long to be read, and has no more vertices than may be read.
pub record CanBeRead (text : List ℕ) : Type 0 where
  pub short : length text ≤ 268435456
  pub few : (read : OffParts × Mesh) → off_without_limits text ≡ Ok read → read.1.vertices ≤ 1000000

-- `sew` of a file answers a text that is read as the file of a mesh is: with its keyword, its vertex lines, its faces
-- and its colours.
pub record IsSewnBack (files : Files) (mesh : List ℕ) (later : Files) (disc : List ℕ) : Type 0 where
  pub bytes : List ℕ
  pub held : bytes_of files mesh ≡ Some bytes
  pub read : OffParts × Mesh
  pub is_read : off_of bytes ≡ Ok read
  pub text : List ℕ
  pub sews : Answer (codes "sew" ∷ disc ∷ []) later 0 text []
  pub reads_so : off_of text ≡ Ok read

-- What `sew` writes, in a later run, of what `cut`, full or trimmed, wrote within the limits of a mesh text is read
-- as the mesh that was cut, with its keyword, vertex lines, faces and colours.
abbrev pub CutsAreSewn : Type 0
CutsAreSewn =
    (files later : Files) (mesh lengths base kind disc text : List ℕ) →
    Answer (codes "cut" ∷ mesh ∷ lengths ∷ base ∷ kind ∷ []) files 0 text [] → bytes_of later disc ≡ Some text →
    CanBeRead text → IsSewnBack files mesh later disc

-- What `sew` writes, in a later run, of what `cut` wrote through the vertices of a file, within the limits of a mesh
-- text, is read as the mesh that was cut, with its keyword, vertex lines, faces and colours.
abbrev pub CutsThroughAreSewn : Type 0
CutsThroughAreSewn =
    (files later : Files) (mesh lengths base kind points disc text : List ℕ) →
    Answer (codes "cut" ∷ mesh ∷ lengths ∷ base ∷ kind ∷ points ∷ []) files 0 text [] →
    bytes_of later disc ≡ Some text → CanBeRead text → IsSewnBack files mesh later disc
