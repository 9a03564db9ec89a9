-- What a run leaves of its sinks.
use Rattle.std.specs.Prelude.{◌≡◌, ◌<◌, ◌≤◌, ◌⊎◌, ℕ, false, List, [], ◌∷◌, ◌++◌, Option, Some, None, codes}
use Rattle.std.specs.List.{list_any}
use Rattle.surf_base.specs.Outside.{Files, HasRisen, GrowsBy}
use Rattle.surf_base.specs.Transfer.{GrowsByShorter}
use Rattle.surf_text.specs.Text.{is_line_end}
use Rattle.surf_texts.specs.Cause.{Cause, line_of, status_of_cause}
use Rattle.surf_run.specs.Leads.{Answer}
use Rattle.surf_words.specs.Words.{Request, help, version, gen_shape, try_shape, request_of}

-- The words are a row of the command table that names a file.
abbrev pub NamesFile : Option Request → Type 0
NamesFile None = ⊥
NamesFile (Some help) = ⊥
NamesFile (Some version) = ⊥
NamesFile (Some (gen_shape shape)) = ⊥
NamesFile (Some (try_shape shape scatter)) = ⊥
NamesFile (Some other) = Unit {0}

-- The shelf tells that it holds these files; or the request names no file, and then these may be any.
abbrev pub AreTheFiles : Option Request → Option Files → Files → Type 0
AreTheFiles request holds files = (holds ≡ Some files) ⊎ (NamesFile request → ⊥)

-- The whole text of an answer with status 0 or 1 was written.
abbrev pub WritesAnswer : List (List ℕ) → ℕ → Option (List ℕ) → Option (List ℕ) → Files → Type 0
WritesAnswer words status old new files = (text : List ℕ) × Answer words files status text [] × GrowsBy old new text

-- A front of the text of an answer, shorter than the text, was written.
abbrev pub WritesFront : List (List ℕ) → Option (List ℕ) → Option (List ℕ) → Files → Type 0
WritesFront words old new files =
    (status : ℕ) × ((text : List ℕ) × (status ≤ 1) × Answer words files status text [] × GrowsByShorter old new text)

-- A line was written whole, or, where the sink's faults rose, a shorter front of it.
abbrev pub PutsLine : Option (List ℕ) → Option (List ℕ) → ℕ → ℕ → List ℕ → Type 0
PutsLine old new faults_old faults_new line =
    GrowsBy old new line ⊎ (HasRisen faults_old faults_new × GrowsByShorter old new line)

-- The status of a refusal that the words and the files decide: from 2 to 8, and from 12 on.
abbrev pub IsDecided : ℕ → Type 0
IsDecided status = (1 < status) × ((status < 9) ⊎ (11 < status))

-- A line feed ends the line, and it has no other.
pub record IsOneLine (line : List ℕ) : Type 0 where
  pub front : List ℕ
  pub is : line ≡ front ++ codes "\n"
  pub no_other : list_any is_line_end front ≡ false

-- The line of a status above 1. Where the words and the files decide, they give it.
pub record IsLineOf (words : List (List ℕ)) (holds : Option Files) (status : ℕ) (line : List ℕ) : Type 0 where
  pub related : IsDecided status → (files : Files) → AreTheFiles (request_of words) holds files →
      Answer words files status [] line
  pub read : status ≡ 9 → line ≡ codes "read fault\n"
  pub write : status ≡ 10 → line ≡ codes "write fault\n"
  pub memory : status ≡ 11 → line ≡ codes "memory\n"
  pub one : IsOneLine line

-- The status and the line of a cause, or those of want of memory.
abbrev pub Refuses : Cause → ℕ → Option (List ℕ) → Option (List ℕ) → ℕ → ℕ → Type 0
Refuses cause status old new faults_old faults_new =
    ((status ≡ status_of_cause cause) × PutsLine old new faults_old faults_new (line_of cause))
    ⊎ ((status ≡ 11) × PutsLine old new faults_old faults_new (codes "memory\n"))
