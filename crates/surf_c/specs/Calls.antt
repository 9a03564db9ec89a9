-- What a call from C is answered.
use Rattle.std.specs.Prelude.{◌≡◌, ◌≤◌, ◌⊎◌, ℕ, List, [], ◌∷◌, All, length, take, codes}
use Rattle.std.specs.Str.{IsUtf8}
use Rattle.surf_base.specs.Outside.{Files}
use Rattle.surf_texts.specs.Outcome.{misses}
use Rattle.surf_run.specs.Leads.{Answer, Leads}
use Rattle.surf_run.specs.Run.{IsDecided}

-- the files that words name by 1, 2 and 3
abbrev pub three : List ℕ → List ℕ → List ℕ → Files
three first second third = (codes "1", first) ∷ (codes "2", second) ∷ (codes "3", third) ∷ []

-- The program answers these words over these files with this status, and with this text: its answer, or from status
-- 2 on its line. Words that are no text are in no row of the command table.
abbrev pub IsSaid : List (List ℕ) → Files → ℕ → List ℕ → Type 0
IsSaid words files status text =
    ((status ≤ 1) × Answer words files status text [])
    ⊎ (IsDecided status × Answer words files status [] text)
    ⊎ ((status ≡ 9) × Leads words files misses × (text ≡ codes "read fault\n"))
    ⊎ ((status ≡ 11) × (text ≡ codes "memory\n"))
    ⊎ ((status ≡ 2) × (¬ All IsUtf8 words) × (text ≡ codes "usage: the words are in no row of the command table\n"))

-- So much is said, and it stands at the front of the room where it fits.
abbrev pub IsSaidInto : List (List ℕ) → Files → ℕ → ℕ → List ℕ → Type 0
IsSaidInto words files status size room = (text : List ℕ) × IsSaid words files status text × (size ≡ length text)
    × (size ≤ length room → take size room ≡ text)
