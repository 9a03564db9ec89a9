-- Labels that vertices share.
use Rattle.std.specs.Prelude.{◌≢◌, ℕ, ◌<◌, ◌==◌, if◌then◌else◌, List, length, slice_index, Option, Some, None}
use Rattle.surf_base.specs.Tables.{nobody, at}

-- the label with a number in a list of them, or none for nobody
abbrev pub shared_label : List ℕ → ℕ → Option ℕ
shared_label rows id = if id == nobody then None else Some (slice_index rows id)

-- each number is that of a label, or nobody
abbrev pub AreShared : List ℕ → List ℕ → Type 0
AreShared ids rows = (v : ℕ) → v < length ids → at ids v ≢ nobody → at ids v < length rows
