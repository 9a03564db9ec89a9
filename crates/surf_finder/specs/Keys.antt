-- Keys of loops, which tell their classes.
use Rattle.std.specs.Prelude.{ℕ, ◌≡◌, ◌≢◌, ◌<◌, bit_xor, List, length, slice_index, Option, Some, None}
use Rattle.surf_finder.specs.Kinds.{KindTables}
use Rattle.surf_finder.specs.Ways.{WayTables}
use Rattle.surf_finder.specs.declared.keys.Key.{Key}
use Rattle.surf_finder.specs.declared.keys.Noted.{Noted}
use Rattle.surf_finder.specs.declared.told_loops.Standing.{Standing}
use Rattle.surf_finder.specs.declared.told_loops.Standing.TheVariants.{Met, Null, New}

-- the class that a key tells: the sum of the classes of two ways and the signature of a kind
abbrev pub key_class : WayTables → KindTables → Key → ℕ
key_class w t key =
    bit_xor (bit_xor (slice_index w.classes key.low) (slice_index t.signatures key.kind)) (slice_index w.classes key.high)

-- there are classes and a kind of these numbers
pub record IsKey (w : WayTables) (t : KindTables) (key : Key) : Type 0 where
  pub low_in : key.low < length w.classes
  pub high_in : key.high < length w.classes
  pub kind_in : key.kind < length t.signatures

-- of the classes that are listed one has a place; where there is no place it is null
abbrev pub IsPlaced : List ℕ → ℕ → Option ℕ → Type 0
IsPlaced classes class None = class ≡ 0
IsPlaced classes class (Some k) = (k < length classes) × (slice_index classes k ≡ class)

-- so it is with what was noted of a key
abbrev pub IsNoted : WayTables → KindTables → List ℕ → Noted → Type 0
IsNoted w t classes noted = IsPlaced classes (key_class w t noted.key) noted.place

-- it was noted of this key
abbrev pub IsOfKey : Key → Noted → Type 0
IsOfKey key noted = noted.key ≡ key

-- what is known of a class, where classes are listed: the place of the same one, or that it is null or new
abbrev pub IsStanding : ℕ → List ℕ → Standing → Type 0
IsStanding class classes (Met place) = IsPlaced classes class place
IsStanding class classes Null = class ≡ 0
IsStanding class classes (New s) = (s ≡ class) × (class ≢ 0)
