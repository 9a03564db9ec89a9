-- Vertices that are marked in a table, and the edges with signatures.
use Rattle.std.specs.Prelude.{ℕ, ◌≡◌, ◌<◌, true, false, Bool, List, Contains, length, slice_index, slice_index_or, not, ◌==◌}
use Rattle.std.specs.Int.{w32, reverse_bits}
use Rattle.surf_z2.specs.Space.{Chain}
use Rattle.surf_finder.specs.Signing.{SignTables}

-- the list has those of the first vertices that are marked, increasing, and no others
pub record AreMarkedIn (marked : List Bool) (bound : ℕ) (list : List ℕ) : Type 0 where
  pub inside : (k : ℕ) → k < length list → slice_index list k < bound
  pub rise : (i j : ℕ) → i < j → j < length list → slice_index list i < slice_index list j
  pub only : (k : ℕ) → k < length list → slice_index_or marked (slice_index list k) false ≡ true
  pub all : (v : ℕ) → v < bound → slice_index_or marked v false ≡ true → Contains list v

-- the set of the edges whose signatures aren't empty
abbrev pub is_signed : SignTables → Chain
is_signed s e = not (slice_index s.signatures e == 0)

-- the number that the 32 bits of a number write when they are read backwards
abbrev pub bits_backwards : ℕ → ℕ
bits_backwards v = reverse_bits w32 v
