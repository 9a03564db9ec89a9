-- What a table of numbers has at a place.
use Rattle.std.specs.Prelude.{ℕ, List, slice_index}

-- the entry of a table
abbrev pub at : List ℕ → ℕ → ℕ
at table n = slice_index table n

-- stands in tables for no number of a vertex, a face or an edge
abbrev pub nobody : ℕ
nobody = 4294967295
