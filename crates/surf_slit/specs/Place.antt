-- Places around a vertex, counted from behind one of them.
use Rattle.std.specs.Prelude.{◌≡◌, ℕ, ◌+◌, ◌-◌, ◌<◌, nat_lt, if◌then◌else◌, Bool, true, false, List, length}
use Rattle.std.specs.Prelude.{slice_index, slice_index_or}

-- around n places, the one that is d + 1 steps after m
abbrev pub place : ℕ → ℕ → ℕ → ℕ
place n m d = if nat_lt (m + 1 + d) n then m + 1 + d else m + 1 + d - n

-- whether the edge at a place is cut, by the flags of all edges
abbrev pub cut_behind : List ℕ → List Bool → ℕ → Bool
cut_behind edges cut k = slice_index_or cut (slice_index edges k) false

-- around a vertex no edge is cut but that at one place
abbrev pub NoneCut : List ℕ → List Bool → ℕ → Type 0
NoneCut edges cut m = (d : ℕ) → d + 1 < length edges → cut_behind edges cut (place (length edges) m d) ≡ false

-- after one place, the first place at which an edge is cut
pub record IsNextCut (edges : List ℕ) (cut : List Bool) (m q : ℕ) : Type 0 where
  pub within : q + 1 < length edges
  pub is_cut : cut_behind edges cut (place (length edges) m q) ≡ true
  pub none_before : (d : ℕ) → d < q → cut_behind edges cut (place (length edges) m d) ≡ false
