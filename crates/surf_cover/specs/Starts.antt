-- Where a shortest walk of a class may begin.
use Rattle.std.specs.Prelude.{◌≡◌, ◌≢◌, ℕ, ◌+◌, ◌<◌, ◌≤◌, ◌⊎◌, true, List, Option, Some, slice_index, bit_xor}
use Rattle.surf_z2.specs.Sieve.{has}
use Rattle.surf_graphs.specs.Cells.{Split}
use Rattle.surf_surfaces.specs.Mesh.{Mesh}
use Rattle.surf_surfaces.specs.Surface.{edge_count, ends}
use Rattle.surf_surfaces.specs.Walk.{walk_length}
use Rattle.surf_classes.specs.Cover.{IsSignedDistance}
use Rattle.surf_classes.specs.Shortest.{IsChosenWalk}
use Rattle.surf_tree.specs.Searches.{far}
use Rattle.surf_cover.specs.Tables.{CoverTables, distance_at}
use Rattle.surf_cover.specs.declared.choice.ClassWalk.{ClassWalk}
use Rattle.surf_cover.specs.declared.rounds.Start.{Start}

-- the vertex is the lesser end of an edge whose signature has the number
abbrev pub IsLesserEnd : Mesh → List ℕ → ℕ → ℕ → Type 0
IsLesserEnd mesh signatures number v = (e : ℕ) × (e < edge_count mesh) × ((ends mesh e).0 ≡ v)
    × (has (slice_index signatures e) number ≡ true)

-- the ways from the base to v with a part of a set, and with what the part leaves of it, are so long together: so a
-- round with the set and of that length goes by way of the base and v
abbrev pub IsDivided : CoverTables → ℕ → ℕ → ℕ → ℕ → Type 0
IsDivided t set n v part = distance_at t v part + distance_at t v (bit_xor set part) ≡ n

-- they are so with some part
abbrev pub IsOnRound : CoverTables → ℕ → ℕ → ℕ → Type 0
IsOnRound t set n v = (part : ℕ) × (part < t.sets) × IsDivided t set n v part

-- sums of sets are sets
abbrev pub AreClosedSets : CoverTables → Type 0
AreClosedSets t = (set other : ℕ) → set < t.sets → other < t.sets → bit_xor set other < t.sets

-- there is a round with the set at the base, and of the vertices on the shortest it is the least
pub record IsStartBy (t : CoverTables) (base set : ℕ) (start : Start) : Type 0 where
  pub length_is : start.length ≡ distance_at t base set
  pub found : start.length ≢ far
  pub on_round : IsOnRound t set start.length start.vertex
  pub start_in : start.vertex < t.vertices
  pub least : (y : ℕ) → IsOnRound t set start.length y → start.vertex ≤ y

-- no round of length n at y is shorter, and none at a lesser vertex is as short
abbrev pub IsUpTo : Start → ℕ → ℕ → Type 0
IsUpTo start y n = (start.length ≤ n) × (n ≡ start.length → start.vertex ≤ y)

-- it is another start or the best so far, and neither of these is before it
pub record IsBetter (best : Option Start) (other : Start) (result : Option Start) : Type 0 where
  pub start : Start
  pub is : result ≡ Some start
  pub one : (start ≡ other) ⊎ (best ≡ Some start)
  pub up_to_other : IsUpTo start other.vertex other.length
  pub up_to_best : (before : Start) → best ≡ Some before → IsUpTo start before.vertex before.length

-- it begins at the least vertex at which a round with the set is shortest, and has its length
pub record IsLeastStart (mesh : Mesh) (lengths : List ℕ) (d : Split) (set : ℕ) (start : Start) : Type 0 where
  pub start_in : start.vertex < mesh.vertices
  pub round : IsSignedDistance mesh lengths d start.vertex start.vertex set start.length
  pub least : (y n : ℕ) → y < mesh.vertices → IsSignedDistance mesh lengths d y y set n → IsUpTo start y n

-- the walk that is chosen in the class of a walk, and its length
pub record IsLeastInClass (mesh : Mesh) (lengths walk : List ℕ) (c : ClassWalk) : Type 0 where
  pub chosen : IsChosenWalk mesh lengths walk c.walk
  pub length_is : walk_length mesh lengths c.walk ≡ c.length
