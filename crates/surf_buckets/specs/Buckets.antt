-- What a queue of buckets has of each place.
use Rattle.std.specs.Prelude.{ℕ, ◌<◌, ◌≤◌, ◌≡◌, ◌≢◌, ◌+◌, ◌==◌, if◌then◌else◌, length, map, Option, Some, None}
use Rattle.std.specs.Prelude.{slice_set as set}
use Rattle.std.specs.List.{range_with_len}
use Rattle.surf_heap.specs.Entries.{Entries, entry_of, IsEmpty}
use Rattle.surf_buckets.specs.Circles.{nothing, AreCircles}

-- for each place its key, with a tie of 0, or nothing; and the key that was taken last
pub record BucketTables : Type 0 where
  pub entries : Entries
  pub now : ℕ

-- a place's key
abbrev pub entry_at : (ℕ → ℕ) → ℕ → Option (ℕ × ℕ)
entry_at key p = if key p == nothing then None else Some (key p, 0)

abbrev pub entries_of : ℕ → (ℕ → ℕ) → Entries
entries_of places key = map (entry_at key) (range_with_len 0 places)

-- the keys of the places are no less than `now`, at most `last`, and less than one walk round the buckets away
pub record AreNear (places : ℕ) (key : ℕ → ℕ) (now last : ℕ) : Type 0 where
  pub from : (p : ℕ) → p < places → key p ≢ nothing → now ≤ key p
  pub window : (p : ℕ) → p < places → key p ≢ nothing → key p < now + 4096
  pub to : (p : ℕ) → p < places → key p ≢ nothing → key p ≤ last
  pub last_in : last < nothing

-- the places are in the circles of their keys, which are near
pub record AreFiled (places count : ℕ) (key next prev : ℕ → ℕ) (now last : ℕ) : Type 0 where
  pub circles : AreCircles places count key next prev
  pub near : AreNear places key now last

-- no place has a key that is less
pub record IsNearest (places : ℕ) (key : ℕ → ℕ) (place k : ℕ) : Type 0 where
  pub within : place < places
  pub holds : key place ≡ k
  pub key_in : k < nothing
  pub least : (p : ℕ) → p < places → key p ≢ nothing → k ≤ key p

-- the entry at a place has a key that is least
pub record IsNearestEntry (entries : Entries) (place key : ℕ) : Type 0 where
  pub within : place < length entries
  pub holds : (tie : ℕ) × (entry_of entries place ≡ Some (key, tie))
  pub least : (p k t : ℕ) → entry_of entries p ≡ Some (k, t) → key ≤ k

-- taking an entry out whose key is least, where there is one
abbrev pub TakesNearest : Entries → Entries → Option (ℕ × ℕ) → Type 0
TakesNearest old new None = IsEmpty old × (new ≡ old)
TakesNearest old new (Some taken) = IsNearestEntry old taken.0 taken.1 × (new ≡ set old taken.0 None)
