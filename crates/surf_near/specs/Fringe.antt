-- What waits in a search.
use Rattle.std.specs.Prelude.{ℕ, ◌<◌, ◌≡◌, nat_lt, if◌then◌else◌, length}
use Rattle.surf_heap.specs.Entries.{Entries}
use Rattle.surf_buckets.specs.Buckets.{BucketTables}

-- the distances at which vertices wait, the last distance that was taken, and the greatest length of an edge
pub record FringeTables : Type 0 where
  pub entries : Entries
  pub now : ℕ
  pub step : ℕ

-- what waits: in buckets where the edges are short, and else in a heap
abbrev pub waiting : ℕ → Entries → Entries → Entries
waiting step short long = if nat_lt step 4096 then short else long

-- a heap and buckets of which one is in use
pub record IsFringe (step now : ℕ) (buckets : BucketTables) (heap : Entries) : Type 0 where
  pub same_length : length buckets.entries ≡ length heap
  pub now_is : step < 4096 → buckets.now ≡ now
