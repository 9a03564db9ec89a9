-- A queue of buckets over keys that are lent: a place that stands in a circle waits with its key, and one that stands
-- alone is settled with its key, or has none.
use Rattle.std.specs.Prelude.{ℕ, ◌<◌, ◌≡◌, ◌==◌, if◌then◌else◌, List, length, map, get_or, slice_index}
use Rattle.std.specs.List.{range_with_len}
use Rattle.surf_heap.specs.Entries.{Entries}
use Rattle.surf_buckets.specs.declared.lent.Link.{Link}
use Rattle.surf_buckets.specs.Circles.{nothing, of_node, AreCircles}
use Rattle.surf_buckets.specs.Buckets.{AreNear, entries_of}

-- the nodes, how many places there are, the key that was taken last, and the greatest that was offered
pub record LentTables : Type 0 where
  pub links : List Link
  pub places : ℕ
  pub now : ℕ
  pub last : ℕ

abbrev pub lone : Link
lone = record { next = 0; prev = 0 }

abbrev pub next_of : List Link → ℕ → ℕ
next_of = of_node (λ n. n.next) lone

abbrev pub prev_of : List Link → ℕ → ℕ
prev_of = of_node (λ n. n.prev) lone

-- the key of a place that waits
abbrev pub waiting_key : List Link → List ℕ → ℕ → ℕ
waiting_key links keys p = if next_of links p == p then nothing else slice_index keys p

-- the key of a place that doesn't wait
abbrev pub settled_key : List Link → List ℕ → ℕ → ℕ
settled_key links keys p = if next_of links p == p then slice_index keys p else nothing

-- what waits at each place
abbrev pub waiting : LentTables → List ℕ → Entries
waiting t keys = entries_of t.places (waiting_key t.links keys)

-- the key with which each place is settled
abbrev pub settled : LentTables → List ℕ → List ℕ
settled t keys = map (settled_key t.links keys) (range_with_len 0 t.places)

-- the places that wait are in the circles of their keys
abbrev pub AreLent : ℕ → List Link → List ℕ → Type 0
AreLent places links keys =
    AreCircles places (length links) (waiting_key links keys) (next_of links) (prev_of links)

-- the keys that wait are near
pub record IsFiling (t : LentTables) (keys : List ℕ) : Type 0 where
  pub room : length keys ≡ t.places
  pub circles : AreLent t.places t.links keys
  pub near : AreNear t.places (waiting_key t.links keys) t.now t.last

-- as many nodes as are asked for, each of which stands alone
abbrev pub AreLone : ℕ → List Link → Type 0
AreLone count links = (length links ≡ count)
    × ((i : ℕ) → i < count → get_or links i lone ≡ record { next = i; prev = i })
