-- Nodes that have keys.
use Rattle.std.specs.Prelude.{ℕ, ◌<◌, ◌≡◌, List, length, get_or}
use Rattle.surf_buckets.specs.declared.buckets.Node.{Node}
use Rattle.surf_buckets.specs.Circles.{nothing, of_node, AreCircles}
use Rattle.surf_buckets.specs.Buckets.{AreFiled}

abbrev pub blank : Node
blank = record { key = 0; next = 0; prev = 0 }

abbrev pub key_at : List Node → ℕ → ℕ
key_at = of_node (λ n. n.key) blank

abbrev pub next_at : List Node → ℕ → ℕ
next_at = of_node (λ n. n.next) blank

abbrev pub prev_at : List Node → ℕ → ℕ
prev_at = of_node (λ n. n.prev) blank

abbrev pub AreNodes : ℕ → List Node → Type 0
AreNodes places nodes = AreCircles places (length nodes) (key_at nodes) (next_at nodes) (prev_at nodes)

-- each node stands alone, and no place has a key
abbrev pub IsAlone : ℕ → List Node → Type 0
IsAlone count nodes = (length nodes ≡ count)
    × ((i : ℕ) → i < count → get_or nodes i blank ≡ record { key = nothing; next = i; prev = i })

-- the nodes of a queue of buckets
abbrev pub IsBuckets : ℕ → List Node → ℕ → ℕ → Type 0
IsBuckets places nodes now last =
    AreFiled places (length nodes) (key_at nodes) (next_at nodes) (prev_at nodes) now last
