-- The ends of edges by degree.
use Rattle.std.specs.Prelude.{ℕ, nat_lt, if◌then◌else◌}

-- the two vertices, that of the lesser degree first, and as they are where both have the same
abbrev pub by_degree : (ℕ → ℕ) → ℕ × ℕ → ℕ × ℕ
by_degree degree p = if nat_lt (degree p.1) (degree p.0) then (p.1, p.0) else p
