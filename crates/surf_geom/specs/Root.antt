-- Whole square roots.
use Rattle.std.specs.Prelude.{ℕ, ◌+◌, ◌*◌, ◌<◌, ◌≤◌}

-- n is the greatest number whose square isn't above s
pub record IsRoot (s n : ℕ) : Type 0 where
  pub within : n * n ≤ s
  pub greatest : s < (n + 1) * (n + 1)
