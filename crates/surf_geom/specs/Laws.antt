-- What a measure is.
use Rattle.std.specs.Prelude.{◌≡◌, ℕ, ◌+◌, ◌*◌, ◌<◌, ◌≤◌}
use Rattle.surf_geom.specs.Measures.{unit_square, measure_of}

-- n units are at most as long as a distance whose square is s, and one unit more is longer
pub record IsMeasure (unit s n : ℕ) : Type 0 where
  pub within : n * n * unit ≤ s
  pub greatest : s < (n + 1) * (n + 1) * unit

-- A measure is the greatest number of units that are no longer than the distance of the fixed
-- values.
abbrev pub MeasuresAreGreatest : Type 0
MeasuresAreGreatest = (k s : ℕ) → IsMeasure (unit_square k) s (measure_of (unit_square k) s)

-- Each edge has one measure.
abbrev pub MeasuresAreOne : Type 0
MeasuresAreOne = (k s n : ℕ) → IsMeasure (unit_square k) s n → n ≡ measure_of (unit_square k) s
