-- The lengths of edges, measured between the points of their ends.
use Rattle.std.specs.Prelude.{ℕ, zero, suc, ◌-◌, ◌*◌, ◌^◌, Bool, ◌==◌, nat_lt, nat_le, List, Result, Ok, Err}
use Rattle.std.specs.Prelude.{if◌then◌else◌}
use Rattle.surf_surfaces.specs.Mesh.{Mesh, edges}
use Rattle.surf_lengths.specs.Lengths.{longest}
use Rattle.surf_geom.specs.declared.fault.GeomFault.{GeomFault}
use Rattle.surf_geom.specs.declared.fault.GeomFault.TheVariants.{Zero, Great}
use Rattle.surf_geom.specs.declared.points.Point.{Point}
use Rattle.surf_base.specs.Gives.{◌>>=◌}
use Rattle.surf_geom.specs.Lists.{each}
use Rattle.surf_geom.specs.Points.{points_in, point_at, square_distance}

-- the greatest number up to a bound that passes, or 0
unfoldable pub greatest : (ℕ → Bool) → ℕ → ℕ
greatest test zero = zero
greatest test (suc n) = if test (suc n) then suc n else greatest test n

-- the square of a unit of 10^-k, in units of 10^-18
abbrev pub unit_square : ℕ → ℕ
unit_square k = 10 ^ (2 * (9 - k))

-- the greatest number of units whose square isn't above s
abbrev pub measure_of : ℕ → ℕ → ℕ
measure_of unit s = greatest (λ n. nat_le (n * n * unit) s) s

-- the measure of an edge as its length, if it is one
abbrev pub fitting : ℕ × ℕ → ℕ → Result ℕ GeomFault
fitting edge n =
    if n == 0
    then Err (Zero edge.0 edge.1)
    else (if nat_lt longest n then Err (Great edge.0 edge.1) else Ok n)

-- the length of an edge between two of the points
abbrev pub length_of : List Point → ℕ → ℕ × ℕ → Result ℕ GeomFault
length_of points unit edge =
    fitting edge (measure_of unit (square_distance (point_at points edge.0) (point_at points edge.1)))

-- The lengths of all edges in units of 10^-k, or the first fault: that of a token, and else that of an edge.
abbrev pub measures_in : Mesh → List (List ℕ) → ℕ → Result (List ℕ) GeomFault
measures_in mesh lines k = points_in lines >>= λ points. each (length_of points (unit_square k)) (edges mesh)
