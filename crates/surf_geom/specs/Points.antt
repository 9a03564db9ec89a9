-- The points of a mesh: the first three tokens of each vertex line, as fixed values.
use Rattle.std.specs.Prelude.{ℕ, ◌+◌, ◌*◌, ◌^◌, ◌<◌, List, [], length, slice_get, slice_index_or, Option, Some, None}
use Rattle.std.specs.Prelude.{Result, Ok, Err, ℤ, pos, ◌-ℤ◌, unsigned_abs}
use Rattle.std.specs.List.{range_with_len}
use Rattle.surf_text.specs.Text.{tokens_of}
use Rattle.surf_geom.specs.declared.fault.FixedFault.{FixedFault}
use Rattle.surf_geom.specs.declared.fault.FixedFault.TheVariants.{Form as NoForm, Range as NoRange}
use Rattle.surf_geom.specs.declared.fault.GeomFault.{GeomFault}
use Rattle.surf_geom.specs.declared.fault.GeomFault.TheVariants.{Form, Range}
use Rattle.surf_geom.specs.declared.points.Point.{Point}
use Rattle.surf_geom.specs.Fixed.{fixed_of}
use Rattle.surf_base.specs.Gives.{◌>>=◌}
use Rattle.surf_geom.specs.Lists.{each}

-- a fault of a token, with its vertex and its place on the line
abbrev pub placed : ℕ → ℕ → Result ℤ FixedFault → Result ℤ GeomFault
placed vertex place (Ok x) = Ok x
placed vertex place (Err NoForm) = Err (Form vertex place)
placed vertex place (Err NoRange) = Err (Range vertex place)

-- A coordinate. One that isn't there hasn't the form; the vertex lines of an OFF text have three tokens at least.
abbrev pub coordinate : ℕ → ℕ → Option (List ℕ) → Result ℤ GeomFault
coordinate vertex place None = Err (Form vertex place)
coordinate vertex place (Some token) = placed vertex place (fixed_of token)

-- the point of a vertex, by the tokens of its line
abbrev pub point_of : ℕ → List (List ℕ) → Result Point GeomFault
point_of vertex tokens = do
  x ← coordinate vertex 0 (slice_get tokens 0)
  y ← coordinate vertex 1 (slice_get tokens 1)
  z ← coordinate vertex 2 (slice_get tokens 2)
  Ok (record { x = x; y = y; z = z })

-- the point of a vertex, by its line among the lines of all vertices
abbrev pub point_in : List (List ℕ) → ℕ → Result Point GeomFault
point_in lines v = point_of v (tokens_of (slice_index_or lines v []))

-- the points of all vertices, or the first fault by vertex and place
abbrev pub points_in : List (List ℕ) → Result (List Point) GeomFault
points_in lines = each (point_in lines) (range_with_len 0 (length lines))

abbrev pub square : ℤ → ℕ
square z = unsigned_abs z * unsigned_abs z

-- the square of the distance of two points, in units of 10^-18
abbrev pub square_distance : Point → Point → ℕ
square_distance p q = square (p.x -ℤ q.x) + square (p.y -ℤ q.y) + square (p.z -ℤ q.z)

-- the point of a vertex
abbrev pub point_at : List Point → ℕ → Point
point_at points v = slice_index_or points v (record { x = pos 0; y = pos 0; z = pos 0 })

-- each coordinate has an amount below 10^9
pub record IsNear (p : Point) : Type 0 where
  pub x : unsigned_abs p.x < 10 ^ 18
  pub y : unsigned_abs p.y < 10 ^ 18
  pub z : unsigned_abs p.z < 10 ^ 18
