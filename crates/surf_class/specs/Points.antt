-- What a file of vertices says. Of its faults the first kind decides, and of that kind the least place.
use Rattle.std.specs.Prelude.{ℕ, nat_le, List, [], ◌∷◌, Option, Some, None, Result, Ok, Err}
use Rattle.std.specs.List.{position}
use Rattle.surf_base.specs.Gives.{◌>>=◌}
use Rattle.surf_text.specs.Text.{TextLine, tokens_of, lines_of}
use Rattle.surf_surfaces.specs.Mesh.{Mesh}
use Rattle.surf_class.specs.Numbers.{numbers_from}
use Rattle.surf_class.specs.declared.numbers.NumberFault.{NumberFault}
use Rattle.surf_class.specs.declared.numbers.NumberFault.TheVariants.{Bad, Memory as NoRoom}
use Rattle.surf_class.specs.declared.points.PointFault.{PointFault}
use Rattle.surf_class.specs.declared.points.PointFault.TheVariants.{Empty, Form, NotVertex, Trailing, Memory}

abbrev pub form_fault : NumberFault → PointFault
form_fault (Bad place) = Form place
form_fault NoRoom = Memory

abbrev pub as_numbers : Result (List ℕ) NumberFault → Result (List ℕ) PointFault
as_numbers (Ok numbers) = Ok numbers
as_numbers (Err fault) = Err (form_fault fault)

-- The list has no number that is no vertex, or the least place of one is told.
abbrev pub unless_at : List ℕ → Option ℕ → Result (List ℕ) PointFault
unless_at list None = Ok list
unless_at list (Some place) = Err (NotVertex place)

-- each number is a vertex
abbrev pub if_vertices : Mesh → List ℕ → Result (List ℕ) PointFault
if_vertices mesh list = unless_at list (position (λ v. nat_le mesh.vertices v) list)

-- no line stands behind
abbrev pub if_alone : List TextLine → List ℕ → Result (List ℕ) PointFault
if_alone [] list = Ok list
if_alone (line ∷ lines) list = Err (Trailing line.number)

-- a line of vertices, in any order and as often as they stand there, and none behind it
abbrev pub points_of : Mesh → List TextLine → Result (List ℕ) PointFault
points_of mesh [] = Err Empty
points_of mesh (line ∷ lines) =
    as_numbers (numbers_from 0 (tokens_of line.bytes)) >>= if_vertices mesh >>= if_alone lines

-- the vertices that a text names, or the first fault
abbrev pub points_in : Mesh → List ℕ → Result (List ℕ) PointFault
points_in mesh text = points_of mesh (lines_of text)
