-- What a walk file says. Of its faults the first kind decides, and of that kind the least place.
use Rattle.std.specs.Prelude.{ℕ, ◌==◌, nat_le, not, List, [], ◌∷◌, Option, Some, None, Result, Ok, Err, if◌then◌else◌}
use Rattle.std.specs.List.{position}
use Rattle.surf_base.specs.Gives.{◌>>=◌}
use Rattle.surf_text.specs.Text.{TextLine, tokens_of, lines_of}
use Rattle.surf_surfaces.specs.Mesh.{Mesh, pair_of, among, steps, edges}
use Rattle.surf_surfaces.specs.Walk.{first, last}
use Rattle.surf_class.specs.Numbers.{numbers_from}
use Rattle.surf_class.specs.declared.numbers.NumberFault.{NumberFault}
use Rattle.surf_class.specs.declared.numbers.NumberFault.TheVariants.{Bad, Memory as NoRoom}
use Rattle.surf_class.specs.declared.fault.WalkFault.{WalkFault}
use Rattle.surf_class.specs.declared.fault.WalkFault.TheVariants.{Empty, Form, NotVertex, NotEdge, Unclosed, Trailing}
use Rattle.surf_class.specs.declared.fault.WalkFault.TheVariants.{Memory}

abbrev pub form_fault : NumberFault → WalkFault
form_fault (Bad place) = Form place
form_fault NoRoom = Memory

abbrev pub as_numbers : Result (List ℕ) NumberFault → Result (List ℕ) WalkFault
as_numbers (Ok numbers) = Ok numbers
as_numbers (Err fault) = Err (form_fault fault)

-- The list has no fault of this kind, or the fault is at the place.
abbrev pub unless_at : (ℕ → WalkFault) → List ℕ → Option ℕ → Result (List ℕ) WalkFault
unless_at fault list None = Ok list
unless_at fault list (Some place) = Err (fault place)

-- each number is a vertex
abbrev pub if_vertices : Mesh → List ℕ → Result (List ℕ) WalkFault
if_vertices mesh list = unless_at NotVertex list (position (λ v. nat_le mesh.vertices v) list)

-- each vertex and the next one are an edge
abbrev pub if_joined : Mesh → List ℕ → Result (List ℕ) WalkFault
if_joined mesh list = unless_at NotEdge list (position (λ s. not (among (pair_of s) (edges mesh))) (steps list))

-- the ends are one vertex
abbrev pub if_closed : List ℕ → Result (List ℕ) WalkFault
if_closed list = if first list == last list then Ok list else Err Unclosed

-- no line stands behind
abbrev pub if_alone : List TextLine → List ℕ → Result (List ℕ) WalkFault
if_alone [] list = Ok list
if_alone (line ∷ lines) list = Err (Trailing line.number)

-- a line of vertices, the first and the last included, and none behind it
abbrev pub walk_of : Mesh → List TextLine → Result (List ℕ) WalkFault
walk_of mesh [] = Err Empty
walk_of mesh (line ∷ lines) =
    as_numbers (numbers_from 0 (tokens_of line.bytes)) >>= if_vertices mesh >>= if_joined mesh
    >>= if_closed >>= if_alone lines

-- the closed walk that a text gives on a mesh, or the first fault
abbrev pub walk_in : Mesh → List ℕ → Result (List ℕ) WalkFault
walk_in mesh text = walk_of mesh (lines_of text)
