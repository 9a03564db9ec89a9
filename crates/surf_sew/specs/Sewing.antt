-- Sewing: copies of one vertex become that vertex again.
use Rattle.std.specs.Prelude.{◌≡◌, ◌<◌, ◌+◌, ℕ, suc, Bool, true, not, ◌==◌, List, [], ◌∷◌, length, map}
use Rattle.std.specs.Prelude.{slice_index, slice_index_or, Option, Some, None, Result, Ok, Err, if◌then◌else◌}
use Rattle.std.specs.List.{find, list_any, position_or_len, range_with_len}
use Rattle.std.specs.Option.{option_map, option_or}
use Rattle.std.specs.Str.{bytes_eq}
use Rattle.surf_surfaces.specs.Mesh.{Mesh}
use Rattle.surf_off.specs.Off.{first_repeat}
use Rattle.surf_sew.specs.declared.fault.SewFault.{SewFault}
use Rattle.surf_sew.specs.declared.fault.SewFault.TheVariants.{Gap, Line, FaceRepeat}

-- whether a number is in a list
abbrev pub is_among : ℕ → List ℕ → Bool
is_among v origins = list_any (λ o. o == v) origins

-- how many different numbers a list has
abbrev pub different : List ℕ → ℕ
different [] = 0
different (v ∷ origins) = if is_among v origins then different origins else suc (different origins)

-- the least copy of a vertex, by the origins of the copies; their number where it has none
abbrev pub first_copy : List ℕ → ℕ → ℕ
first_copy origins v = position_or_len (λ o. o == v) origins

-- the least copies of so many vertices from one on
abbrev pub first_copies : List ℕ → ℕ → ℕ → List ℕ
first_copies origins from count = map (first_copy origins) (range_with_len from count)

-- the least copy with the origin of a copy
abbrev pub first_like : List ℕ → ℕ → ℕ
first_like origins c = first_copy origins (slice_index origins c)

-- Each vertex has a copy.
abbrev pub HaveCopies : List ℕ → ℕ → Type 0
HaveCopies origins vertices = (v : ℕ) → v < vertices → is_among v origins ≡ true

-- the least number below that of the different origins that is none of them
abbrev pub gap_fault : List ℕ → Option SewFault
gap_fault origins = option_map Gap (find (λ v. not (is_among v origins)) (range_with_len 0 (different origins)))

-- whether the vertex lines of two copies are byte by byte the same
abbrev pub same_line : List (List ℕ) → ℕ → ℕ → Bool
same_line lines c d = bytes_eq (slice_index_or lines c []) (slice_index_or lines d [])

-- the least copy whose vertex line differs from that of the least copy with its origin
abbrev pub line_fault : List (List ℕ) → List ℕ → Option SewFault
line_fault lines origins =
    option_map (λ c. Line c (first_like origins c))
    (find (λ c. not (same_line lines c (first_like origins c))) (range_with_len 0 (length origins)))

-- a face with each corner replaced by its origin
abbrev pub sewn_face : List ℕ → List ℕ → List ℕ
sewn_face origins face = map (slice_index origins) face

abbrev pub sewn_faces : List ℕ → List (List ℕ) → List (List ℕ)
sewn_faces origins faces = map (sewn_face origins) faces

-- the first face that has a vertex at two corners, and its first that stands before; the first of all is numbered f
unfoldable pub repeat_from : ℕ → List (List ℕ) → Option SewFault
repeat_from f [] = None
repeat_from f (face ∷ faces) = option_or (option_map (FaceRepeat f) (first_repeat [] face)) (repeat_from (f + 1) faces)

-- a fault, where there is one
abbrev pub unless : Option SewFault → Result Mesh SewFault → Result Mesh SewFault
unless None sewn = sewn
unless (Some fault) sewn = Err fault

-- the mesh that faces become, with as many vertices as there are different origins
abbrev pub sewn_mesh : List ℕ → List (List ℕ) → Mesh
sewn_mesh origins faces = record { vertices = different origins; faces = sewn_faces origins faces }

-- what is sewn of a mesh of copies with these vertex lines and origins, or the first fault
abbrev pub sewn_of : List (List ℕ) → Mesh → List ℕ → Result Mesh SewFault
sewn_of lines copies origins =
    unless (gap_fault origins) (unless (line_fault lines origins)
    (unless (repeat_from 0 (sewn_faces origins copies.faces)) (Ok (sewn_mesh origins copies.faces))))
