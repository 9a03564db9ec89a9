-- The OFF texts that are written.
use Rattle.std.specs.Prelude.{◌≡◌, ℕ, List, [], ◌∷◌, ◌++◌, length, map, codes, decimal, slice_index, slice_index_or, Ok}
use Rattle.std.specs.List.{flat_map, zip, range_with_len}
use Rattle.surf_text.specs.Numbers.{numbers_text}
use Rattle.surf_surfaces.specs.Mesh.{Mesh}
use Rattle.surf_rows.specs.Rows.{cut, AreEnds}
use Rattle.surf_off.specs.declared.header.Header.{Header}
use Rattle.surf_off.specs.declared.header.Header.TheVariants.{Off}
use Rattle.surf_off.specs.Keywords.{keyword}
use Rattle.surf_off.specs.Off.{OffParts, off_without_limits}

-- the keyword's line, and that of the numbers of vertices, faces and edges
abbrev pub head_text : Header → ℕ → ℕ → ℕ → List ℕ
head_text header v f e = keyword header
    ++ (codes "\n" ++ (decimal v ++ (codes " " ++ (decimal f ++ (codes " " ++ (decimal e ++ codes "\n"))))))

-- each line and its end
abbrev pub lines_text : List (List ℕ) → List ℕ
lines_text lines = flat_map (λ line. line ++ codes "\n") lines

-- a colour behind a space, if there is one
abbrev pub colour_text : List ℕ → List ℕ
colour_text [] = []
colour_text (b ∷ bs) = codes " " ++ (b ∷ bs)

-- a face line: its size, its corners and its colour
abbrev pub face_text : List ℕ → List ℕ → List ℕ
face_text corners colour = decimal (length corners) ++ (numbers_text corners ++ (colour_text colour ++ codes "\n"))

-- faces beside their colours
abbrev pub faces_text : List (List ℕ × List ℕ) → List ℕ
faces_text faces = flat_map (λ face. face_text face.0 face.1) faces

-- the faces of a mesh, what its text has beside it, and the number of its edges
abbrev pub mesh_text : OffParts → List (List ℕ) → ℕ → List ℕ
mesh_text parts faces e = head_text parts.header (length parts.vertex_lines) (length faces) e
    ++ (lines_text parts.vertex_lines ++ faces_text (zip faces parts.colours))

-- a comment that says of which vertex a copy is
abbrev pub copy_text : ℕ → ℕ → List ℕ
copy_text i v = codes "# copy " ++ (decimal i ++ (codes " from " ++ (decimal v ++ codes "\n")))

-- the same for copies of these numbers
abbrev pub copies_text : List ℕ → List ℕ → List ℕ
copies_text origins is = flat_map (λ i. copy_text i (slice_index origins i)) is

-- the vertex lines of the copies
abbrev pub lines_at : List (List ℕ) → List ℕ → List (List ℕ)
lines_at lines origins = map (λ v. slice_index_or lines v []) origins

-- A table of starts begins with 0 and ends with the number of things.
abbrev pub AreStarts : List ℕ → ℕ → Type 0
AreStarts [] total = ⊥
AreStarts (first ∷ ends) total = (first ≡ 0) × AreEnds 0 ends total

-- the rows of a flat table, by the places where they start and where the last one ends
abbrev pub rows_at : List ℕ → List ℕ → List (List ℕ)
rows_at [] items = []
rows_at (first ∷ ends) items = cut 0 ends items

-- the same with the vertex lines of copies
abbrev pub at_copies : OffParts → List ℕ → OffParts
at_copies parts origins = record parts { vertex_lines = lines_at parts.vertex_lines origins }

-- an opened mesh: the vertex lines of its copies, its faces and their colours, and a comment for each copy
abbrev pub opened_text : OffParts → List ℕ → List (List ℕ) → ℕ → List ℕ
opened_text parts origins faces e =
    mesh_text (at_copies parts origins) faces e ++ copies_text origins (range_with_len 0 (length origins))

-- the vertex lines of a made mesh: the number of the vertex and two zeros
abbrev pub point_text : ℕ → List ℕ
point_text v = decimal v ++ codes " 0 0"

abbrev pub points : List ℕ → List (List ℕ)
points vs = map point_text vs

-- no colour for any face
abbrev pub no_colours : List (List ℕ) → List (List ℕ)
no_colours faces = map (λ face. []) faces

-- what the text of a made mesh has beside it
abbrev pub made_parts : Mesh → OffParts
made_parts mesh =
    record { header = Off; vertex_lines = points (range_with_len 0 mesh.vertices); colours = no_colours mesh.faces }

-- a made mesh
abbrev pub soup_text : Mesh → ℕ → List ℕ
soup_text mesh e = mesh_text (made_parts mesh) mesh.faces e

-- Read without limits, the text of an opened mesh has the keyword, the lines of the copies, the faces and the colours.
abbrev pub RereadsOpened : OffParts → List ℕ → List (List ℕ) → ℕ → Type 0
RereadsOpened parts origins faces e =
    off_without_limits (opened_text parts origins faces e)
    ≡ Ok (at_copies parts origins, record { vertices = length origins; faces = faces })

-- Read without limits, the text of a made mesh is that mesh.
abbrev pub RereadsSoup : Mesh → ℕ → Type 0
RereadsSoup mesh e = off_without_limits (soup_text mesh e) ≡ Ok (made_parts mesh, mesh)
