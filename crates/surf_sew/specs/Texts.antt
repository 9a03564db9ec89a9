-- The text of a sewn mesh.
use Rattle.std.specs.Prelude.{◌≡◌, ℕ, List, Ok}
use Rattle.surf_surfaces.specs.Mesh.{Mesh}
use Rattle.surf_surfaces.specs.Surface.{edge_count}
use Rattle.surf_off.specs.Off.{OffParts, off_without_limits}
use Rattle.surf_off.specs.Written.{lines_at, at_copies, mesh_text}
use Rattle.surf_sew.specs.Sewing.{first_copies}

-- the vertex lines of the least copies of so many vertices
abbrev pub sewn_lines : List (List ℕ) → List ℕ → ℕ → List (List ℕ)
sewn_lines lines origins count = lines_at lines (first_copies origins 0 count)

-- what a text of a sewn mesh has beside the mesh
abbrev pub sewn_parts : OffParts → List ℕ → ℕ → OffParts
sewn_parts parts origins count = at_copies parts (first_copies origins 0 count)

-- the keyword and the colours of the text of the copies, the vertex lines of the least copies, and the mesh with the
-- number of its edges
abbrev pub sewn_text : OffParts → List ℕ → Mesh → List ℕ
sewn_text parts origins mesh = mesh_text (sewn_parts parts origins mesh.vertices) mesh.faces (edge_count mesh)

-- Read without limits, the text of a sewn mesh has the keyword, the lines of the least copies, the colours and the
-- mesh.
abbrev pub RereadsSewn : OffParts → List ℕ → Mesh → Type 0
RereadsSewn parts origins mesh =
    off_without_limits (sewn_text parts origins mesh) ≡ Ok (sewn_parts parts origins mesh.vertices, mesh)
