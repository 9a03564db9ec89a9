-- What is sewn of a mesh that was cut is that mesh.
use Rattle.std.specs.Prelude.{◌≡◌, ◌<◌, ◌≤◌, ◌^◌, ℕ, List, length, Ok}
use Rattle.surf_surfaces.specs.Disc.{IsOpening}
use Rattle.surf_surfaces.specs.Mesh.{Mesh, IsMesh}
use Rattle.surf_surfaces.specs.Surface.{face_count, edge_count}
use Rattle.surf_surfaces.specs.SideNumber.{side_count}
use Rattle.surf_off.specs.Clean.{IsOffParts}
use Rattle.surf_off.specs.Off.{OffParts, off_of, off_without_limits}
use Rattle.surf_off.specs.Written.{opened_text, lines_at, mesh_text}
use Rattle.surf_sew.specs.Copies.{copies_in}
use Rattle.surf_sew.specs.Sewing.{HaveCopies, sewn_of}
use Rattle.surf_sew.specs.Texts.{sewn_lines, sewn_text}

-- A mesh with a vertex line for each vertex and a colour for each face, and an opening of it: the vertex of each copy,
-- and the faces over the copies.
pub record WasCut (parts : OffParts) (mesh : Mesh) (origins : List ℕ) (faces : List (List ℕ)) : Type 0 where
  pub clean : IsOffParts parts
  pub lines : length parts.vertex_lines ≡ mesh.vertices
  pub colours : length parts.colours ≡ face_count mesh
  pub is_mesh : IsMesh mesh
  pub few_sides : side_count mesh < 2 ^ 30
  pub opening : IsOpening mesh origins faces

-- the mesh of the copies, and its parts
abbrev pub opened : List ℕ → List (List ℕ) → Mesh
opened origins faces = record { vertices = length origins; faces = faces }

abbrev pub opened_parts : OffParts → List ℕ → OffParts
opened_parts parts origins = record parts { vertex_lines = lines_at parts.vertex_lines origins }

-- the text of an opened mesh, with the number of its edges
abbrev pub text_cut : OffParts → List ℕ → List (List ℕ) → List ℕ
text_cut parts origins faces = opened_text parts origins faces (edge_count (opened origins faces))

-- The text of an opened mesh is read, without limits, as the mesh of its copies.
abbrev pub OpenedAreReread : Type 0
OpenedAreReread =
    (parts : OffParts) (mesh : Mesh) (origins : List ℕ) (faces : List (List ℕ)) → WasCut parts mesh origins faces
    → off_without_limits (text_cut parts origins faces) ≡ Ok (opened_parts parts origins, opened origins faces)

-- A text within the limits is read with them as without them.
abbrev pub LimitsAreKept : Type 0
LimitsAreKept =
    (text : List ℕ) (parts : OffParts) (mesh : Mesh) → off_without_limits text ≡ Ok (parts, mesh)
    → mesh.vertices ≤ 1000000 → face_count mesh ≤ 2000000 → side_count mesh ≤ 6000000
    → off_of text ≡ Ok (parts, mesh)

-- The copy lines of the text of an opened mesh name the origins of its copies.
abbrev pub CopiesAreReread : Type 0
CopiesAreReread =
    (parts : OffParts) (mesh : Mesh) (origins : List ℕ) (faces : List (List ℕ)) → WasCut parts mesh origins faces
    → copies_in (text_cut parts origins faces) (length origins) ≡ Ok origins

-- What is sewn of an opened mesh is the mesh that was cut.
abbrev pub OpenedAreSewn : Type 0
OpenedAreSewn =
    (parts : OffParts) (mesh : Mesh) (origins : List ℕ) (faces : List (List ℕ)) → WasCut parts mesh origins faces
    → (sewn_of (opened_parts parts origins).vertex_lines (opened origins faces) origins ≡ Ok mesh)
    × HaveCopies origins mesh.vertices

-- What is sewn has the keyword, the vertex lines, the faces and the colours of the mesh that was
-- cut.
abbrev pub LinesAreSewn : Type 0
LinesAreSewn =
    (parts : OffParts) (mesh : Mesh) (origins : List ℕ) (faces : List (List ℕ)) → WasCut parts mesh origins faces
    → (sewn_lines (opened_parts parts origins).vertex_lines origins mesh.vertices ≡ parts.vertex_lines)
    × (sewn_text (opened_parts parts origins) origins mesh
    ≡ mesh_text parts mesh.faces (edge_count mesh))

-- The text of what is sewn is read, without limits, as the mesh that was cut.
abbrev pub SewnAreReread : Type 0
SewnAreReread =
    (parts : OffParts) (mesh : Mesh) (origins : List ℕ) (faces : List (List ℕ)) → WasCut parts mesh origins faces
    → off_without_limits (sewn_text (opened_parts parts origins) origins mesh) ≡ Ok (parts, mesh)
