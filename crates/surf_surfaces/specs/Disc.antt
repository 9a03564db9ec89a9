-- Discs, and the openings of a surface.
use Rattle.std.specs.Prelude.{◌≡◌, ℕ, ◌+◌, ◌<◌, ◌≤◌, List, [], length, map, Contains, ◌⊎◌, slice_index, slice_index_or}
use Rattle.surf_surfaces.specs.Joined.{Joined}
use Rattle.surf_surfaces.specs.Mesh.{Mesh, IsMesh}
use Rattle.surf_surfaces.specs.Surface.{face_count, edge_count, face_at, ends, faces_with, HasCorner, HasOneFan}
use Rattle.surf_surfaces.specs.Surface.{IsConnected}

-- an edge that is a side of exactly one face
abbrev pub IsBorderEdge : Mesh → ℕ → Type 0
IsBorderEdge mesh e = (e < edge_count mesh) × (length (faces_with mesh (ends mesh e)) ≡ 1)

-- the two edges have an end in common
abbrev pub ShareEnd : Mesh → ℕ → ℕ → Type 0
ShareEnd mesh e h = (v : ℕ) × ((v ≡ (ends mesh e).0) ⊎ (v ≡ (ends mesh e).1))
    × ((v ≡ (ends mesh h).0) ⊎ (v ≡ (ends mesh h).1))

-- two border edges that share a vertex
abbrev pub ShareOnBorder : Mesh → ℕ → ℕ → Type 0
ShareOnBorder mesh e h = IsBorderEdge mesh e × IsBorderEdge mesh h × ShareEnd mesh e h

-- a disc: one or two faces at each edge, one fan of faces at each vertex, all faces connected, one border, and χ is 1
pub record IsDisc (mesh : Mesh) : Type 0 where
  pub is_mesh : IsMesh mesh
  pub one_or_two : (e : ℕ) → e < edge_count mesh → length (faces_with mesh (ends mesh e)) ≤ 2
  pub no_isolated : (v : ℕ) → v < mesh.vertices → (f : ℕ) × HasCorner mesh f v
  pub one_fan : (v : ℕ) → v < mesh.vertices → HasOneFan mesh v
  pub connected : IsConnected mesh
  pub some_border : (e : ℕ) × IsBorderEdge mesh e
  pub one_border : (e h : ℕ) → IsBorderEdge mesh e → IsBorderEdge mesh h → Joined (ShareOnBorder mesh) e h
  pub characteristic_one : mesh.vertices + face_count mesh ≡ edge_count mesh + 1

-- the faces of the surface over copies of its vertices, with the vertex of each copy, that make up a disc
pub record IsOpening (mesh : Mesh) (origins : List ℕ) (faces : List (List ℕ)) : Type 0 where
  pub same_faces : length faces ≡ face_count mesh
  pub same_corners : (f : ℕ) → f < face_count mesh →
      map (λ copy. slice_index origins copy) (slice_index_or faces f []) ≡ face_at mesh f
  pub every_vertex : (v : ℕ) → v < mesh.vertices → Contains origins v
  pub is_disc : IsDisc (record { vertices = length origins; faces = faces })
