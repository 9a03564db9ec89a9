-- Closed surfaces: where a mesh is one, and its orientations.
use Rattle.std.specs.Prelude.{◌≡◌, ℕ, ◌+◌, ◌-◌, ◌<◌, ◌==◌, Bool, true, ◌||◌, not, if◌then◌else◌, List, [], ◌∷◌}
use Rattle.std.specs.Prelude.{length, Contains, slice_index, slice_index_or}
use Rattle.std.specs.List.{list_any}
use Rattle.surf_surfaces.specs.Joined.{Joined}
use Rattle.surf_surfaces.specs.Mesh.{Mesh, IsMesh, sides, pair, pair_of, pair_eq, edges}

-- how many faces
abbrev pub face_count : Mesh → ℕ
face_count mesh = length mesh.faces

-- how many edges
abbrev pub edge_count : Mesh → ℕ
edge_count mesh = length (edges mesh)

-- the corners of the f-th face
abbrev pub face_at : Mesh → ℕ → List ℕ
face_at mesh f = slice_index_or mesh.faces f []

-- the ends of the e-th edge, lesser end first
abbrev pub ends : Mesh → ℕ → ℕ × ℕ
ends mesh e = slice_index_or (edges mesh) e (0, 0)

-- whether the unordered pair is a side of the face
abbrev pub has_side : ℕ × ℕ → List ℕ → Bool
has_side p face = list_any (λ s. pair_eq p (pair_of s)) (sides face)

-- whether the vertex is an end of the pair
abbrev pub touches : ℕ → ℕ × ℕ → Bool
touches v p = (p.0 == v) || (p.1 == v)

-- whether the face runs from u to v in its listed order
abbrev pub runs : ℕ × ℕ → List ℕ → Bool
runs p face = list_any (pair_eq p) (sides face)

-- the places, from n on, of the faces with that side
abbrev pub places_from : ℕ → ℕ × ℕ → List (List ℕ) → List ℕ
places_from n p [] = []
places_from n p (face ∷ rest) =
    if has_side p face then n ∷ places_from (n + 1) p rest else places_from (n + 1) p rest

-- the faces of which the pair is a side, in order
abbrev pub faces_with : Mesh → ℕ × ℕ → List ℕ
faces_with mesh p = places_from 0 p mesh.faces

-- the two faces of the e-th edge, lesser face first
abbrev pub faces_of : Mesh → ℕ → ℕ × ℕ
faces_of mesh e = (
  slice_index (faces_with mesh (ends mesh e)) 0,
  slice_index (faces_with mesh (ends mesh e)) 1,
)

-- whether the face is one of the two of the e-th edge
abbrev pub borders : Mesh → ℕ → ℕ → Bool
borders mesh f e = (f == (faces_of mesh e).0) || (f == (faces_of mesh e).1)

-- the face has the corner
abbrev pub HasCorner : Mesh → ℕ → ℕ → Type 0
HasCorner mesh f v = (f < face_count mesh) × Contains (face_at mesh f) v

-- the face has the pair as a side
abbrev pub HasEdge : Mesh → ℕ → ℕ × ℕ → Type 0
HasEdge mesh f p = (f < face_count mesh) × (has_side p (face_at mesh f) ≡ true)

-- both faces have an edge at the vertex
abbrev pub ShareAt : Mesh → ℕ → ℕ → ℕ → Type 0
ShareAt mesh v f g = (w : ℕ) × HasEdge mesh f (pair v w) × HasEdge mesh g (pair v w)

-- both faces have an edge
abbrev pub Share : Mesh → ℕ → ℕ → Type 0
Share mesh f g = (p : ℕ × ℕ) × HasEdge mesh f p × HasEdge mesh g p

-- any two faces at each vertex are joined by a chain of faces there, neighbours sharing an edge there
abbrev pub HasOneFan : Mesh → ℕ → Type 0
HasOneFan mesh v = (f g : ℕ) → HasCorner mesh f v → HasCorner mesh g v → Joined (ShareAt mesh v) f g

-- any two faces are joined by a chain of faces, neighbours sharing an edge
abbrev pub IsConnected : Mesh → Type 0
IsConnected mesh = (f g : ℕ) → f < face_count mesh → g < face_count mesh → Joined (Share mesh) f g

-- a closed connected surface, one-sided or two-sided
pub record IsSurface (mesh : Mesh) : Type 0 where
  pub is_mesh : IsMesh mesh
  pub some_face : 0 < face_count mesh
  pub two_faces : (e : ℕ) → e < edge_count mesh → length (faces_with mesh (ends mesh e)) ≡ 2
  pub no_isolated : (v : ℕ) → v < mesh.vertices → (f : ℕ) × HasCorner mesh f v
  pub one_fan : (v : ℕ) → v < mesh.vertices → HasOneFan mesh v
  pub connected : IsConnected mesh

-- the face, run in its listed order or in the reverse order by its flag, runs from u to v
abbrev pub runs_turned : (ℕ → Bool) → Mesh → ℕ → ℕ × ℕ → Bool
runs_turned turned mesh f p = if turned f then runs (p.1, p.0) (face_at mesh f) else runs p (face_at mesh f)

-- a flag for each face, by which the two faces of each edge run it in opposite ways
abbrev pub IsOrientation : Mesh → (ℕ → Bool) → Type 0
IsOrientation mesh turned =
    (e : ℕ) → e < edge_count mesh →
    runs_turned turned mesh (faces_of mesh e).0 (ends mesh e)
    ≡ not (runs_turned turned mesh (faces_of mesh e).1 (ends mesh e))

-- the surface has a turning
abbrev pub IsOrientable : Mesh → Type 0
IsOrientable mesh = (turned : ℕ → Bool) × IsOrientation mesh turned

-- how many independent loops a surface has: two less its characteristic
abbrev pub loop_count : Mesh → ℕ
loop_count mesh = edge_count mesh + 2 - (mesh.vertices + face_count mesh)
