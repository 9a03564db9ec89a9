-- Sides by their numbers: the sides of all faces one after the other, in the order of faces and corners.
use Rattle.std.specs.Prelude.{◌≡◌, ◌≢◌, ℕ, ◌+◌, ◌<◌, ◌≤◌, List, [], ◌∷◌, ◌++◌, length, get_or, map, replicate, take}
use Rattle.std.specs.List.{sum_by, flat_map, filter, range_with_len}
use Rattle.surf_surfaces.specs.Mesh.{Mesh, sides, pair_of, pair_eq}
use Rattle.surf_surfaces.specs.Surface.{face_count, face_at, edge_count, ends}

-- how many sides all faces have
abbrev pub side_count : Mesh → ℕ
side_count mesh = sum_by length mesh.faces

-- the unordered pairs of all sides
abbrev pub side_pairs : List (List ℕ) → List (ℕ × ℕ)
side_pairs faces = map pair_of (flat_map sides faces)

-- the pair of a side
abbrev pub pair_at : Mesh → ℕ → ℕ × ℕ
pair_at mesh s = get_or (side_pairs mesh.faces) s (0, 0)

-- the face of each side, where faces are numbered from n
abbrev pub owners : ℕ → List (List ℕ) → List ℕ
owners n [] = []
owners n (face ∷ rest) = replicate (length face) n ++ owners (n + 1) rest

-- the sides that run a pair, in order
abbrev pub sides_with : Mesh → ℕ × ℕ → List ℕ
sides_with mesh p = filter (λ s. pair_eq p (pair_at mesh s)) (range_with_len 0 (side_count mesh))

-- the number of a face's first side
abbrev pub first_side : Mesh → ℕ → ℕ
first_side mesh f = sum_by length (take f mesh.faces)

-- side s is one of face f
pub record IsFaceOf (mesh : Mesh) (s f : ℕ) : Type 0 where
  pub is_face : f < face_count mesh
  pub from : first_side mesh f ≤ s
  pub upto : s < first_side mesh f + length (face_at mesh f)

-- side s is edge e
pub record IsEdgeOf (mesh : Mesh) (s e : ℕ) : Type 0 where
  pub is_edge : e < edge_count mesh
  pub its_ends : ends mesh e ≡ pair_at mesh s

-- side t is another side of the same edge
pub record IsMate (mesh : Mesh) (s t : ℕ) : Type 0 where
  pub is_side : t < side_count mesh
  pub other : t ≢ s
  pub same_edge : pair_at mesh t ≡ pair_at mesh s
