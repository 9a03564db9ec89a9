-- The face of each side, kept by number or in a list.
use Rattle.std.specs.Prelude.{ℕ, ◌*◌, ◌/◌, List, map}
use Rattle.std.specs.List.{range_with_len}
use Rattle.surf_soup.specs.declared.side_faces.FaceTable.{FaceTable}
use Rattle.surf_soup.specs.declared.side_faces.FaceTable.TheVariants.{Triangles, Listed}

-- the face of each side of a number of triangles
abbrev pub thirds : ℕ → List ℕ
thirds count = map (λ s. s / 3) (range_with_len 0 (3 * count))

-- the face of each side, as it is kept
abbrev pub kept_faces : FaceTable → List ℕ
kept_faces (Triangles count) = thirds count
kept_faces (Listed faces) = faces.items
