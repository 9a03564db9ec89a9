-- Faces over copies in one table, by the places where they begin.
use Rattle.std.specs.Prelude.{◌≡◌, ℕ, ◌+◌, ◌<◌, ◌≤◌, List, [], length, drop, slice_index, slice_index_or}
use Rattle.surf_rows.specs.Rows.{cut, AreEnds}
use Rattle.surf_surfaces.specs.Mesh.{Mesh}
use Rattle.surf_surfaces.specs.Surface.{face_count, face_at}
use Rattle.surf_surfaces.specs.SideNumber.{first_side}

-- the places where rows begin and where the last one ends
pub record AreBounds (starts : List ℕ) (total : ℕ) : Type 0 where
  pub some : 0 < length starts
  pub first : slice_index starts 0 ≡ 0
  pub ends : AreEnds 0 (drop 1 starts) total

-- the rows of a table by these places
abbrev pub rows_from : List ℕ → List ℕ → List (List ℕ)
rows_from starts items = cut 0 (drop 1 starts) items

-- the places where the first n faces of a surface begin and where the last of them ends
pub record AreStartsTo (mesh : Mesh) (n : ℕ) (starts : List ℕ) : Type 0 where
  pub bounds : AreBounds starts (first_side mesh n)
  pub size : length starts ≡ n + 1
  pub at : (f : ℕ) → f < n + 1 → slice_index starts f ≡ first_side mesh f

-- The faces have as many corners as those of a surface, and these are the things of a table by side.
pub record AreRowsOf (mesh : Mesh) (items : List ℕ) (faces : List (List ℕ)) : Type 0 where
  pub size : length faces ≡ face_count mesh
  pub row_sizes : (f : ℕ) → f < face_count mesh → length (slice_index_or faces f []) ≡ length (face_at mesh f)
  pub entries : (f k : ℕ) → f < face_count mesh → k < length (face_at mesh f) →
      slice_index (slice_index_or faces f []) k ≡ slice_index items (first_side mesh f + k)

-- Each label of the first n sides has been replaced by its number, and the others are still there.
pub record AreRenumberedTo (labels numbers : List ℕ) (n : ℕ) (corners : List ℕ) : Type 0 where
  pub done : (s : ℕ) → s < n → slice_index corners s ≡ slice_index numbers (slice_index labels s)
  pub to_come : (s : ℕ) → n ≤ s → slice_index corners s ≡ slice_index labels s
