-- Labels of the corners of a surface that is cut along some of its edges.
use Rattle.std.specs.Prelude.{◌≡◌, ℕ, ◌+◌, ◌<◌, ◌≤◌, ◌↔◌, List, Bool, false, length, slice_index, slice_index_or}
use Rattle.surf_surfaces.specs.Joined.{Joined}
use Rattle.surf_surfaces.specs.Mesh.{Mesh, pair}
use Rattle.surf_surfaces.specs.Surface.{edge_count, ends}
use Rattle.surf_opening.specs.Opening.{ShareUncutAt}
use Rattle.surf_surfaces.specs.SideNumber.{side_count, IsFaceOf}
use Rattle.surf_soup.specs.Ring.{BeginsAt}
use Rattle.surf_soup.specs.Vertices.{all_corners}

-- the corner at which a side begins
abbrev pub corner_at : Mesh → ℕ → ℕ
corner_at mesh s = slice_index (all_corners mesh) s

-- an edge that the flags leave uncut
abbrev pub IsUncut : Mesh → List Bool → ℕ → ℕ → Type 0
IsUncut mesh cut v w = (e : ℕ) × (e < edge_count mesh) × (ends mesh e ≡ pair v w) × (slice_index_or cut e false ≡ false)

-- At a vertex, two corners have one label exactly where a chain of faces there, neighbours sharing an uncut edge
-- there, joins their faces.
abbrev pub AgreeAt : Mesh → List Bool → List ℕ → ℕ → Type 0
AgreeAt mesh cut labels v =
    (s t f g : ℕ) → BeginsAt mesh v s → BeginsAt mesh v t → IsFaceOf mesh s f → IsFaceOf mesh t g →
    (slice_index labels s ≡ slice_index labels t) ↔ Joined (ShareUncutAt mesh (IsUncut mesh cut) v) f g

-- Labels by side, for the corners at which they begin: all below a count, each number below it in use, and none at
-- two vertices.
pub record AreNumbers (mesh : Mesh) (labels : List ℕ) (count : ℕ) : Type 0 where
  pub size : length labels ≡ side_count mesh
  pub below : (s : ℕ) → s < side_count mesh → slice_index labels s < count
  pub used : (l : ℕ) → l < count → (s : ℕ) × (s < side_count mesh) × (slice_index labels s ≡ l)
  pub one_vertex : (s t : ℕ) → s < side_count mesh → t < side_count mesh →
      slice_index labels s ≡ slice_index labels t → corner_at mesh s ≡ corner_at mesh t

-- Labels by side of a surface that is cut along the edges with a flag. Two corners have one label exactly where they
-- are at one vertex and a chain of faces there, neighbours sharing an uncut edge there, joins their faces.
pub record AreLabels (mesh : Mesh) (cut : List Bool) (labels : List ℕ) (count : ℕ) : Type 0 where
  pub size : length labels ≡ side_count mesh
  pub below : (s : ℕ) → s < side_count mesh → slice_index labels s < count
  pub used : (l : ℕ) → l < count → (s : ℕ) × (s < side_count mesh) × (slice_index labels s ≡ l)
  pub agree : (s t f g : ℕ) → IsFaceOf mesh s f → IsFaceOf mesh t g →
      (slice_index labels s ≡ slice_index labels t) ↔
      ((corner_at mesh s ≡ corner_at mesh t) × Joined (ShareUncutAt mesh (IsUncut mesh cut) (corner_at mesh s)) f g)

-- the corners at a vertex have so many labels from a first one on, and these agree
pub record IsLabelledAt (mesh : Mesh) (cut : List Bool) (labels : List ℕ) (v first count : ℕ) : Type 0 where
  pub from : (s : ℕ) → BeginsAt mesh v s → first ≤ slice_index labels s
  pub upto : (s : ℕ) → BeginsAt mesh v s → slice_index labels s < first + count
  pub used : (l : ℕ) → l < count → (s : ℕ) × BeginsAt mesh v s × (slice_index labels s ≡ first + l)
  pub agree : AgreeAt mesh cut labels v
