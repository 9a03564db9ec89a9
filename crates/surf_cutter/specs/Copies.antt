-- Labels of corners numbered in the order in which a list meets them.
use Rattle.std.specs.Prelude.{◌≡◌, ◌≢◌, ℕ, ◌<◌, ◌≤◌, ◌⊎◌, List, length, slice_index}
use Rattle.surf_surfaces.specs.Mesh.{Mesh}
use Rattle.surf_surfaces.specs.SideNumber.{side_count}
use Rattle.surf_soup.specs.Ring.{BeginsAt}
use Rattle.surf_soup.specs.Vertices.{all_corners}
use Rattle.surf_slit.specs.Labels.{corner_at}
use Rattle.surf_base.specs.Tables.{nobody}

-- the label of the side at a place of a list
abbrev pub label_at : List ℕ → List ℕ → ℕ → ℕ
label_at order labels j = slice_index labels (slice_index order j)

-- one label a side, all of them below a count
pub record AreLabelsBelow (mesh : Mesh) (count : ℕ) (labels : List ℕ) : Type 0 where
  pub all : length labels ≡ side_count mesh
  pub below : (s : ℕ) → s < side_count mesh → slice_index labels s < count

-- some sides all have the label of the first
abbrev pub HaveOneLabel : List ℕ → List ℕ → Type 0
HaveOneLabel sides labels = (k : ℕ) → k < length sides → label_at sides labels k ≡ label_at sides labels 0

-- a place is the first one whose label has the number c: all places before have lesser numbers
pub record IsFirst (order labels tails numbers origins : List ℕ) (c p : ℕ) : Type 0 where
  pub has : slice_index numbers (label_at order labels p) ≡ c
  pub lesser : (j : ℕ) → j < p → slice_index numbers (label_at order labels j) < c
  pub vertex : slice_index origins c ≡ slice_index tails (slice_index order p)

-- The labels of the first n sides of a list are numbered in the order in which they come, and each number has the
-- vertex of its label.
pub record AreCounted (order labels tails : List ℕ) (n : ℕ) (numbers origins : List ℕ) : Type 0 where
  pub few : length origins ≤ n
  pub unset : (l : ℕ) → l < length numbers → ((j : ℕ) → j < n → label_at order labels j ≢ l) →
      slice_index numbers l ≡ nobody
  pub below : (j : ℕ) → j < n → slice_index numbers (label_at order labels j) < length origins
  pub first : (c : ℕ) → c < length origins → (p : ℕ) × (p < n) × IsFirst order labels tails numbers origins c p
  pub apart : (j k : ℕ) → j < n → k < n →
      slice_index numbers (label_at order labels j) ≡ slice_index numbers (label_at order labels k) →
      label_at order labels j ≡ label_at order labels k

-- by vertex, and at one vertex by number
abbrev pub IsBefore : Mesh → ℕ → ℕ → Type 0
IsBefore mesh s t = (corner_at mesh s < corner_at mesh t) ⊎ ((corner_at mesh s ≡ corner_at mesh t) × (s < t))

-- a list of the sides that begin at the first n vertices, by these vertices and at one vertex by number
pub record AreSortedTo (mesh : Mesh) (n : ℕ) (order : List ℕ) : Type 0 where
  pub inside : (i : ℕ) → i < length order → slice_index order i < side_count mesh
  pub below : (i : ℕ) → i < length order → corner_at mesh (slice_index order i) < n
  pub has : (s : ℕ) → s < side_count mesh → corner_at mesh s < n →
      (i : ℕ) × (i < length order) × (slice_index order i ≡ s)
  pub rises : (i j : ℕ) → i < j → j < length order → IsBefore mesh (slice_index order i) (slice_index order j)

-- the sides that begin at a vertex, by number
pub record IsRowAt (mesh : Mesh) (v : ℕ) (row : List ℕ) : Type 0 where
  pub begin : (k : ℕ) → k < length row → BeginsAt mesh v (slice_index row k)
  pub all : (s : ℕ) → BeginsAt mesh v s → (k : ℕ) × (k < length row) × (slice_index row k ≡ s)
  pub rises : (i k : ℕ) → i < k → k < length row → slice_index row i < slice_index row k

-- The labels of the sides that begin at the first n vertices are numbered in the order of the vertices and at one
-- vertex of the sides, and each number has the vertex of its label.
abbrev pub AreNumberedTo : Mesh → ℕ → List ℕ → List ℕ → List ℕ → Type 0
AreNumberedTo mesh n labels numbers origins =
    (order : List ℕ) × AreSortedTo mesh n order
    × AreCounted order labels (all_corners mesh) (length order) numbers origins
