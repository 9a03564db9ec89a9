-- The edges of cocycles and the sheets of a certificate by single vertices.
use Rattle.std.specs.Prelude.{◌≡◌, ◌≢◌, ℕ, zero, suc, ◌<◌, ◌≤◌, ◌^◌, bit_xor, true, if◌then◌else◌, List, [], ◌∷◌, ◌++◌, length, AllPairs}
use Rattle.std.specs.Prelude.{slice_index, slice_index_or}
use Rattle.surf_z2.specs.Sieve.{has}
use Rattle.surf_surfaces.specs.Mesh.{Mesh, pair_lt}
use Rattle.surf_surfaces.specs.Surface.{edge_count, face_count, ends}
use Rattle.surf_sheets.specs.Rows.{SheetRow, SheetCert}
use Rattle.surf_sheetcheck.specs.Parts.{no_row}
use Rattle.surf_paired.specs.Paired.{image, ArePairedRows}
use Rattle.surf_sheetfind.specs.Pairs.{classes_of}

-- the image of an edge's set, and the labels of its ends
abbrev pub edge_image : Mesh → (rows signatures labels : List ℕ) → ℕ → ℕ
edge_image mesh rows signatures labels e = bit_xor (image rows (slice_index signatures e))
    (bit_xor (slice_index labels (ends mesh e).0) (slice_index labels (ends mesh e).1))

-- the numbers below n that a set has, counted from 1
abbrev pub numbers_below : ℕ → ℕ → List ℕ
numbers_below set zero = []
numbers_below set (suc n) = if has set n then numbers_below set n ++ suc n ∷ [] else numbers_below set n

-- a pair stands for an edge, whose set isn't empty, and a row has the numbers below k of the set
pub record IsEdgeRow (mesh : Mesh) (sets : ℕ → ℕ) (k n : ℕ) (pair : ℕ × ℕ) (row : List ℕ) : Type 0 where
  pub edge : ℕ
  pub below : edge < n
  pub its_ends : pair ≡ ends mesh edge
  pub some : sets edge ≢ 0
  pub row_is : row ≡ numbers_below (sets edge) k

-- a pair of a list stands for an edge
abbrev pub IsListed : Mesh → List (ℕ × ℕ) → ℕ → Type 0
IsListed mesh edges e = (j : ℕ) × (j < length edges) × (slice_index_or edges j (0, 0) ≡ ends mesh e)

-- those of the first n edges whose sets aren't empty, in order, each with the numbers below k of its set
pub record AreEdgeRows (mesh : Mesh) (sets : ℕ → ℕ) (k n : ℕ) (edges : List (ℕ × ℕ)) (numbers : List (List ℕ)) : Type 0 where
  pub as_many : length numbers ≡ length edges
  pub few : length edges ≤ n
  pub each : (j : ℕ) → j < length edges →
      IsEdgeRow mesh sets k n (slice_index_or edges j (0, 0)) (slice_index_or numbers j [])
  pub there : (e : ℕ) → e < n → sets e ≢ 0 → IsListed mesh edges e
  pub rises : AllPairs (λ p q. pair_lt p q ≡ true) edges

-- a sheet over a vertex for the first k numbers
abbrev pub vertex_row : ℕ → ℕ → SheetRow
vertex_row k x = record { from = 0; to = k; walk = 0; first = x; last = x; margin = 0 }

-- it is one of some sheets
abbrev pub HasRow : ℕ → List SheetRow → ℕ → Type 0
HasRow k sheets x = (s : ℕ) × (s < length sheets) × (slice_index_or sheets s no_row ≡ vertex_row k x)

-- each sheet is one over the first vertex of one of the first n pairs, and each of these has one; there are no more
-- sheets than pairs
pub record AreVertexRows (k : ℕ) (pairs : List (ℕ × ℕ)) (n : ℕ) (sheets : List SheetRow) : Type 0 where
  pub few : length sheets ≤ n
  pub each : (s : ℕ) → s < length sheets → (j : ℕ) × (j < n)
      × (slice_index_or sheets s no_row ≡ vertex_row k (slice_index_or pairs j (0, 0)).0)
  pub there : (j : ℕ) → j < n → HasRow k sheets (slice_index_or pairs j (0, 0)).0

-- a certificate by rows that are paired with its walks, any labels of vertices, and single vertices
pub record IsVertexCert (mesh : Mesh) (signatures : List ℕ) (cert : SheetCert) : Type 0 where
  pub vertices : cert.vertices ≡ mesh.vertices
  pub faces : cert.faces ≡ face_count mesh
  pub rows : List ℕ
  pub as_many : length rows ≡ length cert.cycles
  pub paired : ArePairedRows (classes_of mesh signatures cert.cycles) rows (length cert.cycles)
  pub labels : List ℕ
  pub labels_small : (v : ℕ) → v < mesh.vertices → slice_index labels v < 2 ^ length rows
  pub edges : AreEdgeRows mesh (edge_image mesh rows signatures labels) (length cert.cycles) (edge_count mesh) cert.edges
      cert.numbers
  pub sheets : AreVertexRows (length cert.cycles) cert.edges (length cert.edges) cert.sheets
