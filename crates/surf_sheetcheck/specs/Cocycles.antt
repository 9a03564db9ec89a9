-- The cocycles that a certificate says, each edge with the set of those that it is in.
use Rattle.std.specs.Prelude.{◌-◌, ◌^◌, ℕ, List, [], map, slice_index_or, Contains}
use Rattle.surf_z2.specs.Space.{Chain, numbers, sum_of}
use Rattle.surf_z2.specs.Sieve.{has}
use Rattle.surf_surfaces.specs.Mesh.{Mesh, pair_of, edges, steps, sides}
use Rattle.surf_surfaces.specs.Surface.{ends, face_at}
use Rattle.surf_surfaces.specs.Walk.{edge_number, place_of}
use Rattle.surf_sheets.specs.Rows.{SheetCert}

-- the pair at a place of the list of edges
abbrev pub pair_at : SheetCert → ℕ → ℕ × ℕ
pair_at cert j = slice_index_or cert.edges j (0, 0)

-- it is an edge
abbrev pub IsPairEdge : Mesh → SheetCert → ℕ → Type 0
IsPairEdge mesh cert j = Contains (edges mesh) (pair_of (pair_at cert j))

-- the numbers at a place of the list of edges
abbrev pub row_at : SheetCert → ℕ → List ℕ
row_at cert j = slice_index_or cert.numbers j []

-- the numbers of the cocycles that an edge is in: those that are listed with its ends, or none
abbrev pub numbers_of : Mesh → SheetCert → ℕ → List ℕ
numbers_of mesh cert e = row_at cert (place_of (ends mesh e) cert.edges)

-- The set of numbers that count from 1, as one number: bit i is that of the number i + 1. A number that is there twice
-- isn't in it.
abbrev pub set_of : List ℕ → ℕ
set_of row = sum_of numbers (map (λ i. 2 ^ (i - 1)) row)

-- the set of the cocycles that an edge is in
abbrev pub edge_set : Mesh → SheetCert → ℕ → ℕ
edge_set mesh cert e = set_of (numbers_of mesh cert e)

-- the cocycle with a number, which counts from 0 here
abbrev pub cocycle : Mesh → SheetCert → ℕ → Chain
cocycle mesh cert i e = has (edge_set mesh cert e) i

-- the set of the cocycles that an odd number of steps are in
abbrev pub steps_set : Mesh → SheetCert → List (ℕ × ℕ) → ℕ
steps_set mesh cert list = sum_of numbers (map (λ s. edge_set mesh cert (edge_number mesh s)) list)

-- the set of the cocycles that a walk is odd on
abbrev pub walk_set : Mesh → SheetCert → List ℕ → ℕ
walk_set mesh cert walk = steps_set mesh cert (steps walk)

-- the set of the cocycles that have an odd number of the sides of a face
abbrev pub face_set : Mesh → SheetCert → ℕ → ℕ
face_set mesh cert f = steps_set mesh cert (sides (face_at mesh f))
