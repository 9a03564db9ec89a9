-- What the checker's tables hold.
use Rattle.std.specs.Prelude.{◌≡◌, ◌≢◌, ℕ, ◌<◌, ◌≤◌, ◌^◌, ◌==◌, ◌&&◌, nat_le, nat_lt, Bool, true, false, if◌then◌else◌, not}
use Rattle.std.specs.Prelude.{List, [], length, map, get_or, All, Contains, Option, Some, None, unwrap_or}
use Rattle.std.specs.Prelude.{MatchOption, ◌⊎◌, bit_xor}
use Rattle.surf_z2.specs.Sieve.{has}
use Rattle.surf_signatures.specs.Tables.{Signed}
use Rattle.surf_base.specs.Tables.{at, nobody}
use Rattle.surf_surfaces.specs.Mesh.{Mesh, steps, pair_of, edges}
use Rattle.surf_surfaces.specs.Surface.{edge_count, ends}
use Rattle.surf_treecheck.specs.First.{HoldsBelow, FailsFirst}
use Rattle.surf_sheetcheck.specs.Fits.{SheetCertFits}
use Rattle.surf_sheets.specs.Rows.{SheetCert}
use Rattle.surf_sheetcheck.specs.Cocycles.{pair_at, set_of, edge_set}
use Rattle.surf_sheetcheck.specs.Rule.{IsParent, place_on, label_on}
use Rattle.surf_sheetcheck.specs.Searches.{far, AreSettled}
use Rattle.surf_heap.specs.Entries.{Entries, entry_of}
use Rattle.surf_graphs.specs.Cells.{primal}
use Rattle.surf_surfaces.specs.Cells.{cells_of}
use Rattle.surf_surfaces.specs.Walk.{edge_length}
use Rattle.surf_sheetcheck.specs.Parts.{size_at, part_of, limit_of}
use Rattle.surf_sheetcheck.specs.Valid.{IsCycleClosed, IsNoShorter, IsLongAt}
use Rattle.surf_sheetcheck.specs.declared.cases.SheetCase.{SheetCase}
use Rattle.surf_sheetcheck.specs.declared.cases.Task.{Task}

-- the greatest of the numbers from one up to another, without that, that a set has, or none
abbrev pub IsLastIn : ℕ → ℕ → ℕ → Option ℕ → Type 0
IsLastIn set from to found = MatchOption found
    ((i : ℕ) → from ≤ i → i < to → has set i ≡ false)
    (λ i. (from ≤ i) × (i < to) × (has set i ≡ true) × ((j : ℕ) → i < j → j < to → has set j ≡ false))

-- the length of each cycle
pub record AreSizes (mesh : Mesh) (lengths : List ℕ) (cert : SheetCert) (sizes : List ℕ) : Type 0 where
  pub count : length sizes ≡ length cert.cycles
  pub each : (k : ℕ) → k < length cert.cycles → at sizes k ≡ size_at mesh lengths cert k
  pub small : (k : ℕ) → k < length cert.cycles → at sizes k < 2 ^ 96

-- the place of a pair in the list of edges, or that it isn't there
pub record IsSlot (cert : SheetCert) (n : ℕ) (p : ℕ × ℕ) (slot : ℕ) : Type 0 where
  pub none : slot ≡ nobody → (j : ℕ) → j < n → pair_at cert j ≢ p
  pub some : slot ≢ nobody → (slot < n) × (pair_at cert slot ≡ p)

-- each edge has the place of its ends among the first n pairs
pub record AreSlots (mesh : Mesh) (cert : SheetCert) (n : ℕ) (slots : List ℕ) : Type 0 where
  pub count : length slots ≡ edge_count mesh
  pub each : (e : ℕ) → e < edge_count mesh → IsSlot cert n (ends mesh e) (at slots e)

-- the sets of all rows of numbers
pub record AreRowSets (cert : SheetCert) (rows : Signed) : Type 0 where
  pub width : rows.width ≡ length cert.cycles
  pub sets : rows.sets ≡ map set_of cert.numbers

-- the walks of the certificate are right, and so are the tables
pub record IsReady (c : SheetCase) : Type 0 where
  pub measured : length c.lengths.now ≡ edge_count c.mesh.now
  pub few : length c.cert.now.cycles ≤ 1024
  pub fits : SheetCertFits c.cert.now
  pub closed : HoldsBelow (length c.cert.now.cycles) (IsCycleClosed c.mesh.now c.cert.now)
  pub by_length : HoldsBelow (length c.cert.now.cycles) (IsNoShorter c.mesh.now c.lengths.now c.cert.now)
  pub sizes : AreSizes c.mesh.now c.lengths.now c.cert.now c.sizes.items
  pub slots : AreSlots c.mesh.now c.cert.now (length c.cert.now.edges) c.slots.items
  pub sets : AreRowSets c.cert.now c.sets

-- the part and the limit of a sheet that has its form
pub record IsTask (c : SheetCase) (t : Task) : Type 0 where
  pub part : t.part.items ≡ part_of c.cert.now t.row.now
  pub limit : t.limit ≡ limit_of c.mesh.now c.lengths.now c.cert.now t.row.now
  pub some : t.row.now.from < t.row.now.to
  pub numbered : t.row.now.to ≤ length c.cert.now.cycles
  pub positive : t.row.now.margin < t.limit
  pub small : t.limit < 2 ^ 96
  pub begins : 0 < length t.part.items
  pub inside : All (λ v. v < c.mesh.now.vertices) t.part.items
  pub along : All (λ s. Contains (edges c.mesh.now) (pair_of s)) (steps t.part.items)

-- the label of a vertex in a table: the empty set where it has none
abbrev pub label_in : List (Option ℕ) → ℕ → ℕ
label_in labels v = unwrap_or (get_or labels v None) 0

-- whether a number is from one up to another, without that
abbrev pub is_within : ℕ → ℕ → ℕ → Bool
is_within from to i = nat_le from i && nat_lt i to

-- a set without the numbers from one up to another
abbrev pub IsCleared : ℕ → ℕ → ℕ → ℕ → Type 0
IsCleared from to old new = (i : ℕ) → has new i ≡ (has old i && not (is_within from to i))

-- the distance that a table tells of a vertex, or the limit where it tells none
abbrev pub distance_in : ℕ → List ℕ → ℕ → ℕ
distance_in limit dist v = if at dist v == far then limit else at dist v

-- the vertices whose first place on a part is before the place n have their labels, and no others
pub record ArePartLabels (mesh : Mesh) (cert : SheetCert) (part : List ℕ) (n : ℕ) (labels : List (Option ℕ)) : Type 0 where
  pub room : length labels ≡ mesh.vertices
  pub there : (v : ℕ) → v < mesh.vertices → place_on part v < n → get_or labels v None ≡ Some (label_on mesh cert part v)
  pub none : (v : ℕ) → v < mesh.vertices → n ≤ place_on part v → get_or labels v None ≡ None

-- a vertex has the label of its parent and the edge to it
abbrev pub IsLabelled : Mesh → List ℕ → SheetCert → (ℕ → ℕ) → List (Option ℕ) → ℕ → Type 0
IsLabelled mesh lengths cert distance labels v =
    (u : ℕ) × (e : ℕ) × IsParent mesh lengths distance v u e × (get_or labels u None ≢ None)
    × (get_or labels v None ≡ Some (bit_xor (label_in labels u) (edge_set mesh cert e)))

-- the vertices of the part and those that are listed before the place n have their labels
pub record AreLabelsUpTo (mesh : Mesh) (lengths : List ℕ) (cert : SheetCert) (part : List ℕ) (limit : ℕ)
    (dist order : List ℕ) (n : ℕ) (labels : List (Option ℕ)) : Type 0 where
  pub room : length labels ≡ mesh.vertices
  pub on_part : (v : ℕ) → Contains part v → get_or labels v None ≡ Some (label_on mesh cert part v)
  pub others : (v : ℕ) → v < mesh.vertices → (Contains part v → ⊥) →
      (get_or labels v None ≡ None) ⊎ IsLabelled mesh lengths cert (distance_in limit dist) labels v
  pub listed : (i : ℕ) → i < n → get_or labels (at order i) None ≢ None
  pub only : (v : ℕ) → v < mesh.vertices → get_or labels v None ≢ None → at dist v ≢ far

-- what a search leaves in the tables
pub record IsSearched (c : SheetCase) (t : Task) (dist : List ℕ) (labels : List (Option ℕ)) (order : List ℕ) : Type 0 where
  pub room : length dist ≡ c.mesh.now.vertices
  pub settled : AreSettled (primal (cells_of c.mesh.now)) (edge_length c.lengths.now) t.part.items t.limit dist order
  pub labelled : AreLabelsUpTo c.mesh.now c.lengths.now c.cert.now t.part.items t.limit dist order (length order) labels

-- the sheet holds at an edge, by the tables
abbrev pub IsLongIn : SheetCase → Task → List ℕ → List (Option ℕ) → ℕ → Type 0
IsLongIn c t dist labels e =
    IsLongAt c.mesh.now c.lengths.now c.cert.now t.row.now (distance_in t.limit dist) (label_in labels) e

-- no edge yet, or one at which a sheet doesn't hold
abbrev pub IsShortSoFar : ℕ → (ℕ → Type 0) → ℕ → Type 0
IsShortSoFar n P least = least ≢ nobody → (least < n) × (P least → ⊥)

-- the least of the edges up to some one at which a sheet doesn't hold, or nobody
pub record IsLeastShort (n : ℕ) (P : ℕ → Type 0) (least : ℕ) : Type 0 where
  pub none : least ≡ nobody → HoldsBelow n P
  pub first : least ≢ nobody → FailsFirst n P least

-- no search came to any vertex
pub record IsFresh (mesh : Mesh) (dist : List ℕ) (labels : List (Option ℕ)) (heap : Entries) (order : List ℕ) : Type 0 where
  pub distances : length dist ≡ mesh.vertices
  pub free : (v : ℕ) → v < mesh.vertices → at dist v ≡ far
  pub room : length labels ≡ mesh.vertices
  pub none : (v : ℕ) → v < mesh.vertices → get_or labels v None ≡ None
  pub places : length heap ≡ mesh.vertices
  pub empty : (v : ℕ) → entry_of heap v ≡ None
  pub unlisted : order ≡ []
