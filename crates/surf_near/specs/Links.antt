-- The links of the vertices of a mesh, with the lengths of its edges, and vertices that are barred.
use Rattle.std.specs.Prelude.{◌≡◌, ℕ, ◌<◌, ◌≤◌, ◌^◌, ◌⊎◌, Bool, true, false, ◌||◌, if◌then◌else◌, List, [], length, map}
use Rattle.std.specs.Prelude.{Option, slice_index, slice_index_or}
use Rattle.std.specs.List.{range_with_len}
use Rattle.surf_z2.specs.Parity.{count_below}
use Rattle.surf_graphs.specs.Graphs.{Graph}
use Rattle.surf_graphs.specs.Cells.{primal}
use Rattle.surf_surfaces.specs.Mesh.{Mesh}
use Rattle.surf_surfaces.specs.Surface.{edge_count, ends, touches, IsSurface}
use Rattle.surf_surfaces.specs.Walk.{edge_length}
use Rattle.surf_surfaces.specs.Cells.{cells_of}
use Rattle.surf_surfaces.specs.SideNumber.{side_count}
use Rattle.surf_lengths.specs.Lengths.{AreLengths, longest}
use Rattle.surf_mesh.specs.Links.{IsRow}
use Rattle.surf_buckets.specs.declared.TheConstants.{BUCKETS}
use Rattle.surf_tree.specs.Queues.{AreUpTo, IsEvenness}
use Rattle.surf_near.specs.declared.links.Link.{Link}
use Rattle.surf_near.specs.declared.sizes.Sizes.{Sizes}

-- a mesh with its lengths, the links of each vertex, and the lengths before any vertex was barred
pub record LinkTables : Type 0 where
  pub mesh : Mesh
  pub lengths : List ℕ
  pub rows : List (List Link)
  pub given : List ℕ

-- the graph of the vertices and edges, and the length of each edge
abbrev pub graph_of : LinkTables → Graph
graph_of t = primal (cells_of t.mesh)

abbrev pub weight_of : LinkTables → ℕ → ℕ
weight_of t = edge_length t.lengths

-- the neighbour and the edge
abbrev pub ends_of : Link → ℕ × ℕ
ends_of link = (link.to, link.edge)

abbrev pub link_in : List Link → ℕ → Link
link_in links k = slice_index_or links k (record { to = 0; length = 0; edge = 0 })

-- The links of a vertex: one for each edge there, with its other end. A link has the length of its edge, unless this
-- edge is barred.
pub record AreLinksAt (mesh : Mesh) (lengths : List ℕ) (v : ℕ) (links : List Link) : Type 0 where
  pub row : IsRow (primal (cells_of mesh)) v (map ends_of links)
  pub measured : (k : ℕ) → k < length links →
      (edge_length lengths (link_in links k).edge ≡ (link_in links k).length)
      ⊎ (edge_length lengths (link_in links k).edge ≡ longest)

-- how many edges there are at a vertex
abbrev pub degree : Mesh → ℕ → ℕ
degree mesh v = count_below (edge_count mesh) (λ e. touches v (ends mesh e))

-- a row of links for each vertex of a surface whose edges have lengths
pub record AreLinks (mesh : Mesh) (lengths : List ℕ) (rows : List (List Link)) : Type 0 where
  pub surface : IsSurface mesh
  pub few : side_count mesh < 2 ^ 30
  pub are_lengths : AreLengths lengths
  pub as_many : length lengths ≡ edge_count mesh
  pub count : length rows ≡ mesh.vertices
  pub at : (v : ℕ) → v < mesh.vertices → AreLinksAt mesh lengths v (slice_index_or rows v [])

-- Lengths with bars: an edge is barred where one of its ends is, and then it has the greatest length that there is.

abbrev pub is_barred : Mesh → List Bool → ℕ → Bool
is_barred mesh barred e =
    slice_index_or barred (ends mesh e).0 false || slice_index_or barred (ends mesh e).1 false

abbrev pub barred_lengths : Mesh → List Bool → List ℕ → List ℕ
barred_lengths mesh barred given =
    map (λ e. if is_barred mesh barred e then longest else edge_length given e) (range_with_len 0 (length given))

-- the length that a link of a vertex stands for, by whether the vertex is barred
abbrev pub length_past : List Bool → Bool → Link → ℕ
length_past barred shut link = if shut || slice_index_or barred link.to false then longest else link.length

-- only edges at a vertex may have another length than before
pub record KeepsOff (mesh : Mesh) (v : ℕ) (old new : List ℕ) : Type 0 where
  pub count : length new ≡ length old
  pub same : (e : ℕ) → e < edge_count mesh → touches v (ends mesh e) ≡ false → slice_index new e ≡ slice_index old e

-- each edge at a vertex is barred
abbrev pub IsShutAt : Mesh → ℕ → List ℕ → Type 0
IsShutAt mesh v lengths =
    (e : ℕ) → e < edge_count mesh → touches v (ends mesh e) ≡ true → slice_index lengths e ≡ longest

-- an edge that is longer leads past a radius
abbrev pub AreUpToOrPast : List ℕ → ℕ → ℕ → Type 0
AreUpToOrPast lengths radius most =
    (e : ℕ) → e < length lengths → (slice_index lengths e ≤ most) ⊎ (radius < slice_index lengths e)

-- all edges have one length but those that lead past a radius
abbrev pub AreEvenOrPast : List ℕ → ℕ → ℕ → Type 0
AreEvenOrPast lengths radius size =
    (e : ℕ) → e < length lengths → (slice_index lengths e ≡ size) ⊎ (radius < slice_index lengths e)

-- Of the lengths below the number of buckets none is greater, and of the others none is less.

abbrev pub AreSmallUpTo : List ℕ → ℕ → Type 0
AreSmallUpTo lengths most =
    (e : ℕ) → e < length lengths → slice_index lengths e < BUCKETS → slice_index lengths e ≤ most

abbrev pub AreGreatFrom : List ℕ → ℕ → Type 0
AreGreatFrom lengths least =
    (e : ℕ) → e < length lengths → BUCKETS ≤ slice_index lengths e → least ≤ slice_index lengths e

-- the greatest of all lengths and of the small ones, and the least of the great ones
pub record AreSizes (lengths : List ℕ) (sizes : Sizes) : Type 0 where
  pub all : AreUpTo lengths sizes.greatest
  pub all_least : (n : ℕ) → AreUpTo lengths n → sizes.greatest ≤ n
  pub small : AreSmallUpTo lengths sizes.greatest_small
  pub small_least : (n : ℕ) → AreSmallUpTo lengths n → sizes.greatest_small ≤ n
  pub great : AreGreatFrom lengths sizes.least_great
  pub great_most : (n : ℕ) → n ≤ longest → AreGreatFrom lengths n → n ≤ sizes.least_great
  pub fits : sizes.least_great ≤ longest

-- the links of a vertex before any is barred
pub record AreGivenAt (mesh : Mesh) (given : List ℕ) (v : ℕ) (links : List Link) : Type 0 where
  pub row : IsRow (primal (cells_of mesh)) v (map ends_of links)
  pub measured : (k : ℕ) → k < length links →
      (link_in links k).length ≡ edge_length given (link_in links k).edge

-- a row of links for each vertex before any is barred
pub record AreGiven (mesh : Mesh) (given : List ℕ) (rows : List (List Link)) : Type 0 where
  pub surface : IsSurface mesh
  pub few : side_count mesh < 2 ^ 30
  pub are_lengths : AreLengths given
  pub as_many : length given ≡ edge_count mesh
  pub count : length rows ≡ mesh.vertices
  pub at : (v : ℕ) → v < mesh.vertices → AreGivenAt mesh given v (slice_index_or rows v [])

-- The links with the lengths that were given, and a flag for each vertex; the one length that was given for all edges,
-- where there is one; and the sizes of the given lengths.
pub record AreKept (mesh : Mesh) (given : List ℕ) (rows : List (List Link)) (barred : List Bool) (even : Option ℕ)
    (barring : Bool) (sizes : Sizes) : Type 0 where
  pub links : AreGiven mesh given rows
  pub flags : length barred ≡ mesh.vertices
  pub even_is : IsEvenness given even
  pub sizes_are : AreSizes given sizes
  pub none : barring ≡ false → barred_lengths mesh barred given ≡ given
