-- Sides in pairs.
use Rattle.std.specs.Prelude.{◌≡◌, ℕ, ◌<◌, List, [], ◌∷◌, length, get_or, map, Option, Some, Bool, false, ◌==◌}
use Rattle.std.specs.List.{list_any}
use Rattle.surf_surfaces.specs.Mesh.{Mesh, edges}
use Rattle.surf_surfaces.specs.SideNumber.{side_count, owners, sides_with}
use Rattle.surf_soup.specs.EdgeTable.{AreEdgeNumbers}
use Rattle.surf_soup.specs.Half.{AreAllMates}
use Rattle.surf_soup.specs.Order.{AreListedUpto, IsLast}
use Rattle.surf_soup.specs.Pairs.{HasTwoFaces}
use Rattle.surf_soup.specs.declared.mated.Mates.{Mates}
use Rattle.surf_soup.specs.declared.pairing.Pairing.{Pairing}
use Rattle.surf_soup.specs.declared.pairing.Pairs.{Pairs}

-- the least side that runs a pair
abbrev pub least_side : Mesh → ℕ × ℕ → ℕ
least_side mesh p = get_or (sides_with mesh p) 0 0

-- the edges, the least side of each, and for each side its mate, its edge and its face
pub record IsPairing (mesh : Mesh) (edge_list : List (ℕ × ℕ))
    (first mate edge_of face_of : List ℕ) : Type 0 where
  pub edge_list_is : edge_list ≡ edges mesh
  pub first_are : first ≡ map (least_side mesh) (edges mesh)
  pub mates : AreAllMates mesh mate
  pub edge_numbers : AreEdgeNumbers mesh edge_of
  pub face_of_is : face_of ≡ owners 0 mesh.faces

-- a table as the code has it
abbrev pub IsPairingOf : Mesh → Pairing → Type 0
IsPairingOf mesh p =
    IsPairing mesh p.edges.items p.first.items p.mate.items p.edge_of.items p.face_of

-- for each edge a row of its first side and the mate of that
abbrev pub pair_rows : List ℕ → List ℕ → List (List ℕ)
pair_rows first mate = map (λ s. s ∷ get_or mate s 0 ∷ []) first

-- The first k of the sides in the order of their pairs are paired: they are listed, two in the row of each edge, and
-- the two are each other's mates.
pub record ArePairedUpto (mesh : Mesh) (k : ℕ) (edge_list : List (ℕ × ℕ)) (first mate edge_of : List ℕ) : Type 0 where
  pub mate_size : length mate ≡ side_count mesh
  pub number_size : length edge_of ≡ side_count mesh
  pub listed : AreListedUpto mesh k edge_list (pair_rows first mate) edge_of
  pub back : (e : ℕ) → e < length first → get_or mate (get_or mate (get_or first e 0) 0) 0 ≡ get_or first e 0

abbrev pub ArePaired : Mesh → ℕ → Pairs → Type 0
ArePaired mesh k pairs = ArePairedUpto mesh k pairs.edges.items pairs.first.items pairs.mate.items pairs.edge_of.items

-- no pairs, in tables for a number of sides
pub record AreNoPairs (count : ℕ) (pairs : Pairs) : Type 0 where
  pub none : pairs.edges.items ≡ []
  pub no_first : pairs.first.items ≡ []
  pub mate_size : length pairs.mate.items ≡ count
  pub number_size : length pairs.edge_of.items ≡ count

-- the tables once all sides are paired
pub record AreAllPairs (mesh : Mesh) (edge_list : List (ℕ × ℕ)) (first mate edge_of : List ℕ) : Type 0 where
  pub edges_are : edge_list ≡ edges mesh
  pub first_are : first ≡ map (least_side mesh) (edges mesh)
  pub mates : AreAllMates mesh mate
  pub numbers : AreEdgeNumbers mesh edge_of
  pub two : HasTwoFaces mesh

abbrev pub HasAllPairs : Mesh → Pairs → Type 0
HasAllPairs mesh pairs = AreAllPairs mesh pairs.edges.items pairs.first.items pairs.mate.items pairs.edge_of.items

-- marks of the vertices that are the greater end of a pair in a list
pub record AreGreaterEnds (count : ℕ) (edge_list : List (ℕ × ℕ)) (marks : List Bool) : Type 0 where
  pub size : length marks ≡ count
  pub marked : (v : ℕ) → v < count → get_or marks v false ≡ list_any (λ (p : ℕ × ℕ). p.1 == v) edge_list

-- the last pair of a list, where it has one
abbrev pub EndsWith : List (ℕ × ℕ) → Option (ℕ × ℕ) → Type 0
EndsWith edge_list last = (p : ℕ × ℕ) → (IsLast edge_list p → last ≡ Some p) × (last ≡ Some p → IsLast edge_list p)

-- The first k of the sides in the order of their pairs are each other's mates: there are tables, which need not be
-- made, in which they are paired. Of the edges there the last one is known, and which vertices are their greater ends.
pub record AreMatedUpto (mesh : Mesh) (k : ℕ) (mate : List ℕ) (last : Option (ℕ × ℕ)) (marks : List Bool) : Type 0 where
  pub edge_list : List (ℕ × ℕ)
  pub first : List ℕ
  pub edge_of : List ℕ
  pub paired : ArePairedUpto mesh k edge_list first mate edge_of
  pub last_is : EndsWith edge_list last
  pub greater : AreGreaterEnds mesh.vertices edge_list marks

abbrev pub AreMated : Mesh → ℕ → Mates → Type 0
AreMated mesh k mates = AreMatedUpto mesh k mates.mate.items mates.last mates.greater.items
