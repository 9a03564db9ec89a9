-- The cut that is chosen along a tree of the vertices and a tree of the faces, and the opening along it.
--
-- How a program meets them. It keeps for each edge whether it is cut, at first by `full_cut`, and a list
-- of the edges that are not (`TellsCut`). `CotreesAreDualTrees` gives the first list and
-- `FullCutsAreTold` starts the loop. Each step of trimming, at the greatest vertex with exactly one cut
-- edge while more than two edges are cut, is `TrimmingByGreatestGoesOn`, and where the loop ends
-- `TrimmedCutsAreChosen` says that the cut is the chosen one (for the full cut `FullCutsAreChosen`).
-- With copies that are opened along the list (`LabelsAreCopies`) and in order (`AreInOrder`),
-- `OpenedAreChosen` makes the whole an `IsChosenOpening`.
use Rattle.std.specs.Prelude.{◌≡◌, ◌≢◌, ℕ, ◌+◌, ◌<◌, Bool, IsTrue, IsFalse, MatchBool, ◌||◌, ◌↔◌, ◌⊎◌, List, ◌∷◌, All}
use Rattle.std.specs.Prelude.{AllPairs, [], length, Contains, slice_index, slice_index_or}
use Rattle.surf_z2.specs.Space.{Chain}
use Rattle.surf_graphs.specs.Cells.{IsSplit}
use Rattle.surf_graphs.specs.Trees.{Tree}
use Rattle.surf_surfaces.specs.Cells.{cells_of}
use Rattle.surf_surfaces.specs.Cotree.{tree_edges, is_left, split_of, cotree_edges}
use Rattle.surf_surfaces.specs.Mesh.{Mesh, pair, pair_of, steps}
use Rattle.surf_surfaces.specs.Surface.{face_count, edge_count, ends}
use Rattle.surf_surfaces.specs.Degrees.{degree_in}
use Rattle.surf_surfaces.specs.Walk.{last}
use Rattle.surf_opening.specs.Opening.{IsOpenedBy}
use Rattle.surf_opening.specs.Side.{Side}
use Rattle.surf_opening.specs.Uncut.{IsDualTree, Uncut}

-- the pairs in the list are the edges of the tree of faces
abbrev pub HasItsEdges : Mesh → Tree → List (ℕ × ℕ) → Type 0
HasItsEdges mesh cotree tree =
    (v w : ℕ) → Uncut tree v w
    ↔ ((e : ℕ) × (e < edge_count mesh) × IsTrue (cotree_edges mesh cotree e) × (ends mesh e ≡ pair v w))

-- copies are in order of their vertices, and those of one vertex in order of the least faces that have
-- them: the first of two is in a face before all that have the second
abbrev pub AreInOrder : Mesh → List ℕ → List (List ℕ) → Type 0
AreInOrder mesh origins faces =
    (c d : ℕ) → c < d → d < length origins →
    (slice_index origins c < slice_index origins d)
    ⊎ ((slice_index origins c ≡ slice_index origins d)
    × ((f : ℕ) × (f < face_count mesh) × Contains (slice_index_or faces f []) c
    × ((g : ℕ) → g < face_count mesh → Contains (slice_index_or faces g []) d → f < g)))

-- the tree of the vertices, the tree of the faces and the left edges divide the edges
abbrev pub AreDivided : Mesh → Tree → Tree → Type 0
AreDivided mesh tree cotree = IsSplit (cells_of mesh) (split_of mesh tree cotree)

-- the list has the edges of the tree of faces, in an order in which that grows face by face
pub record ListsCotree (mesh : Mesh) (cotree : Tree) (list : List (ℕ × ℕ)) : Type 0 where
  pub grows : IsDualTree (Side mesh) list
  pub its_edges : HasItsEdges mesh cotree list

-- the full cut: the edges of the tree and the edges that are left, so all but those of the tree of faces
abbrev pub full_cut : Mesh → Tree → Tree → Chain
full_cut mesh tree cotree e = tree_edges mesh tree e || is_left mesh tree cotree e

-- the two sets have the same edges
abbrev pub SameEdges : Mesh → Chain → Chain → Type 0
SameEdges mesh a b = (e : ℕ) → e < edge_count mesh → a e ≡ b e

-- no vertex has exactly one edge of the set
abbrev pub HasNoEnd : Mesh → Chain → Type 0
HasNoEnd mesh cut = (v : ℕ) → v < mesh.vertices → degree_in mesh cut v ≢ 1

-- all edges of the one set are in the other
abbrev pub IsWithin : Mesh → Chain → Chain → Type 0
IsWithin mesh cut full = (e : ℕ) → e < edge_count mesh → IsTrue (cut e) → IsTrue (full e)

-- the largest of the sets of edges of the full cut in which no vertex has exactly one edge: it has all
-- edges of each
pub record IsLargestEndless (mesh : Mesh) (full cut : Chain) : Type 0 where
  pub within : IsWithin mesh cut full
  pub no_end : HasNoEnd mesh cut
  pub largest : (other : Chain) → IsWithin mesh other full → HasNoEnd mesh other → IsWithin mesh other cut

-- the two vertices are the ends of an edge of the tree
abbrev pub IsTreeEdge : Mesh → Tree → ℕ × ℕ → Type 0
IsTreeEdge mesh tree s =
    (e : ℕ) × (e < edge_count mesh) × IsTrue (tree_edges mesh tree e) × (ends mesh e ≡ pair_of s)

-- a path in the tree: neighbours are joined by edges of the tree, and no vertex stands twice
pub record IsTreePath (mesh : Mesh) (tree : Tree) (path : List ℕ) : Type 0 where
  pub along : All (IsTreeEdge mesh tree) (steps path)
  pub distinct : AllPairs (λ u v. u ≢ v) path

-- The path whose first two edges are named. Where 0 1 is an edge of the tree, the path begins with it,
-- in the direction that leads on to vertex 2. Else it leads from 0 to 1.
pub record IsNamedPath (mesh : Mesh) (tree : Tree) (x y : ℕ) (rest : List ℕ) : Type 0 where
  pub path : IsTreePath mesh tree (x ∷ y ∷ rest)
  pub named : (IsTreeEdge mesh tree (0, 1) × (pair x y ≡ (0, 1)) × (last (y ∷ rest) ≡ 2))
      ⊎ ((IsTreeEdge mesh tree (0, 1) → ⊥) × (x ≡ 0) × (last (y ∷ rest) ≡ 1))

-- the set has the first two edges of the named path, and no other
pub record AreTheTwo (mesh : Mesh) (tree : Tree) (cut : Chain) : Type 0 where
  pub x : ℕ
  pub y : ℕ
  pub z : ℕ
  pub rest : List ℕ
  pub named : IsNamedPath mesh tree x y (z ∷ rest)
  pub exactly : (e : ℕ) → e < edge_count mesh →
      IsTrue (cut e) ↔ ((ends mesh e ≡ pair x y) ⊎ (ends mesh e ≡ pair y z))

-- the trimmed cut: where χ is below 2 the largest set without a vertex that has exactly one edge, where
-- it is 2 two edges
pub record IsTrimmedCut (mesh : Mesh) (tree cotree : Tree) (cut : Chain) : Type 0 where
  pub below_two : mesh.vertices + face_count mesh < edge_count mesh + 2 →
      IsLargestEndless mesh (full_cut mesh tree cotree) cut
  pub at_two : mesh.vertices + face_count mesh ≡ edge_count mesh + 2 → AreTheTwo mesh tree cut

-- the trimmed cut, or the full one
abbrev pub IsChosenCut : Mesh → Tree → Tree → Bool → Chain → Type 0
IsChosenCut mesh tree cotree trim cut =
    MatchBool trim (IsTrimmedCut mesh tree cotree cut) (SameEdges mesh cut (full_cut mesh tree cotree))

-- v w is an edge that is not cut
abbrev pub IsUncutEdge : Mesh → Chain → ℕ → ℕ → Type 0
IsUncutEdge mesh cut v w =
    (e : ℕ) × (e < edge_count mesh) × (ends mesh e ≡ pair v w) × IsFalse (cut e)

-- the surface opened along the chosen cut, with its copies in order
pub record IsChosenOpening (mesh : Mesh) (tree cotree : Tree) (trim : Bool) (origins : List ℕ)
    (faces : List (List ℕ)) : Type 0 where
  pub cut : Chain
  pub is_chosen : IsChosenCut mesh tree cotree trim cut
  pub opened : IsOpenedBy mesh (IsUncutEdge mesh cut) origins faces
  pub in_order : AreInOrder mesh origins faces
