-- Opened surfaces, and which cuts open a surface.
use Rattle.std.specs.Prelude.{◌≡◌, ℕ, ◌+◌, ◌<◌, ◌≤◌, ◌^◌, List, Bool, false, not, length, take, slice_index}
use Rattle.std.specs.Prelude.{slice_index_or}
use Rattle.std.specs.List.{sum_by}
use Rattle.surf_graphs.specs.Trees.{Tree}
use Rattle.surf_surfaces.specs.Cotree.{cotree_edges}
use Rattle.surf_surfaces.specs.Disc.{IsDisc}
use Rattle.surf_surfaces.specs.Mesh.{Mesh}
use Rattle.surf_surfaces.specs.Surface.{edge_count}
use Rattle.surf_opening.specs.ChosenCut.{AreDivided, AreInOrder}
use Rattle.surf_opening.specs.Opening.{IsOpenedBy}
use Rattle.surf_slit.specs.Labels.{IsUncut}
use Rattle.surf_cutter.specs.Boundary.{OpensToDisc}
use Rattle.surf_cutter.specs.Kinds.{Kind, IsOpeningOf, IsNear}

-- the vertex of each copy, and the faces with copies for corners
pub record OpenMesh : Type 0 where
  pub origins : List ℕ
  pub faces : List (List ℕ)

-- the faces over the copies
abbrev pub mesh_of : OpenMesh → Mesh
mesh_of opened = record { vertices = length opened.origins; faces = opened.faces }

-- where the faces begin among the corners of all faces, and the end
pub record AreStarts (faces : List (List ℕ)) (starts : List ℕ) : Type 0 where
  pub size : length starts ≡ length faces + 1
  pub at : (f : ℕ) → f ≤ length faces → slice_index starts f ≡ sum_by length (take f faces)

-- what an opened surface keeps: its faces over its copies are a disc
pub record IsOpenDisc (opened : OpenMesh) : Type 0 where
  pub disc : IsDisc (mesh_of opened)
  pub few_copies : length opened.origins < 2 ^ 30
  pub few_faces : length opened.faces < 2 ^ 30

-- the surface opened along the edges with a flag, with its copies in order
abbrev pub IsOpenedInOrder : Mesh → List Bool → OpenMesh → Type 0
IsOpenedInOrder mesh cut opened =
    IsOpenedBy mesh (IsUncut mesh cut) opened.origins opened.faces × AreInOrder mesh opened.origins opened.faces

-- the flags mark the edges of the tree of faces
abbrev pub MarksCotree : Mesh → Tree → List Bool → Type 0
MarksCotree mesh cotree held = (e : ℕ) → e < edge_count mesh → slice_index_or held e false ≡ cotree_edges mesh cotree e

-- the flags mark the edges of a tree of the faces that goes with a tree of the vertices
abbrev pub IsHeld : Mesh → List Bool → Type 0
IsHeld mesh held = (tree : Tree) × (cotree : Tree) × AreDivided mesh tree cotree × MarksCotree mesh cotree held

-- for each such pair of trees, this is the opening along the cut of the kind
abbrev pub IsChosenFor : Mesh → List Bool → Kind → OpenMesh → Type 0
IsChosenFor mesh held kind opened =
    (tree cotree : Tree) → AreDivided mesh tree cotree → MarksCotree mesh cotree held →
    IsOpeningOf mesh tree cotree kind opened.origins opened.faces

-- for each such pair of trees, the cut of the kind has fewer than two edges
abbrev pub IsNearFor : Mesh → List Bool → Kind → Type 0
IsNearFor mesh held kind =
    (tree cotree : Tree) → AreDivided mesh tree cotree → MarksCotree mesh cotree held → IsNear mesh tree cotree kind

-- a surface with a mark for some of its edges
pub record MarkedMesh : Type 0 where
  pub mesh : Mesh
  pub marks : List Bool

-- the marks of a tree of the faces: one flag an edge
pub record IsHeldTree (mesh : Mesh) (marks : List Bool) : Type 0 where
  pub size : length marks ≡ edge_count mesh
  pub held : IsHeld mesh marks

-- the marks of a cut along which the surface opens to a disc: one flag an edge
pub record IsDiscCut (mesh : Mesh) (cut : List Bool) : Type 0 where
  pub flags : length cut ≡ edge_count mesh
  pub opens : OpensToDisc mesh cut

-- Along the edges with a flag the surface opens to a disc, and what is opened along them is the opening along the
-- cut of the kind.
pub record IsChosenCut (mesh : Mesh) (held : List Bool) (kind : Kind) (cut : List Bool) : Type 0 where
  pub disc : IsDiscCut mesh cut
  pub chosen : (opened : OpenMesh) → IsOpenedInOrder mesh cut opened → IsChosenFor mesh held kind opened

-- each edge is marked in exactly one of the two tables
abbrev pub AreTurnedOver : List Bool → List Bool → Type 0
AreTurnedOver held cut = (length cut ≡ length held)
    × ((e : ℕ) → e < length held → slice_index_or cut e false ≡ not (slice_index_or held e false))
