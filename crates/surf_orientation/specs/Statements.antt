-- What holds of a surface's orientations and of its Euler characteristic.
use Rattle.std.specs.Prelude.{ℕ, ◌≡◌, ◌<◌, ◌≤◌, ◌+◌, ◌-◌, ◌*◌, ◌/◌, ◌⊎◌, ◌↔◌, ◌&&◌, Bool, false, List, length, pos}
use Rattle.std.specs.Prelude.{◌-ℤ◌, ◌≤ℤ◌}
use Rattle.surf_graphs.specs.Graphs.{Graph, IsGraph, IsConnectedGraph}
use Rattle.surf_graphs.specs.Rounds.{IsTurn}
use Rattle.surf_graphs.specs.Cells.{dual, Split, IsSplit}
use Rattle.surf_graphs.specs.Trees.{Tree, IsTree}
use Rattle.surf_surfaces.specs.Homology.{IsBoundary, IsLoopCount}
use Rattle.surf_z2.specs.Parity.{odd_below}
use Rattle.surf_surfaces.specs.Mesh.{Mesh, characteristic}
use Rattle.surf_surfaces.specs.Surface.{face_count, edge_count, ends, touches, IsSurface, IsOrientation, IsOrientable}
use Rattle.surf_surfaces.specs.Turning.{Link, IsOneSided}
use Rattle.surf_surfaces.specs.Cells.{cells_of}
use Rattle.surf_orientation.specs.Names.{NamesRounds}
use Rattle.surf_orientation.specs.Chains.{Fits, misfit, FollowTree, tree_chain, GoByStep}

-- `RoundsAreEven` of `surf_graphs` with a name for each round in place of a count of rounds.
abbrev pub NamedRoundsAreEven : Type 0
NamedRoundsAreEven =
    (n : ℕ) (p pb q qb r rb : ℕ → ℕ) (a b c : ℕ) (name_p name_q name_r : ℕ → ℕ) → IsTurn n p pb →
    IsTurn n q qb → IsTurn n r rb →
    NamesRounds n p a name_p → NamesRounds n q b name_q → NamesRounds n r c name_r →
    ((i : ℕ) → i < n → r i ≡ p (q i)) → (k : ℕ) × (a + b + c + n ≡ 2 * k)

-- Vertices, edges and faces of a surface with a turning are an even number in all.
abbrev pub CountsAreEven : Type 0
CountsAreEven = (mesh : Mesh) (turned : ℕ → Bool) → IsSurface mesh → IsOrientation mesh turned →
    (k : ℕ) × (mesh.vertices + edge_count mesh + face_count mesh ≡ 2 * k)

-- A connected graph with a node has a spanning tree, rooted at any of its nodes.
abbrev pub ConnectedGraphsHaveTrees : Type 0
ConnectedGraphsHaveTrees = (g : Graph) (root : ℕ) → IsGraph g → IsConnectedGraph g → root < g.nodes →
    (t : Tree) × (t.root ≡ root) × IsTree g t

-- A surface has a tree of its vertices, a tree of its faces, and left edges.
abbrev pub SurfacesHaveSplits : Type 0
SurfacesHaveSplits = (mesh : Mesh) → IsSurface mesh → (d : Split) × IsSplit (cells_of mesh) d

-- Χ is at most 2.
abbrev pub CharacteristicsAreAtMostTwo : Type 0
CharacteristicsAreAtMostTwo = (mesh : Mesh) → IsSurface mesh → characteristic mesh ≤ℤ pos 2

-- Χ is at most 2, in natural numbers.
abbrev pub CountsAreAtMostTwoMore : Type 0
CountsAreAtMostTwoMore = (mesh : Mesh) → IsSurface mesh →
    mesh.vertices + face_count mesh ≤ edge_count mesh + 2

-- half of 2 − χ
abbrev pub genus_of : Mesh → ℕ
genus_of mesh = ((edge_count mesh + 2) - (mesh.vertices + face_count mesh)) / 2

-- With a turning, twice the genus is 2 − χ.
abbrev pub GenusIsHalf : Type 0
GenusIsHalf = (mesh : Mesh) (turned : ℕ → Bool) → IsSurface mesh → IsOrientation mesh turned →
    pos (2 * genus_of mesh) ≡ pos 2 -ℤ characteristic mesh

-- With a turning, twice the genus is 2 − χ, in natural numbers.
abbrev pub GenusIsLoopCount : Type 0
GenusIsLoopCount = (mesh : Mesh) (turned : ℕ → Bool) → IsSurface mesh → IsOrientation mesh turned →
    IsLoopCount mesh (2 * genus_of mesh)

-- Each split of a surface with a turning leaves twice the genus of edges.
abbrev pub LeftEdgesAreTwiceGenus : Type 0
LeftEdgesAreTwiceGenus =
    (mesh : Mesh) (turned : ℕ → Bool) (d : Split) → IsSurface mesh → IsOrientation mesh turned →
    IsSplit (cells_of mesh) d → length d.left ≡ 2 * genus_of mesh

-- Flags are a turning exactly where they fit all edges.
abbrev pub OrientationsFit : Type 0
OrientationsFit = (mesh : Mesh) (flags : ℕ → Bool) → IsSurface mesh →
    IsOrientation mesh flags ↔ ((e : ℕ) → e < edge_count mesh → Fits mesh flags e)

-- Where flags follow a tree of the faces and do not fit an edge, the chain of that edge is
-- one-sided.
abbrev pub MisfitsAreOneSided : Type 0
MisfitsAreOneSided =
    (mesh : Mesh) (t : Tree) (flags : ℕ → Bool) → IsSurface mesh → IsTree (dual (cells_of mesh)) t →
    FollowTree mesh t flags →
    (e : ℕ) → e < edge_count mesh → (Fits mesh flags e → ⊥) → IsOneSided mesh (tree_chain mesh t e)

-- The chain of an edge goes by single steps of the tree.
abbrev pub TreeChainsGoByStep : Type 0
TreeChainsGoByStep = (mesh : Mesh) (t : Tree) → IsTree (dual (cells_of mesh)) t → GoByStep mesh t

-- A surface has a turning or a one-sided chain.
abbrev pub SurfacesAreTwoSidedOrOneSided : Type 0
SurfacesAreTwoSidedOrOneSided = (mesh : Mesh) → IsSurface mesh →
    IsOrientable mesh ⊎ ((links : List Link) × IsOneSided mesh links)

-- Of the edges that flags do not fit, an even number is at each vertex.
abbrev pub MisfitsAreEven : Type 0
MisfitsAreEven =
    (mesh : Mesh) (flags : ℕ → Bool) (v : ℕ) → IsSurface mesh →
    odd_below (edge_count mesh) (λ e. misfit mesh flags e && touches v (ends mesh e)) ≡ false

-- A surface is two-sided exactly where the edges that some flags do not fit are a boundary.
abbrev pub TwoSidedWhereMisfitsAreBoundary : Type 0
TwoSidedWhereMisfitsAreBoundary = (mesh : Mesh) (flags : ℕ → Bool) → IsSurface mesh →
    IsOrientable mesh ↔ IsBoundary mesh (misfit mesh flags)

-- Where χ is 2 there is a turning.
abbrev pub SpheresAreTwoSided : Type 0
SpheresAreTwoSided = (mesh : Mesh) → IsSurface mesh → IsLoopCount mesh 0 → IsOrientable mesh

-- With a one-sided chain, χ is at most 1.
abbrev pub OneSidedCharacteristicsAreAtMostOne : Type 0
OneSidedCharacteristicsAreAtMostOne = (mesh : Mesh) (links : List Link) → IsSurface mesh →
    IsOneSided mesh links → characteristic mesh ≤ℤ pos 1

-- Turnings of a surface that agree on one face agree on all.
abbrev pub OrientationsAreDetermined : Type 0
OrientationsAreDetermined =
    (mesh : Mesh) (flags others : ℕ → Bool) (f g : ℕ) → IsSurface mesh → IsOrientation mesh flags →
    IsOrientation mesh others → f < face_count mesh → g < face_count mesh → flags f ≡ others f →
    flags g ≡ others g
