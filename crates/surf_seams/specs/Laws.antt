-- What holds of the cut through given vertices, and of the opening along it.
use Rattle.std.specs.Prelude.{◌≡◌, ◌≢◌, ℕ, ◌+◌, ◌<◌, ◌≤◌, ◌↔◌, ◌⊎◌, Bool, false, not, IsTrue, IsFalse, List}
use Rattle.surf_z2.specs.Space.{Chain}
use Rattle.surf_graphs.specs.Trees.{Tree}
use Rattle.surf_surfaces.specs.Choice.{Trees, AreChosenAt}
use Rattle.surf_surfaces.specs.Cotree.{cotree_edges}
use Rattle.surf_surfaces.specs.Disc.{IsOpening}
use Rattle.surf_surfaces.specs.Mesh.{Mesh, pair}
use Rattle.surf_surfaces.specs.Surface.{face_count, edge_count, ends, touches, IsSurface}
use Rattle.surf_surfaces.specs.Walk.{ArePositive}
use Rattle.surf_surfaces.specs.Degrees.{degree_in}
use Rattle.surf_opening.specs.ChosenCut.{AreInOrder, AreDivided, ListsCotree, full_cut, SameEdges, IsWithin}
use Rattle.surf_opening.specs.ChosenCut.{IsLargestEndless, IsUncutEdge}
use Rattle.surf_opening.specs.Laws.{TellsCut, cut_count, without}
use Rattle.surf_opening.specs.Opening.{IsOpenedBy}
use Rattle.surf_opening.specs.Side.{Side}
use Rattle.surf_opening.specs.Uncut.{Uncut, IsTrimmed}
use Rattle.surf_seams.specs.Through.{HasEndsIn, IsCutThrough, IsLooseAt, IsTakenBackTo, IsInOnePiece, IsOnWay}
use Rattle.surf_seams.specs.Through.{IsOnCut}
use Rattle.surf_seams.specs.Through.{HasCopyOnBorder, IsOpeningThrough}

-- ---- the cut, of any set of edges of any mesh

-- There is a cut through the points, in any set of edges, and taking back edge by edge reaches it.
abbrev pub CutsThroughExist : Type 0
CutsThroughExist =
    (mesh : Mesh) (full : Chain) (points : ℕ → Bool) →
    (cut : Chain) × IsCutThrough mesh full points cut × IsTakenBackTo mesh points full cut

-- There is no more than one cut through the points in a set of edges.
abbrev pub CutsThroughAreOne : Type 0
CutsThroughAreOne =
    (mesh : Mesh) (full : Chain) (points : ℕ → Bool) (cut other : Chain) → IsCutThrough mesh full points cut →
    IsCutThrough mesh full points other → SameEdges mesh cut other

-- Taking back, in any order, until nothing more can be taken back reaches the cut through the
-- points.
abbrev pub TakenBackAreThrough : Type 0
TakenBackAreThrough =
    (mesh : Mesh) (full : Chain) (points : ℕ → Bool) (cut : Chain) → IsTakenBackTo mesh points full cut →
    HasEndsIn mesh points cut → IsCutThrough mesh full points cut

-- Taking back takes no edge of the cut through the points.
abbrev pub TakingBackKeeps : Type 0
TakingBackKeeps =
    (mesh : Mesh) (full : Chain) (points : ℕ → Bool) (cut some : Chain) → IsCutThrough mesh full points cut →
    IsTakenBackTo mesh points full some → IsWithin mesh cut some

-- Each step of taking back leaves one edge less.
abbrev pub TakingBackEnds : Type 0
TakingBackEnds =
    (mesh : Mesh) (points : ℕ → Bool) (cut next : Chain) (e p : ℕ) → IsLooseAt mesh points cut e p →
    SameEdges mesh next (without cut e) → cut_count mesh cut ≡ cut_count mesh next + 1

-- To leave out the only edge of a vertex that is no point is a step of taking back.
abbrev pub TakingBackGoesOn : Type 0
TakingBackGoesOn =
    (mesh : Mesh) (full : Chain) (points : ℕ → Bool) (cut next : Chain) (e p q : ℕ) →
    IsTakenBackTo mesh points full cut → e < edge_count mesh → IsTrue (cut e) → ends mesh e ≡ pair p q →
    p < mesh.vertices → IsFalse (points p) → degree_in mesh cut p ≡ 1 → SameEdges mesh next (without cut e) →
    IsTakenBackTo mesh points full next

-- The cut through no vertex is the largest set of edges without ends, so where χ is below 2 it is
-- the trimmed cut.
abbrev pub EndlessAreThroughNone : Type 0
EndlessAreThroughNone =
    (mesh : Mesh) (full cut : Chain) → IsLargestEndless mesh full cut ↔ IsCutThrough mesh full (λ v. false) cut

-- The cut through more vertices has all edges of that through fewer.
abbrev pub CutsThroughGrow : Type 0
CutsThroughGrow =
    (mesh : Mesh) (full : Chain) (points more : ℕ → Bool) (cut wider : Chain) →
    ((v : ℕ) → v < mesh.vertices → IsTrue (points v) → IsTrue (more v)) → IsCutThrough mesh full points cut →
    IsCutThrough mesh full more wider → IsWithin mesh cut wider

-- ---- the opening along it

-- The edges outside the tree of faces are where taking back begins: the full cut.
abbrev pub FullCutsStart : Type 0
FullCutsStart =
    (mesh : Mesh) (tree cotree : Tree) (points : ℕ → Bool) (cut : Chain) → AreDivided mesh tree cotree →
    SameEdges mesh cut (λ e. not (cotree_edges mesh cotree e)) →
    IsTakenBackTo mesh points (full_cut mesh tree cotree) cut

-- While taking back leaves two edges or more of the full cut, they are told by a list of uncut
-- edges that trims the full cut.
abbrev pub TakenBackAreTrimmed : Type 0
TakenBackAreTrimmed =
    (mesh : Mesh) (tree cotree : Tree) (list : List (ℕ × ℕ)) (points : ℕ → Bool) (cut : Chain) → IsSurface mesh →
    AreDivided mesh tree cotree → ListsCotree mesh cotree list →
    IsTakenBackTo mesh points (full_cut mesh tree cotree) cut → 2 ≤ cut_count mesh cut →
    (uncut : List (ℕ × ℕ)) × IsTrimmed (Side mesh) list uncut × TellsCut mesh uncut cut

-- Opened along the cut through the points, where that has two edges or more, a surface is a disc
-- with every face once.
abbrev pub OpenedThroughAreOpenings : Type 0
OpenedThroughAreOpenings =
    (mesh : Mesh) (tree cotree : Tree) (points : ℕ → Bool) (cut : Chain) (origins : List ℕ)
    (faces : List (List ℕ)) → IsSurface mesh → AreDivided mesh tree cotree →
    IsCutThrough mesh (full_cut mesh tree cotree) points cut → 2 ≤ cut_count mesh cut →
    IsOpenedBy mesh (IsUncutEdge mesh cut) origins faces → IsOpening mesh origins faces

-- ---- how much is cut

-- Where χ is below 2, the cut through the points has two edges or more.
abbrev pub CutsThroughAreLong : Type 0
CutsThroughAreLong =
    (mesh : Mesh) (tree cotree : Tree) (points : ℕ → Bool) (cut : Chain) → IsSurface mesh →
    AreDivided mesh tree cotree → mesh.vertices + face_count mesh < edge_count mesh + 2 →
    IsCutThrough mesh (full_cut mesh tree cotree) points cut → 2 ≤ cut_count mesh cut

-- The cut through two points or more has an edge.
abbrev pub TwoPointsAreCut : Type 0
TwoPointsAreCut =
    (mesh : Mesh) (tree cotree : Tree) (points : ℕ → Bool) (cut : Chain) (u v : ℕ) → IsSurface mesh →
    AreDivided mesh tree cotree → IsCutThrough mesh (full_cut mesh tree cotree) points cut → u < mesh.vertices →
    v < mesh.vertices → IsTrue (points u) → IsTrue (points v) → u ≢ v → 1 ≤ cut_count mesh cut

-- Where the full cut has no edge between some two of the points, the cut through the points has two
-- edges or more.
abbrev pub PointsApartAreLong : Type 0
PointsApartAreLong =
    (mesh : Mesh) (tree cotree : Tree) (points : ℕ → Bool) (cut : Chain) (u v : ℕ) → IsSurface mesh →
    AreDivided mesh tree cotree → IsCutThrough mesh (full_cut mesh tree cotree) points cut → u < mesh.vertices →
    v < mesh.vertices → IsTrue (points u) → IsTrue (points v) → u ≢ v →
    ((e : ℕ) → e < edge_count mesh → IsTrue (full_cut mesh tree cotree e) → IsTrue (touches u (ends mesh e)) →
    IsTrue (touches v (ends mesh e)) → ⊥) → 2 ≤ cut_count mesh cut

-- The cut through three points or more has two edges or more.
abbrev pub ThreePointsAreLong : Type 0
ThreePointsAreLong =
    (mesh : Mesh) (tree cotree : Tree) (points : ℕ → Bool) (cut : Chain) (u v w : ℕ) → IsSurface mesh →
    AreDivided mesh tree cotree → IsCutThrough mesh (full_cut mesh tree cotree) points cut → u < mesh.vertices →
    v < mesh.vertices → w < mesh.vertices → IsTrue (points u) → IsTrue (points v) → IsTrue (points w) → u ≢ v →
    u ≢ w → v ≢ w → 2 ≤ cut_count mesh cut

-- Where χ is 2, the cut through one point or none has no edge.
abbrev pub OnePointIsNotCut : Type 0
OnePointIsNotCut =
    (mesh : Mesh) (tree cotree : Tree) (points : ℕ → Bool) (cut : Chain) → IsSurface mesh →
    AreDivided mesh tree cotree → mesh.vertices + face_count mesh ≡ edge_count mesh + 2 →
    IsCutThrough mesh (full_cut mesh tree cotree) points cut →
    ((u v : ℕ) → u < mesh.vertices → v < mesh.vertices → IsTrue (points u) → IsTrue (points v) → u ≡ v) →
    cut_count mesh cut ≡ 0

-- Where χ is 2, the cut through two points that an edge of the full cut joins has no more than one
-- edge.
abbrev pub JoinedPointsAreShort : Type 0
JoinedPointsAreShort =
    (mesh : Mesh) (tree cotree : Tree) (points : ℕ → Bool) (cut : Chain) (u v l : ℕ) → IsSurface mesh →
    AreDivided mesh tree cotree → mesh.vertices + face_count mesh ≡ edge_count mesh + 2 →
    IsCutThrough mesh (full_cut mesh tree cotree) points cut →
    ((w : ℕ) → w < mesh.vertices → IsTrue (points w) → (w ≡ u) ⊎ (w ≡ v)) → l < edge_count mesh →
    IsTrue (full_cut mesh tree cotree l) → IsTrue (touches u (ends mesh l)) → IsTrue (touches v (ends mesh l)) →
    u ≢ v → cut_count mesh cut ≤ 1

-- The cut through the points is in one piece.
abbrev pub CutsThroughAreConnected : Type 0
CutsThroughAreConnected =
    (mesh : Mesh) (tree cotree : Tree) (points : ℕ → Bool) (cut : Chain) → IsSurface mesh →
    AreDivided mesh tree cotree → IsCutThrough mesh (full_cut mesh tree cotree) points cut → IsInOnePiece mesh cut

-- Where the cut through the points has an edge, as where χ is below 2, each point is on it.
abbrev pub PointsAreOnCut : Type 0
PointsAreOnCut =
    (mesh : Mesh) (tree cotree : Tree) (points : ℕ → Bool) (cut : Chain) (v : ℕ) → IsSurface mesh →
    AreDivided mesh tree cotree → IsCutThrough mesh (full_cut mesh tree cotree) points cut →
    1 ≤ cut_count mesh cut → v < mesh.vertices → IsTrue (points v) → IsOnCut mesh cut v

-- Where χ is 2, the cut through the points is the union of the ways in the tree between the points.
abbrev pub CutsThroughAreWays : Type 0
CutsThroughAreWays =
    (mesh : Mesh) (tree cotree : Tree) (points : ℕ → Bool) (cut : Chain) → IsSurface mesh →
    AreDivided mesh tree cotree → mesh.vertices + face_count mesh ≡ edge_count mesh + 2 →
    IsCutThrough mesh (full_cut mesh tree cotree) points cut →
    (e : ℕ) → e < edge_count mesh → IsTrue (cut e) ↔ IsOnWay mesh tree points e

-- Each point has a copy on the border of the opening through the points.
abbrev pub PointsAreOnBorder : Type 0
PointsAreOnBorder =
    (mesh : Mesh) (tree cotree : Tree) (points : ℕ → Bool) (origins : List ℕ) (faces : List (List ℕ)) (v : ℕ) →
    IsSurface mesh → AreDivided mesh tree cotree → IsOpeningThrough mesh tree cotree points origins faces →
    v < mesh.vertices → IsTrue (points v) → HasCopyOnBorder origins faces v

-- ---- the opening with its copies in order

-- The opening through the points, with its copies in order, is a disc with every face once.
abbrev pub OpeningsThroughAreOpenings : Type 0
OpeningsThroughAreOpenings =
    (mesh : Mesh) (tree cotree : Tree) (points : ℕ → Bool) (origins : List ℕ) (faces : List (List ℕ)) →
    IsSurface mesh → AreDivided mesh tree cotree → IsOpeningThrough mesh tree cotree points origins faces →
    IsOpening mesh origins faces

-- Where the cut through the points has two edges or more, there is an opening along it with its
-- copies in order.
abbrev pub OpeningsThroughExist : Type 0
OpeningsThroughExist =
    (mesh : Mesh) (tree cotree : Tree) (points : ℕ → Bool) (cut : Chain) → IsSurface mesh →
    AreDivided mesh tree cotree → IsCutThrough mesh (full_cut mesh tree cotree) points cut →
    2 ≤ cut_count mesh cut →
    (origins : List ℕ) × (faces : List (List ℕ)) × IsOpeningThrough mesh tree cotree points origins faces

-- There is no more than one opening through the points with its copies in order.
abbrev pub OpeningsThroughAreOne : Type 0
OpeningsThroughAreOne =
    (mesh : Mesh) (tree cotree : Tree) (points : ℕ → Bool) (origins others : List ℕ)
    (faces other_faces : List (List ℕ)) → IsSurface mesh → AreDivided mesh tree cotree →
    IsOpeningThrough mesh tree cotree points origins faces →
    IsOpeningThrough mesh tree cotree points others other_faces → (origins ≡ others) × (faces ≡ other_faces)

-- Let a list of uncut edges tell what taking back to the end leaves of the full cut, two edges or
-- more. Faces over copies that are opened along it, in order, are the opening through the points.
abbrev pub OpenedAreThrough : Type 0
OpenedAreThrough =
    (mesh : Mesh) (tree cotree : Tree) (points : ℕ → Bool) (list uncut : List (ℕ × ℕ)) (cut : Chain)
    (origins : List ℕ) (faces : List (List ℕ)) → IsSurface mesh → ListsCotree mesh cotree list →
    IsTrimmed (Side mesh) list uncut → TellsCut mesh uncut cut →
    IsTakenBackTo mesh points (full_cut mesh tree cotree) cut → HasEndsIn mesh points cut →
    2 ≤ cut_count mesh cut → IsOpenedBy mesh (Uncut uncut) origins faces → AreInOrder mesh origins faces →
    IsOpeningThrough mesh tree cotree points origins faces

-- The opening through the points at a base is one, whichever chosen trees show it.
abbrev pub OpeningsThroughAtAreOne : Type 0
OpeningsThroughAtAreOne =
    (mesh : Mesh) (lengths : List ℕ) (base : ℕ) (a b : Trees) (points : ℕ → Bool) (origins others : List ℕ)
    (faces other_faces : List (List ℕ)) → IsSurface mesh → ArePositive mesh lengths →
    AreChosenAt mesh lengths base a → AreChosenAt mesh lengths base b →
    IsOpeningThrough mesh a.tree a.cotree points origins faces →
    IsOpeningThrough mesh b.tree b.cotree points others other_faces → (origins ≡ others) × (faces ≡ other_faces)
