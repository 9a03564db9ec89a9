-- What holds of the chosen cut and of the opening along it.
use Rattle.std.specs.Prelude.{◌≡◌, ◌≢◌, ℕ, ◌+◌, ◌<◌, ◌≤◌, ◌⊎◌, Bool, true, false, List, length}
use Rattle.surf_z2.specs.Space.{Chain}
use Rattle.surf_graphs.specs.Trees.{Tree}
use Rattle.surf_surfaces.specs.Choice.{Trees, AreChosenAt}
use Rattle.surf_surfaces.specs.Disc.{IsOpening}
use Rattle.surf_surfaces.specs.Mesh.{Mesh}
use Rattle.surf_surfaces.specs.Surface.{face_count, edge_count, IsSurface}
use Rattle.surf_surfaces.specs.Walk.{ArePositive}
use Rattle.surf_opening.specs.Laws.{TellsCut, cut_count}
use Rattle.surf_surfaces.specs.Degrees.{degree_in}
use Rattle.surf_opening.specs.ChosenCut.{AreInOrder, AreDivided, ListsCotree, SameEdges, IsChosenCut}
use Rattle.surf_opening.specs.ChosenCut.{IsChosenOpening}
use Rattle.surf_opening.specs.Named.{IsTrimmedByGreatest}
use Rattle.surf_opening.specs.Opening.{IsOpenedBy}
use Rattle.surf_opening.specs.Side.{Side}
use Rattle.surf_opening.specs.Uncut.{Uncut}

-- The trees that are chosen at a base and the left edges divide the edges.
abbrev pub ChosenTreesDivide : Type 0
ChosenTreesDivide =
    (mesh : Mesh) (lengths : List ℕ) (base : ℕ) (trees : Trees) → IsSurface mesh → ArePositive mesh lengths →
    AreChosenAt mesh lengths base trees → AreDivided mesh trees.tree trees.cotree

-- Where just the edges outside the cotree are cut, that is the chosen full cut.
abbrev pub FullCutsAreChosen : Type 0
FullCutsAreChosen =
    (mesh : Mesh) (tree cotree : Tree) (list : List (ℕ × ℕ)) (cut : Chain) → IsSurface mesh →
    AreDivided mesh tree cotree → ListsCotree mesh cotree list → TellsCut mesh list cut →
    IsChosenCut mesh tree cotree false cut

-- Where trimming by the greatest has ended, what is cut is the chosen trimmed cut.
abbrev pub TrimmedCutsAreChosen : Type 0
TrimmedCutsAreChosen =
    (mesh : Mesh) (tree cotree : Tree) (list uncut : List (ℕ × ℕ)) (cut : Chain) → IsSurface mesh →
    AreDivided mesh tree cotree → ListsCotree mesh cotree list → IsTrimmedByGreatest (Side mesh) list uncut →
    TellsCut mesh uncut cut →
    (cut_count mesh cut ≤ 2) ⊎ ((v : ℕ) → v < mesh.vertices → degree_in mesh cut v ≢ 1) →
    IsChosenCut mesh tree cotree true cut

-- Faces over copies that are opened along the chosen cut, in order, are the chosen opening.
abbrev pub OpenedAreChosen : Type 0
OpenedAreChosen =
    (mesh : Mesh) (tree cotree : Tree) (trim : Bool) (list uncut : List (ℕ × ℕ)) (cut : Chain)
    (origins : List ℕ)
    (faces : List (List ℕ)) → IsSurface mesh → ListsCotree mesh cotree list →
    IsTrimmedByGreatest (Side mesh) list uncut → TellsCut mesh uncut cut →
    IsChosenCut mesh tree cotree trim cut →
    IsOpenedBy mesh (Uncut uncut) origins faces → AreInOrder mesh origins faces →
    IsChosenOpening mesh tree cotree trim origins faces

-- There is one chosen cut.
abbrev pub ChosenCutsAreOne : Type 0
ChosenCutsAreOne =
    (mesh : Mesh) (tree cotree : Tree) (trim : Bool) (cut other : Chain) → IsSurface mesh →
    AreDivided mesh tree cotree → IsChosenCut mesh tree cotree trim cut →
    IsChosenCut mesh tree cotree trim other →
    SameEdges mesh cut other

-- The chosen opening is an opening: a disc with every face once.
abbrev pub ChosenAreOpenings : Type 0
ChosenAreOpenings =
    (mesh : Mesh) (tree cotree : Tree) (trim : Bool) (origins : List ℕ) (faces : List (List ℕ)) →
    IsSurface mesh →
    AreDivided mesh tree cotree → IsChosenOpening mesh tree cotree trim origins faces →
    IsOpening mesh origins faces

-- There is one chosen opening.
abbrev pub ChosenAreOne : Type 0
ChosenAreOne =
    (mesh : Mesh) (tree cotree : Tree) (trim : Bool) (origins others : List ℕ)
    (faces other_faces : List (List ℕ)) →
    IsSurface mesh → AreDivided mesh tree cotree → IsChosenOpening mesh tree cotree trim origins faces →
    IsChosenOpening mesh tree cotree trim others other_faces → (origins ≡ others) × (faces ≡ other_faces)

-- The chosen opening along the full cut has 2 (E − F + 1) copies.
abbrev pub FullOpeningsAreCounted : Type 0
FullOpeningsAreCounted =
    (mesh : Mesh) (tree cotree : Tree) (origins : List ℕ) (faces : List (List ℕ)) → IsSurface mesh →
    AreDivided mesh tree cotree → IsChosenOpening mesh tree cotree false origins faces →
    length origins + (face_count mesh + face_count mesh) ≡ edge_count mesh + edge_count mesh + 2

-- Each surface has its chosen opening.
abbrev pub ChosenExist : Type 0
ChosenExist =
    (mesh : Mesh) (tree cotree : Tree) (trim : Bool) → IsSurface mesh → AreDivided mesh tree cotree →
    (origins : List ℕ) × (faces : List (List ℕ)) × IsChosenOpening mesh tree cotree trim origins faces

-- The chosen opening at a base is one, whichever trees show it.
abbrev pub OpeningsAtAreOne : Type 0
OpeningsAtAreOne =
    (mesh : Mesh) (lengths : List ℕ) (base : ℕ) (a b : Trees) (trim : Bool) (origins others : List ℕ)
    (faces other_faces : List (List ℕ)) → IsSurface mesh → ArePositive mesh lengths →
    AreChosenAt mesh lengths base a → AreChosenAt mesh lengths base b →
    IsChosenOpening mesh a.tree a.cotree trim origins faces →
    IsChosenOpening mesh b.tree b.cotree trim others other_faces → (origins ≡ others) × (faces ≡ other_faces)
