-- The first of the loops at the vertices of a list or a set.
use Rattle.std.specs.Prelude.{ℕ, ◌≡◌, ◌<◌, Bool, IsTrue, List, Option, Some, None}
use Rattle.surf_graphs.specs.Cells.{Split, IsSplit}
use Rattle.surf_graphs.specs.Trees.{Tree}
use Rattle.surf_surfaces.specs.Mesh.{Mesh}
use Rattle.surf_surfaces.specs.Surface.{edge_count}
use Rattle.surf_surfaces.specs.Cells.{cells_of}
use Rattle.surf_surfaces.specs.Homology.{IsNull}
use Rattle.surf_surfaces.specs.Loop.{loop_walk}
use Rattle.surf_surfaces.specs.Choice.{Trees, AreChosen}
use Rattle.surf_surfaces.specs.FewBases.{place_at, IsFirstFound}
use Rattle.surf_choice.specs.declared.candidate.Candidate.{Candidate}
use Rattle.surf_choice.specs.Places.{place_of}
use Rattle.surf_finder.specs.Signing.{SignTables, AreSignatures}
use Rattle.surf_surfaces.specs.Walk.{ArePositive}
use Rattle.surf_firsts.specs.Near.{AgreeOff}
use Rattle.surf_finder.specs.Found.{SurfaceTables, is_among}
use Rattle.surf_finder.specs.Passing.{is_marked}

-- of the loops at the vertices of a set that aren't null one comes first, and it has the candidate's length and base;
-- or all are null
abbrev pub IsFirstOf : Mesh → List ℕ → (ℕ → Tree) → (ℕ → Bool) → Option Candidate → Type 0
IsFirstOf mesh lengths trees set None = (z e : ℕ) → z < mesh.vertices → IsTrue (set z) → e < edge_count mesh →
    IsNull mesh (loop_walk mesh (trees z) e)
IsFirstOf mesh lengths trees set (Some c) = (z : ℕ) × (e : ℕ) × IsFirstFound mesh lengths trees set z e
    × (place_at mesh lengths trees z e ≡ place_of c)

-- so it is by all trees that show the choice
abbrev pub IsFirstAmong : Mesh → List ℕ → SignTables → List ℕ → Option Candidate → Type 0
IsFirstAmong mesh lengths s vertices first = (trees : ℕ → Trees) → AreChosen mesh lengths trees → (d : Split) →
    IsSplit (cells_of mesh) d → AreSignatures mesh d s →
    IsFirstOf mesh lengths (λ x. (trees x).tree) (is_among vertices) first

-- the first of the loops at the vertices of a set, whichever trees show the choice
abbrev pub IsFirstIn : Mesh → List ℕ → SignTables → (ℕ → Bool) → Option Candidate → Type 0
IsFirstIn mesh lengths s set first = (trees : ℕ → Trees) → AreChosen mesh lengths trees → (d : Split) →
    IsSplit (cells_of mesh) d → AreSignatures mesh d s → IsFirstOf mesh lengths (λ x. (trees x).tree) set first

-- where a candidate is the first at the vertices that were marked, by lengths from which those of a finder differ at
-- these alone, it is the first at those that are marked now
abbrev pub StaysFirst : SurfaceTables → List Bool → List Bool → Option Candidate → Type 0
StaysFirst f old new first = (lengths : List ℕ) → ArePositive f.mesh lengths →
    AgreeOff f.mesh lengths f.lengths (is_marked old) → IsFirstIn f.mesh lengths f.signs (is_marked old) first →
    IsFirstIn f.mesh lengths f.signs (is_marked new) first
