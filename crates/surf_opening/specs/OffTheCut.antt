-- Walks that meet none of the vertices of a cut.
use Rattle.std.specs.Prelude.{◌≢◌, ℕ, ◌+◌, ◌<◌, ◌⊎◌, Bool, IsTrue, IsFalse, List, All, Contains}
use Rattle.surf_z2.specs.Space.{Chain}
use Rattle.surf_graphs.specs.Trees.{Tree}
use Rattle.surf_surfaces.specs.Cotree.{is_left}
use Rattle.surf_surfaces.specs.Homology.{IsNull}
use Rattle.surf_surfaces.specs.Mesh.{Mesh}
use Rattle.surf_surfaces.specs.Surface.{face_count, edge_count, ends, touches, IsSurface}
use Rattle.surf_surfaces.specs.Walk.{IsClosed}
use Rattle.surf_opening.specs.ChosenCut.{AreDivided, IsTrimmedCut}

-- no edge of the cut is at the vertex
abbrev pub IsOffTheCut : Mesh → Chain → ℕ → Type 0
IsOffTheCut mesh cut v = (e : ℕ) → e < edge_count mesh → IsTrue (cut e) → IsFalse (touches v (ends mesh e))

-- A closed walk that meets no vertex of the trimmed cut is null.
abbrev pub WalksOffTheCutAreNull : Type 0
WalksOffTheCutAreNull =
    (mesh : Mesh) (tree cotree : Tree) (cut : Chain) (walk : List ℕ) → IsSurface mesh →
    AreDivided mesh tree cotree → IsTrimmedCut mesh tree cotree cut → IsClosed mesh walk →
    All (IsOffTheCut mesh cut) walk → IsNull mesh walk

-- both ends of the edge are marked
abbrev pub HasMarkedEnds : Mesh → (ℕ → Bool) → ℕ → Type 0
HasMarkedEnds mesh marked e = IsTrue (marked (ends mesh e).0) × IsTrue (marked (ends mesh e).1)

-- both ends of each left edge are marked, and with each marked vertex its parent
pub record AreMarked (mesh : Mesh) (tree cotree : Tree) (marked : ℕ → Bool) : Type 0 where
  pub left_ends : (e : ℕ) → e < edge_count mesh → IsTrue (is_left mesh tree cotree e) → HasMarkedEnds mesh marked e
  pub parents : (v : ℕ) → v < mesh.vertices → v ≢ tree.root → IsTrue (marked v) → IsTrue (marked (tree.parent v))

-- Where χ is below 2, the ends of all edges of the trimmed cut are marked, if those of the left
-- edges are and, with each marked vertex, its parent.
abbrev pub CutEndsAreMarked : Type 0
CutEndsAreMarked =
    (mesh : Mesh) (tree cotree : Tree) (cut : Chain) (marked : ℕ → Bool) → IsSurface mesh →
    AreDivided mesh tree cotree → mesh.vertices + face_count mesh < edge_count mesh + 2 →
    IsTrimmedCut mesh tree cotree cut → AreMarked mesh tree cotree marked →
    (e : ℕ) → e < edge_count mesh → IsTrue (cut e) → HasMarkedEnds mesh marked e

-- Where the ends of the left edges are marked and, with each marked vertex, its parent, a closed
-- walk that meets no marked vertex is null, whatever χ is.
abbrev pub UnmarkedWalksAreNull : Type 0
UnmarkedWalksAreNull =
    (mesh : Mesh) (tree cotree : Tree) (marked : ℕ → Bool) (walk : List ℕ) → IsSurface mesh →
    AreDivided mesh tree cotree → AreMarked mesh tree cotree marked → IsClosed mesh walk →
    All (λ v. IsFalse (marked v)) walk → IsNull mesh walk

-- Where the ends of the left edges are marked and, with each marked vertex, its parent, each closed
-- walk is null or meets a marked vertex.
abbrev pub WalksAreNullOrMeetMarked : Type 0
WalksAreNullOrMeetMarked =
    (mesh : Mesh) (tree cotree : Tree) (marked : ℕ → Bool) (walk : List ℕ) → IsSurface mesh →
    AreDivided mesh tree cotree → AreMarked mesh tree cotree marked → IsClosed mesh walk →
    IsNull mesh walk ⊎ ((v : ℕ) × Contains walk v × IsTrue (marked v))
