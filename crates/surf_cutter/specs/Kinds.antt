-- How far a surface is cut, and what is opened so.
use Rattle.std.specs.Prelude.{◌==◌, ◌<◌, ℕ, Bool, true, false, List, [], Contains}
use Rattle.std.specs.List.{list_any}
use Rattle.surf_z2.specs.Space.{Chain}
use Rattle.surf_graphs.specs.Trees.{Tree}
use Rattle.surf_surfaces.specs.Mesh.{Mesh}
use Rattle.surf_opening.specs.ChosenCut.{IsChosenOpening, full_cut}
use Rattle.surf_opening.specs.Laws.{cut_count}
use Rattle.surf_seams.specs.Through.{IsCutThrough, IsOpeningThrough, HasCopyOnBorder}
use Rattle.surf_cutter.specs.declared.kind.CutKind.{CutKind}
use Rattle.surf_cutter.specs.declared.kind.CutKind.TheVariants.{Full, Trimmed, Through}

-- A cut is full or trimmed, or it goes through the vertices of a list.
pub data Kind : Type 0 where
  full : Kind
  trimmed : Kind
  through : List ℕ → Kind

-- a kind of the code as one of these
abbrev pub kind_of : CutKind → Kind
kind_of Full = full
kind_of Trimmed = trimmed
kind_of (Through points) = through points.items

-- the vertices that the cut is to go through
abbrev pub points_of : Kind → List ℕ
points_of full = []
points_of trimmed = []
points_of (through points) = points

-- whether a vertex is in the list
abbrev pub is_point : List ℕ → ℕ → Bool
is_point points v = list_any (λ p. p == v) points

-- the surface opened along the cut of this kind, with its copies in order
abbrev pub IsOpeningOf : Mesh → Tree → Tree → Kind → List ℕ → List (List ℕ) → Type 0
IsOpeningOf mesh tree cotree full = IsChosenOpening mesh tree cotree false
IsOpeningOf mesh tree cotree trimmed = IsChosenOpening mesh tree cotree true
IsOpeningOf mesh tree cotree (through points) = IsOpeningThrough mesh tree cotree (is_point points)

-- The cut of this kind has fewer than two edges: nothing is opened along it.
abbrev pub IsNear : Mesh → Tree → Tree → Kind → Type 0
IsNear mesh tree cotree full = ⊥
IsNear mesh tree cotree trimmed = ⊥
IsNear mesh tree cotree (through points) =
    (cut : Chain) × IsCutThrough mesh (full_cut mesh tree cotree) (is_point points) cut × (cut_count mesh cut < 2)

-- each vertex that the cut is to go through has a copy on the border
abbrev pub HaveCopiesOnBorder : Kind → List ℕ → List (List ℕ) → Type 0
HaveCopiesOnBorder kind origins faces = (v : ℕ) → Contains (points_of kind) v → HasCopyOnBorder origins faces v
