-- Cuts by a flag for each edge, and how they are trimmed.
use Rattle.std.specs.Prelude.{◌≡◌, ◌≢◌, ℕ, ◌<◌, ◌≤◌, ◌⊎◌, Bool, true, false, List, length, slice_index}
use Rattle.std.specs.Prelude.{slice_index_or, slice_set}
use Rattle.surf_z2.specs.Space.{Chain}
use Rattle.surf_surfaces.specs.Mesh.{Mesh, pair}
use Rattle.surf_surfaces.specs.Surface.{edge_count, ends}
use Rattle.surf_opening.specs.Laws.{TellsCut, cut_count}
use Rattle.surf_surfaces.specs.Degrees.{degree_in}
use Rattle.surf_opening.specs.Named.{IsTrimmedByGreatest}
use Rattle.surf_opening.specs.Side.{Side}
use Rattle.surf_seams.specs.Through.{IsTakenBackTo}
use Rattle.surf_cutter.specs.Kinds.{is_point}

-- the set of the edges with a flag
abbrev pub is_cut : List Bool → Chain
is_cut cut e = slice_index_or cut e false

-- one flag an edge, and how many cut edges each vertex has
pub record AreDegrees (mesh : Mesh) (cut : List Bool) (degree : List ℕ) : Type 0 where
  pub flags : length cut ≡ edge_count mesh
  pub size : length degree ≡ mesh.vertices
  pub counted : (v : ℕ) → v < mesh.vertices → slice_index degree v ≡ degree_in mesh (is_cut cut) v

-- a cut edge between p and q
pub record IsCutBetween (mesh : Mesh) (cut : List Bool) (p q e : ℕ) : Type 0 where
  pub is_edge : e < edge_count mesh
  pub is_cut : slice_index_or cut e false ≡ true
  pub its_ends : ends mesh e ≡ pair p q

-- the edge of a leaf p is taken out of the cut
pub record IsTakenBack (mesh : Mesh) (p q : ℕ) (old new : List Bool) (degree less : List ℕ) : Type 0 where
  pub taken : (e : ℕ) × IsCutBetween mesh old p q e × (new ≡ slice_set old e false)
  pub other_end : q < mesh.vertices
  pub degrees : AreDegrees mesh new less
  pub leaf_done : slice_index less p ≡ 0
  pub others : (v : ℕ) → v ≢ p → v ≢ q → slice_index less v ≡ slice_index degree v

-- one cut comes from the other by taking back, one by one, the edge of the greatest vertex with exactly one cut edge,
-- while more than two are cut
abbrev pub IsTrimmedFrom : Mesh → List Bool → List Bool → Type 0
IsTrimmedFrom mesh old new =
    (list uncut : List (ℕ × ℕ)) → IsTrimmedByGreatest (Side mesh) list uncut → TellsCut mesh uncut (is_cut old) →
    (more : List (ℕ × ℕ)) × IsTrimmedByGreatest (Side mesh) list more × TellsCut mesh more (is_cut new)

-- while more than two edges are cut, no vertex from the given one on has exactly one of them
abbrev pub HasNoLeafFrom : Mesh → ℕ → List ℕ → ℕ → Type 0
HasNoLeafFrom mesh low degree count = 2 < count → (v : ℕ) → low ≤ v → v < mesh.vertices → slice_index degree v ≢ 1

-- no more than two edges are cut, or no vertex has exactly one of them
abbrev pub HasEndedBy : Mesh → List Bool → Type 0
HasEndedBy mesh cut =
    (cut_count mesh (is_cut cut) ≤ 2) ⊎ ((v : ℕ) → v < mesh.vertices → degree_in mesh (is_cut cut) v ≢ 1)

-- ---- cuts through vertices

-- whether a vertex has a mark
abbrev pub is_marked : List Bool → ℕ → Bool
is_marked marks v = slice_index_or marks v false

-- one cut comes from the other by taking back, one by one, the only edge of a vertex without a mark
abbrev pub IsTakenFrom : Mesh → List Bool → List Bool → List Bool → Type 0
IsTakenFrom mesh marks old new =
    (full : Chain) → IsTakenBackTo mesh (is_marked marks) full (is_cut old) →
    IsTakenBackTo mesh (is_marked marks) full (is_cut new)

-- no vertex without a mark that is below the given one has exactly one cut edge
abbrev pub HasNoLooseBelow : Mesh → List Bool → ℕ → List ℕ → Type 0
HasNoLooseBelow mesh marks high degree =
    (v : ℕ) → v < high → v < mesh.vertices → is_marked marks v ≡ false → slice_index degree v ≢ 1

-- no vertex without a mark has exactly one cut edge
abbrev pub HasMarkedEnds : Mesh → List Bool → List Bool → Type 0
HasMarkedEnds mesh marks cut =
    (v : ℕ) → v < mesh.vertices → is_marked marks v ≡ false → degree_in mesh (is_cut cut) v ≢ 1

-- the marks are of the vertices in the list
pub record AreMarked (vertices : ℕ) (points : List ℕ) (marks : List Bool) : Type 0 where
  pub size : length marks ≡ vertices
  pub at : (v : ℕ) → v < vertices → is_marked marks v ≡ is_point points v

-- What is left of a cut where the only edge of a vertex out of the list is taken back, again and again, until there is
-- none.
pub record IsTakenTo (mesh : Mesh) (points : List ℕ) (old new : List Bool) : Type 0 where
  pub marks : List Bool
  pub are : AreMarked mesh.vertices points marks
  pub taken : IsTakenFrom mesh marks old new
  pub ended : HasMarkedEnds mesh marks new
