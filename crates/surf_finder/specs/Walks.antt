-- The walks of loops, and candidates by their lengths.
use Rattle.std.specs.Prelude.{ℕ, ◌≡◌, ◌≢◌, ◌<◌, ◌≤◌, ◌⊎◌, ◌++◌, [], ◌∷◌, IsTrue, List, Option, IfSome, length, slice_index_or}
use Rattle.surf_graphs.specs.Loops.{way_up}
use Rattle.surf_graphs.specs.Trees.{Tree}
use Rattle.surf_surfaces.specs.Mesh.{Mesh}
use Rattle.surf_surfaces.specs.Surface.{edge_count, ends}
use Rattle.surf_surfaces.specs.Loop.{loop_walk, loop_length}
use Rattle.surf_surfaces.specs.ShortestTree.{IsShortestTree}
use Rattle.surf_near.specs.Near.{NearTables, IsNear, is_near}
use Rattle.surf_choice.specs.declared.candidate.Candidate.{Candidate}
use Rattle.surf_choice.specs.declared.candidate.Signed.{Signed}

-- a list grew by a vertex and those on its way up, by each tree of shortest walks from a base
abbrev pub AddsWay : Mesh → List ℕ → ℕ → ℕ → List ℕ → List ℕ → Type 0
AddsWay mesh lengths base v old new = (tree : Tree) → IsShortestTree mesh lengths base tree →
    new ≡ old ++ v ∷ way_up tree (tree.rank v) v

-- a walk is the loop of an edge at a base
abbrev pub IsLoopWalk : Mesh → List ℕ → ℕ → ℕ → List ℕ → Type 0
IsLoopWalk mesh lengths base e walk = (tree : Tree) → IsShortestTree mesh lengths base tree → walk ≡ loop_walk mesh tree e

-- a candidate's length is that of the loop of its edge at its base
pub record IsMeasured (mesh : Mesh) (lengths : List ℕ) (c : Candidate) : Type 0 where
  pub base_in : c.base < mesh.vertices
  pub edge_in : c.edge < edge_count mesh
  pub size : (tree : Tree) → IsShortestTree mesh lengths c.base tree → c.length ≡ loop_length mesh lengths tree c.edge

-- the tables are those of a search from a base that went as far as given, or farther
pub record IsReachedTo (mesh : Mesh) (lengths : List ℕ) (base far : ℕ) (t : NearTables) : Type 0 where
  pub went : ℕ
  pub enough : far ≤ went
  pub near : IsNear mesh lengths base went t

-- where it is known how far the last search went, the tables are those of a search from their base that went so far
abbrev pub IsKnown : Mesh → List ℕ → NearTables → Option ℕ → Type 0
IsKnown mesh lengths t far = IfSome far (λ went. IsNear mesh lengths t.base went t)

-- ---- the walks of several loops

-- a search reached both ends of an edge
pub record HasReachedEnds (mesh : Mesh) (t : NearTables) (e : ℕ) : Type 0 where
  pub edge_in : e < edge_count mesh
  pub low : IsTrue (is_near t (ends mesh e).0)
  pub high : IsTrue (is_near t (ends mesh e).1)

-- a walk is that of a candidate's loop
abbrev pub IsWalkOf : Mesh → List ℕ → Signed → List ℕ → Type 0
IsWalkOf mesh lengths s walk = IsLoopWalk mesh lengths s.candidate.base s.candidate.edge walk

-- of the first candidates those at a base have the walks of their loops, and the walks of candidates at other bases are
-- as they were
pub record AreWritten (mesh : Mesh) (lengths : List ℕ) (kept : List Signed) (base done : ℕ)
    (old new : List (List ℕ)) : Type 0 where
  pub count : length new ≡ length old
  pub here : (k : ℕ) (s : Signed) → k < done → k < length kept → (slice_index_or kept k s).candidate.base ≡ base →
      IsWalkOf mesh lengths (slice_index_or kept k s) (slice_index_or new k [])
  pub others : (k : ℕ) (s : Signed) → k < length kept → (slice_index_or kept k s).candidate.base ≢ base →
      slice_index_or new k [] ≡ slice_index_or old k []

-- each candidate has the walk of its loop or none yet, and the first ones have theirs
pub record AreWrittenTo (mesh : Mesh) (lengths : List ℕ) (kept : List Signed) (done : ℕ) (walks : List (List ℕ)) : Type 0 where
  pub count : length walks ≡ length kept
  pub either : (k : ℕ) (s : Signed) → k < length kept →
      (slice_index_or walks k [] ≡ []) ⊎ IsWalkOf mesh lengths (slice_index_or kept k s) (slice_index_or walks k [])
  pub written : (k : ℕ) (s : Signed) → k < done → k < length kept →
      IsWalkOf mesh lengths (slice_index_or kept k s) (slice_index_or walks k [])

-- each candidate has the walk of its loop
pub record AreWalksOf (mesh : Mesh) (lengths : List ℕ) (kept : List Signed) (walks : List (List ℕ)) : Type 0 where
  pub count : length walks ≡ length kept
  pub each : (k : ℕ) (s : Signed) → k < length kept →
      IsWalkOf mesh lengths (slice_index_or kept k s) (slice_index_or walks k [])
