-- Faces up to which no edge of the tree of faces has a shorter loop, and left edges that are still doubtful.
use Rattle.std.specs.Prelude.{◌≡◌, ◌≢◌, ℕ, ◌<◌, ◌≤◌, ◌⊎◌, Bool, true, false, List, MatchBool, length, get_or, slice_index}
use Rattle.surf_graphs.specs.Growth.{between}
use Rattle.surf_surfaces.specs.Surface.{edge_count, face_count}
use Rattle.surf_validity.specs.Valid.{depth_at, dual_tree, is_listed, loop_size, HasNoShorter}
use Rattle.surf_certcheck.specs.declared.heavier.Judge.{Judge}

-- how long the loop of an edge is
abbrev pub size_at : Judge → ℕ → ℕ
size_at judge c = loop_size judge.mesh.now judge.lengths.now judge.cert.now.tree c

-- whether an edge is on the way between two faces in the tree of faces
abbrev pub is_between : Judge → ℕ → ℕ → ℕ → Bool
is_between judge = between (dual_tree judge.mesh.now judge.cert.now.dual)

-- the edge by which a face hangs
abbrev pub hangs_by : Judge → ℕ → ℕ
hangs_by judge = (dual_tree judge.mesh.now judge.cert.now.dual).up

-- no edge between two faces has a loop shorter than the limit
abbrev pub IsClear : Judge → ℕ → ℕ → ℕ → Type 0
IsClear judge limit near far = (c : ℕ) → is_between judge near far c ≡ true → limit ≤ size_at judge c

-- a face hangs by an edge whose loop is no shorter than the limit
abbrev pub IsHeld : Judge → ℕ → ℕ → Type 0
IsHeld judge limit f = (f ≢ 0) × (limit ≤ size_at judge (hangs_by judge f))

-- a face above another, up to which no loop is shorter than that of the edge by which the lower one hangs, or than
-- the limit
pub record IsTop (judge : Judge) (limit f top : ℕ) : Type 0 where
  pub inside : top < face_count judge.mesh.now
  pub higher : depth_at judge.cert.now.dual top < depth_at judge.cert.now.dual f
  pub clear : (c : ℕ) → is_between judge f top c ≡ true →
      (size_at judge (hangs_by judge f) ≤ size_at judge c) ⊎ (limit ≤ size_at judge c)

-- each face but face 0 has one
pub record AreTops (judge : Judge) (limit : ℕ) (tops : List ℕ) : Type 0 where
  pub count : length tops ≡ face_count judge.mesh.now
  pub each : (f : ℕ) → f < face_count judge.mesh.now → f ≢ 0 → IsTop judge limit f (slice_index tops f)

-- an edge that is flagged is listed as left, and one that isn't could not be exchanged for an edge with a shorter loop
abbrev pub IsDoubt : Judge → Bool → ℕ → Type 0
IsDoubt judge flag e =
    MatchBool flag (is_listed judge.mesh.now judge.cert.now.left e ≡ true)
    (HasNoShorter judge.mesh.now judge.lengths.now judge.cert.now e)

-- all edges that could be exchanged are flagged
pub record AreDoubts (judge : Judge) (flags : List Bool) : Type 0 where
  pub count : length flags ≡ edge_count judge.mesh.now
  pub each : (e : ℕ) → e < edge_count judge.mesh.now → IsDoubt judge (get_or flags e false) e
