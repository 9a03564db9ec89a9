-- Simple cycles, and which of them separate.
use Rattle.std.specs.Prelude.{◌≡◌, ◌≢◌, ℕ, ◌<◌, ◌≤◌, Bool, true, false, List, [], ◌∷◌, length, AllPairs, Contains}
use Rattle.surf_surfaces.specs.Mesh.{Mesh, pair_of, steps}
use Rattle.surf_surfaces.specs.Surface.{face_count, edge_count, ends, faces_of}
use Rattle.surf_surfaces.specs.Walk.{IsClosed, walk_length}

-- all but the first
abbrev pub tail : List ℕ → List ℕ
tail [] = []
tail (v ∷ rest) = rest

-- a closed walk of at least three steps in which no vertex stands twice but the first and last
pub record IsSimpleCycle (mesh : Mesh) (walk : List ℕ) : Type 0 where
  pub closed : IsClosed mesh walk
  pub three_steps : 3 ≤ length (steps walk)
  pub distinct : AllPairs (λ u v. u ≢ v) (tail walk)

-- a step of the walk is along the e-th edge, in either direction
abbrev pub RunsAlong : Mesh → List ℕ → ℕ → Type 0
RunsAlong mesh walk e = (s : ℕ × ℕ) × Contains (steps walk) s × (pair_of s ≡ ends mesh e)

-- two classes of faces, both nonempty, such that two faces that share an edge off the walk are in one class
pub record Separation (mesh : Mesh) (walk : List ℕ) : Type 0 where
  pub class : ℕ → Bool
  pub some_in : (f : ℕ) × (f < face_count mesh) × (class f ≡ true)
  pub some_out : (f : ℕ) × (f < face_count mesh) × (class f ≡ false)
  pub same_off : (e : ℕ) → e < edge_count mesh → (RunsAlong mesh walk e → ⊥) →
      class (faces_of mesh e).0 ≡ class (faces_of mesh e).1

-- a simple cycle that does not separate the faces
pub record IsNonseparating (mesh : Mesh) (walk : List ℕ) : Type 0 where
  pub simple : IsSimpleCycle mesh walk
  pub separates_not : Separation mesh walk → ⊥

-- no nonseparating simple cycle is shorter
pub record IsShortestNonseparating (mesh : Mesh) (lengths : List ℕ) (walk : List ℕ) : Type 0 where
  pub nonseparating : IsNonseparating mesh walk
  pub shortest : (other : List ℕ) → IsNonseparating mesh other →
      walk_length mesh lengths walk ≤ walk_length mesh lengths other
