-- What is wrong with evidence that is not right: its first fault.
use Rattle.std.specs.Prelude.{◌≡◌, ◌≢◌, ℕ, ◌<◌, ◌≤◌, true, false, List, All, Contains}
use Rattle.surf_z2.specs.Space.{Chain}
use Rattle.surf_surfaces.specs.Mesh.{Mesh, pair_lt, among, edges}
use Rattle.surf_surfaces.specs.Surface.{face_count, edge_count, ends}
use Rattle.surf_surfaces.specs.Homology.{boundary}
use Rattle.surf_classes.specs.Evidence.{is_listed, has_odd_sides, is_odd_in, Evidence, null_faces, odd_pairs}

-- a listed face that is none, an edge in just one of the chain and the boundary, a listed pair that is no edge, a face
-- with an odd number of listed sides, or an even number of listed edges of the chain
pub data Fault : Type 0 where
  no_face : ℕ → Fault
  no_boundary : ℕ → ℕ → Fault
  no_pair : ℕ → ℕ → Fault
  odd_face : ℕ → Fault
  even_number : Fault

-- a listed face that is none of the mesh, the least
pub record IsNoFace (mesh : Mesh) (faces : List ℕ) (f : ℕ) : Type 0 where
  pub listed : is_listed faces f ≡ true
  pub outside : face_count mesh ≤ f
  pub least : (g : ℕ) → g < f → is_listed faces g ≡ true → g < face_count mesh

-- the ends of the first edge that is in exactly one of the chain and the boundary of the faces
pub record IsNoBoundary (mesh : Mesh) (chain : Chain) (faces : List ℕ) (u v : ℕ) : Type 0 where
  pub are_faces : All (λ f. f < face_count mesh) faces
  pub edge : ℕ
  pub is_edge : edge < edge_count mesh
  pub its_ends : ends mesh edge ≡ (u, v)
  pub differs : boundary mesh (is_listed faces) edge ≢ chain edge
  pub least : (e : ℕ) → e < edge → boundary mesh (is_listed faces) e ≡ chain e

-- a listed pair that is no edge, the least
pub record IsNoPair (mesh : Mesh) (pairs : List (ℕ × ℕ)) (u v : ℕ) : Type 0 where
  pub listed : among (u, v) pairs ≡ true
  pub outside : among (u, v) (edges mesh) ≡ false
  pub least : (p : ℕ × ℕ) → pair_lt p (u, v) ≡ true → among p pairs ≡ true → among p (edges mesh) ≡ true

-- the first face that has an odd number of its sides among the pairs
pub record IsOddFace (mesh : Mesh) (pairs : List (ℕ × ℕ)) (f : ℕ) : Type 0 where
  pub are_edges : All (Contains (edges mesh)) pairs
  pub is_face : f < face_count mesh
  pub odd_sides : has_odd_sides mesh pairs f ≡ true
  pub least : (g : ℕ) → g < f → has_odd_sides mesh pairs g ≡ false

-- an even number of the pairs are in the chain
pub record IsEvenNumber (mesh : Mesh) (chain : Chain) (pairs : List (ℕ × ℕ)) : Type 0 where
  pub are_edges : All (Contains (edges mesh)) pairs
  pub faces_even : (f : ℕ) → f < face_count mesh → has_odd_sides mesh pairs f ≡ false
  pub chain_even : is_odd_in mesh chain pairs ≡ false

-- the first fault of faces as null evidence, or of pairs as odd evidence
abbrev pub IsFirstFault : Mesh → Chain → Evidence → Fault → Type 0
IsFirstFault mesh chain (null_faces faces) (no_face f) = IsNoFace mesh faces f
IsFirstFault mesh chain (null_faces faces) (no_boundary u v) = IsNoBoundary mesh chain faces u v
IsFirstFault mesh chain (odd_pairs pairs) (no_pair u v) = IsNoPair mesh pairs u v
IsFirstFault mesh chain (odd_pairs pairs) (odd_face f) = IsOddFace mesh pairs f
IsFirstFault mesh chain (odd_pairs pairs) even_number = IsEvenNumber mesh chain pairs
IsFirstFault mesh chain evidence fault = ⊥
