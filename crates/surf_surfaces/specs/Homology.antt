-- Homology over Z2: boundaries, null and independent walks, least systems of loops and bases.
use Rattle.std.specs.Prelude.{◌≡◌, ℕ, ◌+◌, ◌<◌, ◌≤◌, Bool, List, [], length, map, All, sum}
use Rattle.surf_surfaces.specs.Mesh.{Mesh}
use Rattle.surf_surfaces.specs.Surface.{face_count, edge_count, faces_of}
use Rattle.surf_surfaces.specs.Walk.{IsClosed, IsClosedAt, walk_length, parity}
use Rattle.surf_z2.specs.Parity.{xor, odd}
use Rattle.surf_z2.specs.Space.{chosen}

-- whether exactly one of the two faces of the e-th edge is in the set
abbrev pub boundary : Mesh → (ℕ → Bool) → ℕ → Bool
boundary mesh faces e = xor (faces (faces_of mesh e).0) (faces (faces_of mesh e).1)

-- a set of edges that is the boundary of some set of faces
abbrev pub IsBoundary : Mesh → (ℕ → Bool) → Type 0
IsBoundary mesh chain = (faces : ℕ → Bool) × ((e : ℕ) → e < edge_count mesh → chain e ≡ boundary mesh faces e)

-- a closed walk is null where the edges that it runs an odd number of times are a boundary
abbrev pub IsNull : Mesh → List ℕ → Type 0
IsNull mesh walk = IsBoundary mesh (parity mesh walk)

-- whether the walks together run the e-th edge an odd number of times
abbrev pub total_parity : Mesh → List (List ℕ) → ℕ → Bool
total_parity mesh walks e = odd (map (λ walk. parity mesh walk e) walks)

-- the edges that one or more of the walks together run an odd number of times are never a boundary
abbrev pub IsIndependent : Mesh → List (List ℕ) → Type 0
IsIndependent mesh walks =
    (choice : List Bool) → IsBoundary mesh (total_parity mesh (chosen choice walks)) → chosen choice walks ≡ []

-- as many as 2 − χ
abbrev pub IsLoopCount : Mesh → ℕ → Type 0
IsLoopCount mesh n = n + mesh.vertices + face_count mesh ≡ edge_count mesh + 2

-- a loop system at a vertex: as many independent closed walks that begin there as 2 − χ
pub record IsLoopSystem (mesh : Mesh) (base : ℕ) (walks : List (List ℕ)) : Type 0 where
  pub at_base : All (IsClosedAt mesh base) walks
  pub count : IsLoopCount mesh (length walks)
  pub independent : IsIndependent mesh walks

-- a basis: as many independent closed walks as 2 − χ
pub record IsBasis (mesh : Mesh) (walks : List (List ℕ)) : Type 0 where
  pub closed : All (IsClosed mesh) walks
  pub count : IsLoopCount mesh (length walks)
  pub independent : IsIndependent mesh walks

-- the sum of the lengths of the walks
abbrev pub total : Mesh → List ℕ → List (List ℕ) → ℕ
total mesh lengths walks = sum (map (walk_length mesh lengths) walks)

-- no loop system at the vertex is shorter in total
pub record IsLeastLoopSystem (mesh : Mesh) (lengths : List ℕ) (base : ℕ)
    (walks : List (List ℕ)) : Type 0 where
  pub is_system : IsLoopSystem mesh base walks
  pub least : (others : List (List ℕ)) → IsLoopSystem mesh base others →
      total mesh lengths walks ≤ total mesh lengths others

-- no basis is shorter in total
pub record IsLeastBasis (mesh : Mesh) (lengths : List ℕ) (walks : List (List ℕ)) : Type 0 where
  pub is_basis : IsBasis mesh walks
  pub least : (others : List (List ℕ)) → IsBasis mesh others →
      total mesh lengths walks ≤ total mesh lengths others
