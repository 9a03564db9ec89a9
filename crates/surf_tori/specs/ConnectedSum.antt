-- Connected sums: two surfaces, joined along a triangle that is left out of both.
use Rattle.std.specs.Prelude.{◌≡◌, ◌≢◌, ℕ, ◌+◌, ◌-◌, ◌<◌, ◌==◌, not, if◌then◌else◌, List, ◌++◌, length, map, take}
use Rattle.std.specs.Prelude.{drop, pos, ◌+ℤ◌, ◌-ℤ◌}
use Rattle.std.specs.List.{list_any}
use Rattle.surf_z2.specs.Parity.{count_below}
use Rattle.surf_surfaces.specs.Joined.{Joined}
use Rattle.surf_surfaces.specs.Mesh.{Mesh, characteristic}
use Rattle.surf_surfaces.specs.Side.{corner}
use Rattle.surf_surfaces.specs.Surface.{face_count, face_at, HasCorner, ShareAt, IsSurface}
use Rattle.surf_tori.specs.Coherent.{IsCoherent}

-- a list without what stands at a place
abbrev pub without : {X : Type 0} → ℕ → List X → List X
without n xs = take n xs ++ drop (n + 1) xs

-- how many vertices before v aren't corners of the face
abbrev pub others_before : List ℕ → ℕ → ℕ
others_before face v = count_below v (λ w. not (list_any (λ c. c == w) face))

-- The number of the second mesh's vertex v in a connected sum. The corners of the second mesh's face are those of the
-- first one's, the other way round; all others go on, in order, from where the first mesh's vertices end.
abbrev pub sum_name : ℕ → List ℕ → List ℕ → ℕ → ℕ
sum_name start face other v =
    if v == corner other 0 then corner face 0
    else (if v == corner other 1 then corner face 2
    else (if v == corner other 2 then corner face 1 else start + others_before other v))

-- the faces of the first mesh without f, and then those of the second without h
abbrev pub connected_sum : Mesh → ℕ → Mesh → ℕ → Mesh
connected_sum first f second h = record {
  vertices = first.vertices + (second.vertices - 3);
  faces = without f first.faces
      ++ map (map (sum_name first.vertices (face_at first f) (face_at second h))) (without h second.faces);
}

-- two faces other than f that share an edge at the vertex
abbrev pub ShareBeside : Mesh → ℕ → ℕ → ℕ → ℕ → Type 0
ShareBeside mesh f v g k = (g ≢ f) × (k ≢ f) × ShareAt mesh v g k

-- a coherently oriented surface with a triangle without which the faces at each vertex stay joined
pub record CanLose (mesh : Mesh) (f : ℕ) : Type 0 where
  pub surface : IsSurface mesh
  pub coherent : IsCoherent mesh
  pub is_face : f < face_count mesh
  pub triangle : length (face_at mesh f) ≡ 3
  pub fans : (v : ℕ) → v < mesh.vertices → (g k : ℕ) → g ≢ f → k ≢ f → HasCorner mesh g v → HasCorner mesh k v →
      Joined (ShareBeside mesh f v) g k

-- The connected sum of two surfaces is a surface, where each is coherently listed and the faces at
-- each vertex stay joined without the triangle that it leaves out.
abbrev pub ConnectedSumsAreSurfaces : Type 0
ConnectedSumsAreSurfaces =
    (first second : Mesh) (f h : ℕ) → CanLose first f → CanLose second h → IsSurface (connected_sum first f second h)

-- The characteristic of a connected sum is 2 less than the sum of those of its parts.
abbrev pub ConnectedSumsLoseTwo : Type 0
ConnectedSumsLoseTwo =
    (first second : Mesh) (f h : ℕ) → CanLose first f → CanLose second h →
    characteristic (connected_sum first f second h) ≡ (characteristic first +ℤ characteristic second) -ℤ pos 2
