-- Chains of tori are surfaces.
use Rattle.surf_surfaces.proofs.Common.{◌≡◌, ◌≢◌, ℕ, zero, suc, ◌+◌, ◌-◌, ◌*◌, ◌<◌, ◌≤◌, ◌⊎◌, length, refl, sym, ap, ◌∙◌, arith, inl, inr, subst, Contains, le-ltb, length-map, after, before, face_count, face_at, HasCorner, IsSurface, pos, ◌-ℤ◌, same_from_place, mul-le, Mesh, characteristic}
use Rattle.surf_tori.specs.Torus.{torus}
use Rattle.surf_tori.specs.ConnectedSum.{connected_sum, CanLose}
use Rattle.surf_tori.specs.Chain.{joint, last_joint, longer_chain, chain, ChainsAreSurfaces, ChainsHaveCharacteristic, ChainCounts}
use Rattle.surf_tori.proofs.TriangleLaws.{corner_of}
use Rattle.surf_tori.proofs.GridLaws.{IsGrid, place, low, grid_is_coherent}
use Rattle.surf_tori.proofs.GridFans.{grid_is_surface, grid_triangles, grid_fans_without}
use Rattle.surf_tori.proofs.EulerLaws.{triangle_edges, characteristic_less}
use Rattle.surf_tori.proofs.TorusLaws.{torus_is_grid, count}
use Rattle.surf_tori.proofs.SumLaws.{behind, losing_of, sum_is_glued, sum_count, sum_can_lose}

-- a mesh of triangles alone
abbrev pub AllTriangles : Mesh → Type 0
AllTriangles mesh = (f : ℕ) → f < face_count mesh → length (face_at mesh f) ≡ 3

module _ (a b : ℕ) (wide : 4 ≤ a) (high : 4 ≤ b) where
  pub grid : IsGrid (torus a b) a b (after a) (before a) (after b) (before b)
  grid = torus_is_grid a b (omega arith) (omega arith)

  pub torus_count : face_count (torus a b) ≡ 2 * (a * b)
  torus_count = count a b (omega arith) (omega arith)

  -- a torus can lose the first face of each cell
  cell_can_go : (i j : ℕ) → i < a → j < b → CanLose (torus a b) (low b i j)
  cell_can_go i j x y = record {
    surface = grid_is_surface grid;
    coherent = grid_is_coherent grid;
    is_face = grid.first_in i j x y;
    triangle = grid_triangles grid (low b i j) (grid.first_in i j x y);
    fans = grid_fans_without grid i j;
  }

  pub first_can_go : CanLose (torus a b) 0
  first_can_go =
      let zero_is : low b 0 0 ≡ 0 = omega arith in
      subst (CanLose (torus a b)) zero_is (cell_can_go 0 0 (omega arith) (omega arith))

  pub joint_in : joint b < face_count (torus a b)
  joint_in = grid.first_in 2 2 (omega arith) (omega arith)

  -- the two faces that are left out have no corner in common
  row_of : (i j v : ℕ) → i < a → j < b → HasCorner (torus a b) (low b i j) v →
      (k : ℕ) × (l : ℕ) × (l < b) × (v ≡ place b k l) × ((k ≡ i) ⊎ (k ≡ after a i))
  row_of i j v x y c =
      elim (corner_of (place b i j) (place b (after a i) j) (place b (after a i) (after b j)) v
      (subst (λ face. Contains face v) (grid.first i j x y) c.1)) [
        | inl e ↦ (i, j, y, e, inl refl)
        | inr o ↦ elim o [
          | inl e ↦ (after a i, j, y, e, inr refl)
          | inr e ↦ (after a i, after b j, grid.columns.next_below j y, e, inr refl)
        ]
      ]

  apart : (v : ℕ) → HasCorner (torus a b) 0 v → HasCorner (torus a b) (joint b) v → ⊥
  apart v c d =
      let zero_is : 0 ≡ low b 0 0 = omega arith in
      let p = row_of 0 0 v (omega arith) (omega arith) (subst (λ f. HasCorner (torus a b) f v) zero_is c) in
      let q = row_of 2 2 v (omega arith) (omega arith) d in
      let same : p.0 ≡ q.0 = (same_from_place p.0 p.1 q.0 q.1 b p.2 q.2 (sym p.3 ∙ q.3)).0 in
      let one : after a 0 ≡ 1 = grid.rows.step 0 (omega arith) ∙ omega arith in
      let three : after a 2 ≡ 3 = grid.rows.step 2 (omega arith) ∙ omega arith in
      elim p.4 [
        | inl e ↦ elim q.4 [ inl g ↦ omega (arith, same, e, g) | inr g ↦ omega (arith, same, e, g, three) ]
        | inr e ↦ elim q.4 [ inl g ↦ omega (arith, same, e, g, one) | inr g ↦ omega (arith, same, e, g, one, three) ]
      ]

  -- what holds of a chain, so that one more torus can be joined
  pub record IsLongChain (k : ℕ) (mesh : Mesh) : Type 0 where
    pub can : CanLose mesh (last_joint mesh a b)
    pub triangles : AllTriangles mesh
    pub vertices : mesh.vertices + 3 * k ≡ (k + 1) * (a * b)
    pub faces : face_count mesh + 2 * k ≡ 2 * ((k + 1) * (a * b))

  one_torus : IsLongChain 0 (torus a b)
  one_torus =
      let all = torus_count in
      let below = joint_in in
      let is : low b 2 2 ≡ last_joint (torus a b) a b = omega (arith, all, below) in
      record {
        can = subst (CanLose (torus a b)) is (cell_can_go 2 2 (omega arith) (omega arith));
        triangles = grid_triangles grid;
        vertices = omega arith;
        faces = omega (arith, all);
      }

  one_more : (k : ℕ) (mesh : Mesh) → IsLongChain k mesh →
      IsLongChain (suc k) (connected_sum mesh (last_joint mesh a b) (torus a b) 0)
  one_more k mesh long =
      let f = last_joint mesh a b in
      let all = torus_count in
      let below = joint_in in
      let one = losing_of mesh f long.can in
      let two = losing_of (torus a b) 0 first_can_go in
      let glued = sum_is_glued long.can.is_face first_can_go.is_face one.3.triangle two.3.triangle long.can.coherent
      first_can_go.coherent in
      let total = sum_count long.can.is_face first_can_go.is_face one.3.triangle two.3.triangle long.can.coherent
      first_can_go.coherent in
      let other : joint b ≢ 0 = λ e. omega arith in
      let sum = connected_sum mesh f (torus a b) 0 in
      let lost = sum_can_lose mesh (torus a b) f 0 (joint b) long.can first_can_go below other
      (grid_triangles grid (joint b) below) (grid_fans_without grid 2 2) apart in
      let f_in = long.can.is_face in
      let at : behind (face_count mesh) 0 (joint b) ≡ last_joint sum a b =
      rw (le-ltb (joint b) 0 (omega arith)) (omega (arith, all, below, total, f_in)) in
      let cells : 16 ≤ a * b = mul-le 4 4 a b wide high in
      record {
        can = subst (CanLose sum) at lost;
        triangles = λ x in'. elim (glued.faces x in') [
          | inl l ↦ ap length (ap (face_at sum) l.3 ∙ glued.left_face l.0 l.1 l.2) ∙ long.triangles l.0 l.1
          | inr q ↦ ap length (ap (face_at sum) q.3 ∙ glued.right_face q.0 q.1 q.2)
              ∙ length-map (face_at (torus a b) q.0) _ ∙ grid_triangles grid q.0 q.1
        ];
        vertices = let v = long.vertices in omega (arith, v, cells);
        faces = let n = long.faces in omega (arith, n, all, total);
      }

  pub long_chain : (k : ℕ) → IsLongChain k (longer_chain k a b)
  long_chain zero = one_torus
  long_chain (suc k) = one_more k (longer_chain k a b) (long_chain k)

  last_of : (g : ℕ) → 1 ≤ g → (g - 1) + 1 ≡ g
  last_of g some = omega arith

  chain_long : (g : ℕ) → IsLongChain (g - 1) (chain g a b)
  chain_long g = long_chain (g - 1)

  pub chain_is_surface : (g : ℕ) → IsSurface (chain g a b)
  chain_is_surface g = (chain_long g).can.surface

  pub chain_counts : (g : ℕ) → 1 ≤ g → ChainCounts g a b
  chain_counts g some =
      let long = chain_long g in
      let v : (chain g a b).vertices + 3 * (g - 1) ≡ g * (a * b) =
      long.vertices ∙ ap (λ n. n * (a * b)) (last_of g some) in
      let f : face_count (chain g a b) + 2 * (g - 1) ≡ 2 * (g * (a * b)) =
      long.faces ∙ ap (λ n. 2 * (n * (a * b))) (last_of g some) in
      record {
        vertices = omega (arith, v);
        faces = omega (arith, f);
        edges = sym (triangle_edges (chain g a b) long.can.surface long.triangles);
      }

  pub chain_characteristic : (g : ℕ) → 1 ≤ g → characteristic (chain g a b) ≡ pos 2 -ℤ pos (2 * g)
  chain_characteristic g some =
      let long = chain_long g in
      let edges = triangle_edges (chain g a b) long.can.surface long.triangles in
      let v = long.vertices in
      let f = long.faces in
      characteristic_less (chain g a b) (2 * g) (omega (arith, some, edges, v, f))

pub chains_are_surfaces : ChainsAreSurfaces
chains_are_surfaces g a b some x y = chain_is_surface a b x y g

pub chains_have_characteristic : ChainsHaveCharacteristic
chains_have_characteristic g a b some x y = chain_characteristic a b x y g some

pub chains_have_counts : (g a b : ℕ) → 1 ≤ g → 4 ≤ a → 4 ≤ b → ChainCounts g a b
chains_have_counts g a b some x y = chain_counts a b x y g some
