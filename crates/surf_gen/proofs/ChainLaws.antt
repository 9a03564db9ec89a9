-- What the code of chains needs of numbers and lists.
use Rattle.surf_surfaces.proofs.Common.{◌≡◌, ℕ, ◌+◌, ◌-◌, ◌*◌, ◌<◌, ◌≤◌, not, List, [], ◌∷◌, ◌++◌, length, get_or, map, take, drop, slice_index, sym, ap, ◌∙◌, arith, list_any, sum_by, ◌==◌, mul-le, Mesh, face_count, face_at, sum_by-cons, sum_by-append, count_few}
use Rattle.std.proofs.lemmas.List.{append_assoc, map-append, get_or_default}
use Rattle.surf_tori.specs.Torus.{torus}
use Rattle.surf_tori.specs.ConnectedSum.{others_before}
use Rattle.surf_tori.specs.Chain.{longer_chain}
use Rattle.surf_tori.proofs.GridFans.{grid_triangles}
use Rattle.surf_tori.proofs.TorusLaws.{torus_is_grid, count}
use Rattle.surf_tori.proofs.ListLaws.{part_more}
use Rattle.surf_tori.proofs.ChainLaws.{chains_have_counts}
use Rattle.surf_tori.proofs.PartLaws.{sizes_grow}

pub others_below : (face : List ℕ) (v : ℕ) → others_before face v ≤ v
others_below face v = count_few (λ w. not (list_any (λ c. c == w) face)) v

pub torus_triangles : (a b f : ℕ) → 3 ≤ a → 3 ≤ b → f < 2 * (a * b) → length (face_at (torus a b) f) ≡ 3
torus_triangles a b f x y in' =
    let all = count a b x y in
    grid_triangles (torus_is_grid a b x y) f (omega (arith, all, in'))

number_at : (numbers : List ℕ) (p u x : ℕ) → u < length numbers → u ≡ p → x ≡ get_or numbers u x →
    x ≡ slice_index numbers p
number_at numbers p u x in' e is = is ∙ get_or_default numbers u x 0 in' ∙ ap (slice_index numbers) e

-- a triangle whose corners are read off and looked up
pub looked_up : (numbers face : List ℕ) (u v w x y z : ℕ) → length face ≡ 3 → u < length numbers →
    v < length numbers → w < length numbers → u ≡ get_or face 0 u → v ≡ get_or face 1 v → w ≡ get_or face 2 w →
    x ≡ get_or numbers u x → y ≡ get_or numbers v y → z ≡ get_or numbers w z →
    ◌≡◌ {A = List ℕ} (x ∷ y ∷ z ∷ []) (map (slice_index numbers) face)
looked_up numbers [] u v w x y z long a b c d e f g h i = absurd (omega arith)
looked_up numbers (p ∷ []) u v w x y z long a b c d e f g h i = absurd (omega arith)
looked_up numbers (p ∷ q ∷ []) u v w x y z long a b c d e f g h i = absurd (omega arith)
looked_up numbers (p ∷ q ∷ r ∷ []) u v w x y z long a b c d e f g h i =
    let first = number_at numbers p u x a d g in
    let second = number_at numbers q v y b e h in
    let third = number_at numbers r w z c f i in
    cc (first, second, third)
looked_up numbers (p ∷ q ∷ r ∷ s ∷ rest) u v w x y z long a b c d e f g h i = absurd (omega arith)

-- one face more
pub faces_more : (init faces : List (List ℕ)) (rename : List ℕ → List ℕ) (from f : ℕ) (corners : List ℕ) → from ≤ f →
    f < length faces → corners ≡ rename (get_or faces f []) →
    (init ++ map rename (take (f - from) (drop from faces))) ++ corners ∷ []
    ≡ init ++ map rename (take (f + 1 - from) (drop from faces))
faces_more init faces rename from f corners after in' is =
    let n = f - from in
    let at : from + n ≡ f = omega arith in
    let next : n + 1 ≡ f + 1 - from = omega arith in
    let front = take n (drop from faces) in
    let more = part_more faces from n [] (omega arith) in
    append_assoc init (map rename front) (corners ∷ [])
    ∙ ap (λ zs. init ++ zs)
    (ap (λ (x : List ℕ). map rename front ++ x ∷ []) (is ∙ ap (λ m. rename (get_or faces m [])) (sym at))
    ∙ sym (map-append rename front (get_or faces (from + n) [] ∷ []))
    ∙ ap (map rename) (sym more)
    ∙ ap (λ m. map rename (take m (drop from faces))) next)

pub sides_more : (faces : List (List ℕ)) (x y z : ℕ) →
    sum_by length (faces ++ (x ∷ y ∷ z ∷ []) ∷ []) ≡ sum_by length faces + 3
sides_more faces x y z =
    let one = sum_by-cons {X = List ℕ} length (x ∷ y ∷ z ∷ []) [] in
    let all = sum_by-append length faces ((x ∷ y ∷ z ∷ []) ∷ []) in
    omega (arith, one, all)

-- a torus of 4 rows and 4 columns or more has its joint
pub four_rows : (a b : ℕ) → 4 ≤ a → 4 ≤ b → (4 * b ≤ a * b) × (16 ≤ a * b)
four_rows a b x y = (mul-le 4 b a b x (omega arith), mul-le 4 4 a b x y)

-- what the limits of a chain say of each shorter one
pub record IsSmall (k a b : ℕ) : Type 0 where
  pub cells : a * b ≤ 1000000
  pub vertices : (longer_chain k a b).vertices ≤ 1000000
  pub faces : face_count (longer_chain k a b) ≤ 2000000

pub all_small : (g a b k : ℕ) → 1 ≤ g → 4 ≤ a → 4 ≤ b → k ≤ g - 1 → g * (a * b) - 3 * (g - 1) ≤ 1000000 →
    2 * (g * (a * b)) - 2 * (g - 1) ≤ 2000000 → IsSmall k a b
all_small g a b k some x y below few_vertices few_faces =
    let counts = chains_have_counts g a b some x y in
    let v = counts.vertices in
    let f = counts.faces in
    let one = sizes_grow a b x y 0 (g - 1) (omega arith) in
    let all = sizes_grow a b x y k (g - 1) below in
    let first = one.0 in
    let verts = all.0 in
    let faces = all.1 in
    record {
      cells = omega (arith, first, v, few_vertices);
      vertices = omega (arith, verts, v, few_vertices);
      faces = omega (arith, faces, f, few_faces);
    }

-- a mesh by its two parts
pub mesh_same : (m n : Mesh) → m.vertices ≡ n.vertices → m.faces ≡ n.faces → m ≡ n
mesh_same m n v f = λ i. record { vertices = v i; faces = f i }
