-- The torus of a by b squares is a surface of characteristic 0.
use Rattle.surf_surfaces.proofs.Common.{◌≡◌, ◌≢◌, ℕ, zero, suc, ◌+◌, ◌*◌, ◌/◌, ◌%◌, ◌<◌, ◌≤◌, List, [], ◌∷◌, ◌++◌, ◌⊎◌, length, get_or, refl, sym, ap, ◌∙◌, arith, inl, inr, subst, flat_map, range_with_len, sum_by, cases_lt, cases_eq, lt-ltb, le-ltb, length-range_with_len, get_or-range_with_len, sum_by-cons, IsFace, after, before, face_count, face_at, div-mul-add, mod-mul-add, div-add-mod', div_below, mod_below}
use Rattle.std.proofs.Math.Nat.{mod-eq_of_lt, mod_self}
use Rattle.surf_surfaces.proofs.meshes.SideLaws.{after-below, before-below, after-before, before-after}
use Rattle.surf_tori.specs.Torus.{grid_vertex, first_face, second_face, cell_faces, torus, TorusCounts, CellsAreFaces, ToriAreSurfaces, ToriHaveCharacteristicZero}
use Rattle.surf_tori.proofs.GridLaws.{IsRound, place, low, high, place_in, IsGrid, faces_are_triangles}
use Rattle.surf_tori.proofs.GridFans.{grid_is_surface, grid_triangles}
use Rattle.surf_tori.proofs.EulerLaws.{triangle_edges, characteristic_less}

-- going round by one place
pub after_apart : (n k : ℕ) → 2 ≤ n → k < n → after n k ≢ k
after_apart n k large h = elim (cases_lt (k + 1) n) [
  | inl lt ↦ rw (lt-ltb (k + 1) n lt) (λ e. omega arith)
  | inr ge ↦ rw (le-ltb (k + 1) n ge) (λ e. omega arith)
]

after_far : (n k : ℕ) → 3 ≤ n → k < n → after n (after n k) ≢ k
after_far n k large h = elim (cases_lt (k + 1) n) [
  | inl lt ↦ elim (cases_lt (k + 1 + 1) n) [
    | inl more ↦ rw (lt-ltb (k + 1) n lt, lt-ltb (k + 1 + 1) n more) (λ e. omega arith)
    | inr last ↦ rw (lt-ltb (k + 1) n lt, le-ltb (k + 1 + 1) n last) (λ e. omega arith)
  ]
  | inr ge ↦ let one : 0 + 1 < n = omega arith in
      rw (le-ltb (k + 1) n ge, lt-ltb (0 + 1) n one) (λ e. omega arith)
]

pub rounds : (n : ℕ) → 3 ≤ n → IsRound n (after n) (before n)
rounds n large = record {
  some = omega arith;
  next_below = after-below n;
  prev_below = before-below n;
  next_prev = after-before n;
  prev_next = before-after n;
  apart = λ k h. after_apart n k (omega arith) h;
  far = λ k h. after_far n k large h;
  step = λ k h. rw (lt-ltb (k + 1) n h);
}

-- the next place, modulo the number of places
next_mod : (n k : ℕ) → k < n → (k + 1) % n ≡ after n k
next_mod n k h = elim (cases_lt (k + 1) n) [
  | inl lt ↦ rw (lt-ltb (k + 1) n lt) (mod-eq_of_lt lt)
  | inr ge ↦ let e : k + 1 ≡ n = omega arith in
      rw (le-ltb (k + 1) n ge) (ap (λ m. m % n) e ∙ mod_self n)
]

-- lists of two items for each number
two_at : {X : Type 0} (f g : ℕ → X) (xs : List ℕ) (d : X) (k : ℕ) → k < length xs →
    (get_or (flat_map (λ c. f c ∷ g c ∷ []) xs) (2 * k) d ≡ f (get_or xs k 0))
    × (get_or (flat_map (λ c. f c ∷ g c ∷ []) xs) (2 * k + 1) d ≡ g (get_or xs k 0))
two_at f g [] d k h = absurd (omega arith)
two_at f g (x ∷ xs) d zero h = (refl, refl)
two_at f g (x ∷ xs) d (suc k) h =
    let r = two_at f g xs d k (omega arith) in
    let e : 2 * suc k ≡ suc (suc (2 * k)) = omega arith in
    let o : 2 * suc k + 1 ≡ suc (suc (2 * k + 1)) = omega arith in
    let all = f x ∷ g x ∷ flat_map (λ c. f c ∷ g c ∷ []) xs in (
      ap (λ n. get_or all n d) e ∙ r.0,
      ap (λ n. get_or all n d) o ∙ r.1,
    )

two_long : {X : Type 0} (f g : ℕ → X) (xs : List ℕ) → length (flat_map (λ c. f c ∷ g c ∷ []) xs) ≡ 2 * length xs
two_long f g [] = refl
two_long f g (x ∷ xs) =
    let r = two_long f g xs in
    let e : 2 * suc (length xs) ≡ suc (suc (2 * length xs)) = omega arith in
    ap (λ n. suc (suc n)) r ∙ sym e

module _ (a b : ℕ) (wide : 3 ≤ a) (high_enough : 3 ≤ b) where
  pub count : face_count (torus a b) ≡ 2 * (a * b)
  count = two_long (λ c. first_face a b (c / b) (c % b)) (λ c. second_face a b (c / b) (c % b))
      (range_with_len 0 (a * b)) ∙ ap (λ n. 2 * n) (length-range_with_len 0 (a * b))

  cell_in : (i j : ℕ) → i < a → j < b → i * b + j < a * b
  cell_in i j x y = place_in a b i j x y

  -- the faces of the cell in a row and a column
  cell_at : (i j : ℕ) → i < a → j < b →
      (face_at (torus a b) (low b i j) ≡ first_face a b i j) × (face_at (torus a b) (high b i j) ≡ second_face a b i j)
  cell_at i j x y =
      let n = i * b + j in
      let f = λ (c : ℕ). first_face a b (c / b) (c % b) in
      let g = λ (c : ℕ). second_face a b (c / b) (c % b) in
      let in' : n < length (range_with_len 0 (a * b)) = rw (length-range_with_len 0 (a * b)) (cell_in i j x y) in
      let r = two_at f g (range_with_len 0 (a * b)) [] n in' in
      let is : get_or (range_with_len 0 (a * b)) n 0 ≡ n =
      get_or-range_with_len 0 (a * b) n 0 (cell_in i j x y) ∙ omega arith in
      let row : n / b ≡ i = div-mul-add i b j y in
      let column : n % b ≡ j = mod-mul-add i b j y in (
        r.0 ∙ ap f is ∙ cell_is (first_face a b) n i j row column,
        r.1 ∙ ap g is ∙ cell_is (second_face a b) n i j row column,
      )
    where
      cell_is : (h : ℕ → ℕ → List ℕ) (n i j : ℕ) → n / b ≡ i → n % b ≡ j → h (n / b) (n % b) ≡ h i j
      cell_is h n i j p q = ap (λ k. h k (n % b)) p ∙ ap (h i) q

  -- vertices by rows and columns that are taken modulo their numbers
  here_is : (i j : ℕ) → i < a → j < b → grid_vertex a b i j ≡ place b i j
  here_is i j x y = rw (mod-eq_of_lt x, mod-eq_of_lt y)

  below_is : (i j : ℕ) → i < a → j < b → grid_vertex a b (i + 1) j ≡ place b (after a i) j
  below_is i j x y = rw (next_mod a i x, mod-eq_of_lt y)

  beside_is : (i j : ℕ) → i < a → j < b → grid_vertex a b i (j + 1) ≡ place b i (after b j)
  beside_is i j x y = rw (mod-eq_of_lt x, next_mod b j y)

  across_is : (i j : ℕ) → i < a → j < b → grid_vertex a b (i + 1) (j + 1) ≡ place b (after a i) (after b j)
  across_is i j x y = rw (next_mod a i x, next_mod b j y)

  -- a cell's number has a row and a column
  cell_of : (n : ℕ) → n < a * b → (i : ℕ) × (j : ℕ) × (i < a) × (j < b) × (n ≡ i * b + j)
  cell_of n h = (n / b, n % b, div_below n b a (omega arith) h, mod_below n b (omega arith), sym (div-add-mod' n b))

  face_of : (f : ℕ) → f < face_count (torus a b) →
      (i : ℕ) × (j : ℕ) × (i < a) × (j < b) × ((f ≡ low b i j) ⊎ (f ≡ high b i j))
  face_of f h =
      let c = f / 2 in
      let r = f % 2 in
      let small : r < 2 = mod_below f 2 (omega arith) in
      let whole : c * 2 + r ≡ f = div-add-mod' f 2 in
      let all = count in
      let (i, j, x, y, e) = cell_of c (div_below f 2 (a * b) (omega arith) (omega (arith, all, h))) in (
        i,
        j,
        x,
        y,
        elim (cases_eq r 0) [
          | inl even ↦ inl (omega (arith, even, whole, e))
          | inr odd ↦ inr (omega (arith, odd, small, whole, e))
        ],
      )

  pub torus_is_grid : IsGrid (torus a b) a b (after a) (before a) (after b) (before b)
  torus_is_grid = record {
    rows = rounds a wide;
    columns = rounds b high_enough;
    vertices = refl;
    faces = face_of;
    corners = cell_of;
    first_in = λ i j x y. let n = cell_in i j x y in let all = count in omega (arith, n, all);
    second_in = λ i j x y. let n = cell_in i j x y in let all = count in omega (arith, n, all);
    first = λ i j x y. (cell_at i j x y).0 ∙ rw (here_is i j x y, below_is i j x y, across_is i j x y);
    second = λ i j x y. (cell_at i j x y).1 ∙ rw (here_is i j x y, across_is i j x y, beside_is i j x y);
  }

pub tori_are_surfaces : ToriAreSurfaces
tori_are_surfaces a b x y = grid_is_surface (torus_is_grid a b x y)

pub tori_have_counts : (a b : ℕ) → 3 ≤ a → 3 ≤ b → TorusCounts a b
tori_have_counts a b x y =
    let grid = torus_is_grid a b x y in
    let faces : face_count (torus a b) ≡ 2 * (a * b) = count a b x y in
    let edges = triangle_edges (torus a b) (grid_is_surface grid) (grid_triangles grid) in
    record { faces = faces; edges = omega (arith, faces, edges) }

pub tori_have_characteristic_zero : ToriHaveCharacteristicZero
tori_have_characteristic_zero a b x y =
    let grid = torus_is_grid a b x y in
    let faces : face_count (torus a b) ≡ 2 * (a * b) = count a b x y in
    let edges = triangle_edges (torus a b) (grid_is_surface grid) (grid_triangles grid) in
    characteristic_less (torus a b) 2 (omega (arith, faces, edges))

pub cells_are_faces : (a b : ℕ) → 3 ≤ a → 3 ≤ b → CellsAreFaces a b
cells_are_faces a b x y = record { first = λ cell in'. (at cell in').0; second = λ cell in'. (at cell in').1 }
  where
    at : (cell : ℕ) → cell < a * b →
        IsFace (a * b) (first_face a b (cell / b) (cell % b)) × IsFace (a * b) (second_face a b (cell / b) (cell % b))
    at cell in' =
        let grid = torus_is_grid a b x y in
        let i = cell / b in
        let j = cell % b in
        let row : i < a = div_below cell b a (omega arith) in' in
        let column : j < b = mod_below cell b (omega arith) in
        let is = cell_at a b x y i j row column in (
          subst (IsFace (a * b)) is.0 (faces_are_triangles grid (low b i j) (grid.first_in i j row column)),
          subst (IsFace (a * b)) is.1 (faces_are_triangles grid (high b i j) (grid.second_in i j row column)),
        )

-- the two faces of a cell have its number, twice, and one more
pub cell_faces_at : (a b cell : ℕ) → 3 ≤ a → 3 ≤ b → cell < a * b →
    (face_at (torus a b) (2 * cell) ≡ first_face a b (cell / b) (cell % b))
    × (face_at (torus a b) (2 * cell + 1) ≡ second_face a b (cell / b) (cell % b))
cell_faces_at a b cell x y in' =
    let i = cell / b in
    let j = cell % b in
    let is = cell_at a b x y i j (div_below cell b a (omega arith) in') (mod_below cell b (omega arith)) in
    let n : i * b + j ≡ cell = div-add-mod' cell b in (
      ap (λ c. face_at (torus a b) (2 * c)) (sym n) ∙ is.0,
      ap (λ c. face_at (torus a b) (2 * c + 1)) (sym n) ∙ is.1,
    )

pub range_more : (n k : ℕ) → range_with_len n (k + 1) ≡ range_with_len n k ++ (n + k) ∷ []
range_more n zero = ap (λ m. m ∷ []) (omega arith)
range_more n (suc k) =
    let e : suc k + 1 ≡ suc (k + 1) = omega arith in
    let s : n + 1 + k ≡ n + suc k = omega arith in
    ap (range_with_len n) e ∙ ap (λ xs. n ∷ xs) (range_more (n + 1) k)
    ∙ ap (λ m. n ∷ (range_with_len (n + 1) k ++ m ∷ [])) s

two_more : {X : Type 0} (f g : ℕ → X) (xs : List ℕ) (n : ℕ) → flat_map (λ c. f c ∷ g c ∷ []) (xs ++ n ∷ [])
    ≡ flat_map (λ c. f c ∷ g c ∷ []) xs ++ f n ∷ g n ∷ []
two_more f g [] n = refl
two_more f g (x ∷ xs) n = ap (λ ys. f x ∷ g x ∷ ys) (two_more f g xs n)

-- the faces of one cell more
pub cells_more : (a b n : ℕ) → flat_map (cell_faces a b) (range_with_len 0 (n + 1))
    ≡ flat_map (cell_faces a b) (range_with_len 0 n) ++ cell_faces a b n
cells_more a b n =
    ap (flat_map (cell_faces a b)) (range_more 0 n ∙ ap (λ m. range_with_len 0 n ++ m ∷ []) (omega arith))
    ∙ two_more (λ c. first_face a b (c / b) (c % b)) (λ c. second_face a b (c / b) (c % b)) (range_with_len 0 n) n

-- each cell has six sides
pub cells_sides : (a b : ℕ) (cells : List ℕ) → sum_by length (flat_map (cell_faces a b) cells) ≡ 6 * length cells
cells_sides a b [] = refl
cells_sides a b (x ∷ xs) =
    let rest = flat_map (cell_faces a b) xs in
    let first = first_face a b (x / b) (x % b) in
    let second = second_face a b (x / b) (x % b) in
    let one = sum_by-cons {X = List ℕ} length first (second ∷ rest) in
    let two = sum_by-cons {X = List ℕ} length second rest in
    omega (arith, one, two, cells_sides a b xs)
