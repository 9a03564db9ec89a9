-- A grid of cells that closes in both directions, two triangles a cell, is a surface.
use Rattle.surf_surfaces.proofs.Common.{◌≡◌, ◌≢◌, ℕ, ◌+◌, ◌*◌, ◌<◌, cond, eqb, [], ◌∷◌, ◌⊎◌, refl, sym, ap, ◌∙◌, inl, inr, subst, eq-eqb, ne_eqb, All-from_get_or, Mesh, IsFace, pair_of, face_count, face_at}
use Rattle.std.proofs.Math.Nat.{mul_comm}
use Rattle.std.proofs.lemmas.Nat.{same_from_place, mul-add-lt}
use Rattle.surf_surfaces.proofs.meshes.SurfaceLaws.{has_side-face}
use Rattle.surf_tori.specs.Coherent.{Runs, IsCoherent}
use Rattle.surf_surfaces.proofs.meshes.RunLaws.{runs_side}
use Rattle.surf_surfaces.proofs.meshes.SmallFaces.{triangle}
use Rattle.surf_tori.proofs.TriangleLaws.{run_of, runs_first, runs_second, runs_third}

-- going round n places, at least three, forwards and backwards
pub record IsRound (n : ℕ) (next prev : ℕ → ℕ) : Type 0 where
  pub some : 0 < n
  pub next_below : (k : ℕ) → k < n → next k < n
  pub prev_below : (k : ℕ) → k < n → prev k < n
  pub next_prev : (k : ℕ) → k < n → next (prev k) ≡ k
  pub prev_next : (k : ℕ) → k < n → prev (next k) ≡ k
  pub apart : (k : ℕ) → k < n → next k ≢ k
  pub far : (k : ℕ) → k < n → next (next k) ≢ k
  pub step : (k : ℕ) → k + 1 < n → next k ≡ k + 1

-- the number of a row and a column
abbrev pub place : ℕ → ℕ → ℕ → ℕ
place b i j = i * b + j

-- the faces of the cell there
abbrev pub low : ℕ → ℕ → ℕ → ℕ
low b i j = 2 * (i * b + j)

abbrev pub high : ℕ → ℕ → ℕ → ℕ
high b i j = 2 * (i * b + j) + 1

-- a mesh with two triangles for each cell
pub record IsGrid (mesh : Mesh) (a b : ℕ) (down up right left : ℕ → ℕ) : Type 0 where
  pub rows : IsRound a down up
  pub columns : IsRound b right left
  pub vertices : mesh.vertices ≡ a * b
  pub faces : (f : ℕ) → f < face_count mesh →
      (i : ℕ) × (j : ℕ) × (i < a) × (j < b) × ((f ≡ low b i j) ⊎ (f ≡ high b i j))
  pub corners : (v : ℕ) → v < mesh.vertices → (i : ℕ) × (j : ℕ) × (i < a) × (j < b) × (v ≡ place b i j)
  pub first_in : (i j : ℕ) → i < a → j < b → low b i j < face_count mesh
  pub second_in : (i j : ℕ) → i < a → j < b → high b i j < face_count mesh
  pub first : (i j : ℕ) → i < a → j < b → face_at mesh (low b i j)
      ≡ place b i j ∷ place b (down i) j ∷ place b (down i) (right j) ∷ []
  pub second : (i j : ℕ) → i < a → j < b → face_at mesh (high b i j)
      ≡ place b i j ∷ place b (down i) (right j) ∷ place b i (right j) ∷ []

-- two places that differ in a row, or in a column
pub row_apart : (b i j k l : ℕ) → j < b → l < b → i ≢ k → place b i j ≢ place b k l
row_apart b i j k l x y apart e = apart (same_from_place i j k l b x y e).0

pub column_apart : (b i j k l : ℕ) → j < b → l < b → j ≢ l → place b i j ≢ place b k l
column_apart b i j k l x y apart e = apart (same_from_place i j k l b x y e).1

pub place_in : (a b i j : ℕ) → i < a → j < b → place b i j < a * b
place_in a b i j x y = subst (λ n. place b i j < n) (mul_comm b a) (mul-add-lt i b j a x y)

-- the face that runs from one place to another
abbrev owner : (ℕ → ℕ) → (ℕ → ℕ) → (ℕ → ℕ) → (ℕ → ℕ) → ℕ → ℕ → ℕ → ℕ → ℕ → ℕ
owner down up right left b i j k l =
    cond (eqb k (down i)) (cond (eqb l j) (low b i j) (high b i j))
    (cond (eqb k i) (cond (eqb l (right j)) (low b (up i) j) (high b i l))
    (cond (eqb l j) (high b k (left j)) (low b k l)))

owner_same : (f : ℕ → ℕ → ℕ → ℕ → ℕ) (i j k l p q r s : ℕ) → i ≡ p → j ≡ q → k ≡ r → l ≡ s → f i j k l ≡ f p q r s
owner_same f i j k l p q r s w x y z = cc

module _ {mesh : Mesh} {a b : ℕ} {down up right left : ℕ → ℕ} (grid : IsGrid mesh a b down up right left) where
  -- the runs of the two faces of a cell
  pub low_first : (i j : ℕ) → i < a → j < b → Runs mesh (low b i j) (place b i j, place b (down i) j)
  low_first i j x y = rw (grid.first i j x y)
      (runs_first (place b i j) (place b (down i) j) (place b (down i) (right j)))

  pub low_second : (i j : ℕ) → i < a → j < b → Runs mesh (low b i j) (place b (down i) j, place b (down i) (right j))
  low_second i j x y = rw (grid.first i j x y)
      (runs_second (place b i j) (place b (down i) j) (place b (down i) (right j)))

  pub low_third : (i j : ℕ) → i < a → j < b → Runs mesh (low b i j) (place b (down i) (right j), place b i j)
  low_third i j x y = rw (grid.first i j x y)
      (runs_third (place b i j) (place b (down i) j) (place b (down i) (right j)))

  pub high_first : (i j : ℕ) → i < a → j < b → Runs mesh (high b i j) (place b i j, place b (down i) (right j))
  high_first i j x y = rw (grid.second i j x y)
      (runs_first (place b i j) (place b (down i) (right j)) (place b i (right j)))

  pub high_second : (i j : ℕ) → i < a → j < b →
      Runs mesh (high b i j) (place b (down i) (right j), place b i (right j))
  high_second i j x y = rw (grid.second i j x y)
      (runs_second (place b i j) (place b (down i) (right j)) (place b i (right j)))

  pub high_third : (i j : ℕ) → i < a → j < b → Runs mesh (high b i j) (place b i (right j), place b i j)
  high_third i j x y = rw (grid.second i j x y)
      (runs_third (place b i j) (place b (down i) (right j)) (place b i (right j)))

  -- from where to where a face runs, and that it is the face that does
  record Way (f : ℕ) (p : ℕ × ℕ) : Type 0 where
    i : ℕ
    j : ℕ
    k : ℕ
    l : ℕ
    column : j < b
    to_column : l < b
    start : p.0 ≡ place b i j
    stop : p.1 ≡ place b k l
    owned : owner down up right left b i j k l ≡ f
    back : (g : ℕ) × Runs mesh g (p.1, p.0)

  low_way : (i j : ℕ) → i < a → j < b → (p : ℕ × ℕ) → Runs mesh (low b i j) p → Way (low b i j) p
  low_way i j x y p h = elim (run_of (place b i j) (place b (down i) j) (place b (down i) (right j)) p
      (rw (grid.first i j x y) at h)) [
        | inl e ↦ record {
          i = i;
          j = j;
          k = down i;
          l = j;
          column = y;
          to_column = y;
          start = ap (λ (q : ℕ × ℕ). q.0) e;
          stop = ap (λ (q : ℕ × ℕ). q.1) e;
          owned = rw (eq-eqb (down i) (down i) refl, eq-eqb j j refl);
          back = (
            high b i (left j),
            rw e (rw (columns.next_prev j y) at (high_second i (left j) x (columns.prev_below j y))),
          );
        }
        | inr o ↦ elim o [
          | inl e ↦ record {
            i = down i;
            j = j;
            k = down i;
            l = right j;
            column = y;
            to_column = columns.next_below j y;
            start = ap (λ (q : ℕ × ℕ). q.0) e;
            stop = ap (λ (q : ℕ × ℕ). q.1) e;
            owned = rw (
              ne_eqb (down i) (down (down i)) (λ q. rows.apart (down i) (rows.next_below i x) (sym q)),
              eq-eqb (down i) (down i) refl,
              eq-eqb (right j) (right j) refl,
              rows.prev_next i x,
            );
            back = (high b (down i) j, rw e (high_third (down i) j (rows.next_below i x) y));
          }
          | inr e ↦ record {
            i = down i;
            j = right j;
            k = i;
            l = j;
            column = columns.next_below j y;
            to_column = y;
            start = ap (λ (q : ℕ × ℕ). q.0) e;
            stop = ap (λ (q : ℕ × ℕ). q.1) e;
            owned = rw (
              ne_eqb i (down (down i)) (λ q. rows.far i x (sym q)),
              ne_eqb i (down i) (λ q. rows.apart i x (sym q)),
              ne_eqb j (right j) (λ q. columns.apart j y (sym q)),
            );
            back = (high b i j, rw e (high_first i j x y));
          }
        ]
      ]
    where
      rows : IsRound a down up
      rows = grid.rows

      columns : IsRound b right left
      columns = grid.columns

  high_way : (i j : ℕ) → i < a → j < b → (p : ℕ × ℕ) → Runs mesh (high b i j) p → Way (high b i j) p
  high_way i j x y p h = elim (run_of (place b i j) (place b (down i) (right j)) (place b i (right j)) p
      (rw (grid.second i j x y) at h)) [
        | inl e ↦ record {
          i = i;
          j = j;
          k = down i;
          l = right j;
          column = y;
          to_column = columns.next_below j y;
          start = ap (λ (q : ℕ × ℕ). q.0) e;
          stop = ap (λ (q : ℕ × ℕ). q.1) e;
          owned = rw (eq-eqb (down i) (down i) refl, ne_eqb (right j) j (columns.apart j y));
          back = (low b i j, rw e (low_third i j x y));
        }
        | inr o ↦ elim o [
          | inl e ↦ record {
            i = down i;
            j = right j;
            k = i;
            l = right j;
            column = columns.next_below j y;
            to_column = columns.next_below j y;
            start = ap (λ (q : ℕ × ℕ). q.0) e;
            stop = ap (λ (q : ℕ × ℕ). q.1) e;
            owned = rw (
              ne_eqb i (down (down i)) (λ q. rows.far i x (sym q)),
              ne_eqb i (down i) (λ q. rows.apart i x (sym q)),
              eq-eqb (right j) (right j) refl,
              columns.prev_next j y,
            );
            back = (low b i (right j), rw e (low_first i (right j) x (columns.next_below j y)));
          }
          | inr e ↦ record {
            i = i;
            j = right j;
            k = i;
            l = j;
            column = columns.next_below j y;
            to_column = y;
            start = ap (λ (q : ℕ × ℕ). q.0) e;
            stop = ap (λ (q : ℕ × ℕ). q.1) e;
            owned = rw (
              ne_eqb i (down i) (λ q. rows.apart i x (sym q)),
              eq-eqb i i refl,
              ne_eqb j (right (right j)) (λ q. columns.far j y (sym q)),
            );
            back = (
              low b (up i) j,
              rw e (rw (rows.next_prev i x) at (low_second (up i) j (rows.prev_below i x) y)),
            );
          }
        ]
      ]
    where
      rows : IsRound a down up
      rows = grid.rows

      columns : IsRound b right left
      columns = grid.columns

  way : (f : ℕ) (p : ℕ × ℕ) → Runs mesh f p → Way f p
  way f p h =
      let (i, j, x, y, o) = grid.faces f (has_side-face mesh (pair_of p) f (runs_side p (face_at mesh f) h)) in
      elim o [
        | inl e ↦ subst (λ g. Way g p) (sym e) (low_way i j x y p (subst (λ g. Runs mesh g p) e h))
        | inr e ↦ subst (λ g. Way g p) (sym e) (high_way i j x y p (subst (λ g. Runs mesh g p) e h))
      ]

  once : (f g : ℕ) (p : ℕ × ℕ) → Runs mesh f p → Runs mesh g p → f ≡ g
  once f g p h k =
      let s = way f p h in
      let t = way g p k in
      let one = same_from_place s.i s.j t.i t.j b s.column t.column (sym s.start ∙ t.start) in
      let two = same_from_place s.k s.l t.k t.l b s.to_column t.to_column (sym s.stop ∙ t.stop) in
      sym s.owned
      ∙ owner_same (owner down up right left b) s.i s.j s.k s.l t.i t.j t.k t.l one.0 one.1 two.0 two.1
      ∙ t.owned

  pub faces_are_triangles : (f : ℕ) → f < face_count mesh → IsFace mesh.vertices (face_at mesh f)
  faces_are_triangles f in' =
      let (i, j, x, y, o) = grid.faces f in' in
      elim o [
        | inl e ↦ rw (e, grid.first i j x y, grid.vertices) (triangle (a * b) (place b i j) (place b (down i) j)
            (place b (down i) (right j))
            (row_apart b i j (down i) j y y (λ q. grid.rows.apart i x (sym q)))
            (row_apart b i j (down i) (right j) y (grid.columns.next_below j y) (λ q. grid.rows.apart i x (sym q)))
            (column_apart b (down i) j (down i) (right j) y (grid.columns.next_below j y)
            (λ q. grid.columns.apart j y (sym q)))
            (place_in a b i j x y)
            (place_in a b (down i) j (grid.rows.next_below i x) y)
            (place_in a b (down i) (right j) (grid.rows.next_below i x) (grid.columns.next_below j y)))
        | inr e ↦ rw (e, grid.second i j x y, grid.vertices) (triangle (a * b) (place b i j)
            (place b (down i) (right j))
            (place b i (right j))
            (row_apart b i j (down i) (right j) y (grid.columns.next_below j y) (λ q. grid.rows.apart i x (sym q)))
            (column_apart b i j i (right j) y (grid.columns.next_below j y) (λ q. grid.columns.apart j y (sym q)))
            (row_apart b (down i) (right j) i (right j) (grid.columns.next_below j y) (grid.columns.next_below j y)
            (grid.rows.apart i x))
            (place_in a b i j x y)
            (place_in a b (down i) (right j) (grid.rows.next_below i x) (grid.columns.next_below j y))
            (place_in a b i (right j) x (grid.columns.next_below j y)))
      ]

  pub grid_is_coherent : IsCoherent mesh
  grid_is_coherent = record {
    is_mesh = All-from_get_or (IsFace mesh.vertices) mesh.faces [] faces_are_triangles;
    once = once;
    back = λ f p h. (way f p h).back;
  }
