-- The faces at each place of a grid form one fan, also without the first face of a cell, and the grid is a surface.
use Rattle.surf_surfaces.proofs.Common.{◌≡◌, ◌≢◌, ℕ, zero, suc, ◌<◌, List, [], ◌∷◌, length, refl, sym, ap, ◌∙◌, arith, inl, inr, subst, Contains, cases_eq, Joined, here, over, Mesh, face_count, face_at, HasCorner, Share, ShareAt, IsConnected, IsSurface, same_from_place}
use Rattle.surf_surfaces.proofs.meshes.JoinedLaws.{joined_trans, joined_sym, joined_lift}
use Rattle.surf_tori.specs.Coherent.{Runs}
use Rattle.surf_tori.proofs.CoherentLaws.{coherent_edges_have_two_faces}
use Rattle.surf_tori.proofs.LinkLaws.{Member, member_turn, member_but_last, linked_members, KeptShareAt, HasKeptFans, kept_share_at_turned, share_in_out, share_run}
use Rattle.surf_tori.proofs.TriangleLaws.{corner_of}
use Rattle.surf_tori.proofs.GridLaws.{IsGrid, place, low, high, row_apart, column_apart, low_first, low_second, low_third, high_first, high_second, high_third, grid_is_coherent}

module _ {mesh : Mesh} {a b : ℕ} {down up right left : ℕ → ℕ} (grid : IsGrid mesh a b down up right left) where
  -- the six faces at a place, in their order round it
  abbrev ring : ℕ → ℕ → List ℕ
  ring i j =
      low b i j ∷ high b i j ∷ low b (up i) j ∷ high b (up i) (left j) ∷ low b (up i) (left j) ∷ high b i (left j) ∷ []

  -- neighbours in the ring share an edge at the place
  record IsRing (i j : ℕ) : Type 0 where
    first : ShareAt mesh (place b i j) (low b i j) (high b i j)
    second : ShareAt mesh (place b i j) (high b i j) (low b (up i) j)
    third : ShareAt mesh (place b i j) (low b (up i) j) (high b (up i) (left j))
    fourth : ShareAt mesh (place b i j) (high b (up i) (left j)) (low b (up i) (left j))
    fifth : ShareAt mesh (place b i j) (low b (up i) (left j)) (high b i (left j))
    sixth : ShareAt mesh (place b i j) (high b i (left j)) (low b i j)

  moved : (f i j k l p q r s : ℕ) → i ≡ p → j ≡ q → k ≡ r → l ≡ s → Runs mesh f (place b i j, place b k l) →
      Runs mesh f (place b p q, place b r s)
  moved f i j k l p q r s w x y z h = rw (w, x, y, z) at h

  ring_at : (i j : ℕ) → i < a → j < b → IsRing i j
  ring_at i j x y =
      let u = up i in
      let l = left j in
      let ux : u < a = grid.rows.prev_below i x in
      let ly : l < b = grid.columns.prev_below j y in
      let row : down u ≡ i = grid.rows.next_prev i x in
      let column : right l ≡ j = grid.columns.next_prev j y in
      let v = place b i j in
      record {
        first = share_in_out mesh v (place b (down i) (right j)) (low b i j) (high b i j) (low_third grid i j x y)
            (high_first grid i j x y);
        second = share_in_out mesh v (place b i (right j)) (high b i j) (low b u j) (high_third grid i j x y)
            (moved (low b u j) (down u) j (down u) (right j) i j i (right j) row refl row refl
            (low_second grid u j ux y));
        third = share_in_out mesh v (place b u j) (low b u j) (high b u l)
            (moved (low b u j) u j (down u) j u j i j refl refl row refl (low_first grid u j ux y))
            (moved (high b u l) (down u) (right l) u (right l) i j u j row column refl column
            (high_second grid u l ux ly));
        fourth = share_in_out mesh v (place b u l) (high b u l) (low b u l)
            (moved (high b u l) u l (down u) (right l) u l i j refl refl row column (high_first grid u l ux ly))
            (moved (low b u l) (down u) (right l) u l i j u l row column refl refl (low_third grid u l ux ly));
        fifth = share_in_out mesh v (place b i l) (low b u l) (high b i l)
            (moved (low b u l) (down u) l (down u) (right l) i l i j row refl row column (low_second grid u l ux ly))
            (moved (high b i l) i (right l) i l i j i l refl column refl refl (high_third grid i l x ly));
        sixth = share_in_out mesh v (place b (down i) j) (high b i l) (low b i j)
            (moved (high b i l) (down i) (right l) i (right l) (down i) j i j refl column refl column
            (high_second grid i l x ly))
            (low_first grid i j x y);
      }

  -- a face at a place is in the ring there
  in_ring : (i j f : ℕ) → i < a → j < b → HasCorner mesh f (place b i j) → Member f (ring i j)
  in_ring i j f x y h =
      let (k, l, kx, ly, o) = grid.faces f h.0 in
      elim o [
        | inl e ↦ elim (corner_of (place b k l) (place b (down k) l) (place b (down k) (right l)) (place b i j)
            (subst (λ face. Contains face (place b i j)) (ap (face_at mesh) e ∙ grid.first k l kx ly) h.1)) [
              | inl c ↦ let s = same_from_place i j k l b y ly c in inl (e ∙ cc (sym s.0, sym s.1))
              | inr c ↦ elim c [
                | inl d ↦ let s = same_from_place i j (down k) l b y ly d in
                    let r : k ≡ up i = sym (grid.rows.prev_next k kx) ∙ ap up (sym s.0) in
                    inr (inr (inl (e ∙ cc (r, sym s.1))))
                | inr d ↦ let s = same_from_place i j (down k) (right l) b y (grid.columns.next_below l ly) d in
                    let r : k ≡ up i = sym (grid.rows.prev_next k kx) ∙ ap up (sym s.0) in
                    let t : l ≡ left j = sym (grid.columns.prev_next l ly) ∙ ap left (sym s.1) in
                    inr (inr (inr (inr (inl (e ∙ cc (r, t))))))
              ]
            ]
        | inr e ↦ elim (corner_of (place b k l) (place b (down k) (right l)) (place b k (right l)) (place b i j)
            (subst (λ face. Contains face (place b i j)) (ap (face_at mesh) e ∙ grid.second k l kx ly) h.1)) [
              | inl c ↦ let s = same_from_place i j k l b y ly c in inr (inl (e ∙ cc (sym s.0, sym s.1)))
              | inr c ↦ elim c [
                | inl d ↦ let s = same_from_place i j (down k) (right l) b y (grid.columns.next_below l ly) d in
                    let r : k ≡ up i = sym (grid.rows.prev_next k kx) ∙ ap up (sym s.0) in
                    let t : l ≡ left j = sym (grid.columns.prev_next l ly) ∙ ap left (sym s.1) in
                    inr (inr (inr (inl (e ∙ cc (r, t)))))
                | inr d ↦ let s = same_from_place i j k (right l) b y (grid.columns.next_below l ly) d in
                    let t : l ≡ left j = sym (grid.columns.prev_next l ly) ∙ ap left (sym s.1) in
                    inr (inr (inr (inr (inr (inl (e ∙ cc (sym s.0, t)))))))
              ]
            ]
      ]

  -- each vertex is a corner of the first face of its cell
  own_corner : (i j : ℕ) → i < a → j < b → HasCorner mesh (low b i j) (place b i j)
  own_corner i j x y = (
    grid.first_in i j x y,
    subst (λ face. Contains face (place b i j)) (sym (grid.first i j x y)) (0, omega arith, refl),
  )

  pub grid_no_isolated : (v : ℕ) → v < mesh.vertices → (f : ℕ) × HasCorner mesh f v
  grid_no_isolated v in' =
      let (i, j, x, y, e) = grid.corners v in' in
      (low b i j, subst (HasCorner mesh (low b i j)) (sym e) (own_corner i j x y))

  -- all faces at a vertex are joined there
  pub grid_fans : HasKeptFans mesh (λ f. Unit {0})
  grid_fans v in' f g kf kg cf cg =
      let (i, j, x, y, e) = grid.corners v in' in
      let r = ring_at i j x y in
      subst (λ w. Joined (KeptShareAt mesh (λ h. Unit {0}) w) f g) (sym e)
      (linked_members (KeptShareAt mesh (λ h. Unit {0}) (place b i j))
      (kept_share_at_turned mesh (λ h. Unit {0}) (place b i j)) (ring i j)
      ((tt, tt, r.first), ((tt, tt, r.second), ((tt, tt, r.third), ((tt, tt, r.fourth), ((tt, tt, r.fifth), tt)))))
      f g (in_ring i j f x y (subst (HasCorner mesh f) e cf)) (in_ring i j g x y (subst (HasCorner mesh g) e cg)))

  -- five faces round a place, of which the sixth is left out
  arc : (v o a0 a1 a2 a3 a4 a5 : ℕ) → ShareAt mesh v a0 a1 → ShareAt mesh v a1 a2 → ShareAt mesh v a2 a3 →
      ShareAt mesh v a3 a4 → a0 ≢ o → a1 ≢ o → a2 ≢ o → a3 ≢ o → a4 ≢ o → o ≡ a5 → (f g : ℕ) → f ≢ o → g ≢ o →
      Member f (a0 ∷ a1 ∷ a2 ∷ a3 ∷ a4 ∷ a5 ∷ []) → Member g (a0 ∷ a1 ∷ a2 ∷ a3 ∷ a4 ∷ a5 ∷ []) →
      Joined (KeptShareAt mesh (λ h. h ≢ o) v) f g
  arc v o a0 a1 a2 a3 a4 a5 s t u w n0 n1 n2 n3 n4 last f g nf ng mf mg =
      linked_members (KeptShareAt mesh (λ h. h ≢ o) v) (kept_share_at_turned mesh (λ h. h ≢ o) v)
      (a0 ∷ a1 ∷ a2 ∷ a3 ∷ a4 ∷ []) ((n0, n1, s), ((n1, n2, t), ((n2, n3, u), ((n3, n4, w), tt)))) f g
      (member_but_last f a5 (a0 ∷ a1 ∷ a2 ∷ a3 ∷ a4 ∷ []) mf (λ e. nf (e ∙ sym last)))
      (member_but_last g a5 (a0 ∷ a1 ∷ a2 ∷ a3 ∷ a4 ∷ []) mg (λ e. ng (e ∙ sym last)))

  low_row : (i j k l : ℕ) → j < b → l < b → i ≢ k → low b i j ≢ low b k l
  low_row i j k l x y apart e = row_apart b i j k l x y apart (omega (arith, e))

  low_column : (i j k l : ℕ) → j < b → l < b → j ≢ l → low b i j ≢ low b k l
  low_column i j k l x y apart e = column_apart b i j k l x y apart (omega (arith, e))

  high_low : (i j k l : ℕ) → high b i j ≢ low b k l
  high_low i j k l e = omega (arith, e)

  -- the faces at a place but the first face of a cell stay joined without it
  fan_without : (c d i j : ℕ) → i < a → j < b → (f g : ℕ) → f ≢ low b c d → g ≢ low b c d →
      HasCorner mesh f (place b i j) → HasCorner mesh g (place b i j) →
      Joined (KeptShareAt mesh (λ h. h ≢ low b c d) (place b i j)) f g
  fan_without c d i j x y f g nf ng cf cg =
      let o = low b c d in
      let v = place b i j in
      let u = up i in
      let l = left j in
      let r = ring_at i j x y in
      let ux : u < a = grid.rows.prev_below i x in
      let ly : l < b = grid.columns.prev_below j y in
      let up_apart : i ≢ u = λ e. grid.rows.apart u ux (grid.rows.next_prev i x ∙ e) in
      let left_apart : j ≢ l = λ e. grid.columns.apart l ly (grid.columns.next_prev j y ∙ e) in
      let a0 = low b i j in
      let a1 = high b i j in
      let a2 = low b u j in
      let a3 = high b u l in
      let a4 = low b u l in
      let a5 = high b i l in
      let apart02 : a0 ≢ a2 = low_row i j u j y y up_apart in
      let apart04 : a0 ≢ a4 = low_row i j u l y ly up_apart in
      let apart24 : a2 ≢ a4 = low_column u j u l y ly left_apart in
      let n1 : a1 ≢ o = high_low i j c d in
      let n3 : a3 ≢ o = high_low u l c d in
      let n5 : a5 ≢ o = high_low i l c d in
      let mf = in_ring i j f x y cf in
      let mg = in_ring i j g x y cg in
      elim (cases_eq o a0) [
        | inl is0 ↦ arc v o a1 a2 a3 a4 a5 a0 r.second r.third r.fourth r.fifth n1 (λ e. apart02 (sym (e ∙ is0))) n3
            (λ e. apart04 (sym (e ∙ is0))) n5 is0 f g nf ng
            (member_turn f (a0 ∷ []) (a1 ∷ a2 ∷ a3 ∷ a4 ∷ a5 ∷ []) mf)
            (member_turn g (a0 ∷ []) (a1 ∷ a2 ∷ a3 ∷ a4 ∷ a5 ∷ []) mg)
        | inr n0 ↦ elim (cases_eq o a2) [
          | inl is2 ↦ arc v o a3 a4 a5 a0 a1 a2 r.fourth r.fifth r.sixth r.first n3 (λ e. apart24 (sym (e ∙ is2))) n5
              (λ e. n0 (sym e)) n1 is2 f g nf ng
              (member_turn f (a0 ∷ a1 ∷ a2 ∷ []) (a3 ∷ a4 ∷ a5 ∷ []) mf)
              (member_turn g (a0 ∷ a1 ∷ a2 ∷ []) (a3 ∷ a4 ∷ a5 ∷ []) mg)
          | inr n2 ↦ elim (cases_eq o a4) [
            | inl is4 ↦ arc v o a5 a0 a1 a2 a3 a4 r.sixth r.first r.second r.third n5 (λ e. n0 (sym e)) n1
                (λ e. n2 (sym e)) n3 is4 f g nf ng
                (member_turn f (a0 ∷ a1 ∷ a2 ∷ a3 ∷ a4 ∷ []) (a5 ∷ []) mf)
                (member_turn g (a0 ∷ a1 ∷ a2 ∷ a3 ∷ a4 ∷ []) (a5 ∷ []) mg)
            | inr n4 ↦
                let m0 : a0 ≢ o = λ e. n0 (sym e) in
                let m2 : a2 ≢ o = λ e. n2 (sym e) in
                let m4 : a4 ≢ o = λ e. n4 (sym e) in
                linked_members (KeptShareAt mesh (λ h. h ≢ o) v) (kept_share_at_turned mesh (λ h. h ≢ o) v) (ring i j) (
                  (m0, n1, r.first),
                  (
                    (n1, m2, r.second),
                    (
                      (m2, n3, r.third),
                      (
                        (n3, m4, r.fourth),
                        (
                          (m4, n5, r.fifth),
                          tt,
                        ),
                      ),
                    ),
                  ),
                ) f g mf mg
          ]
        ]
      ]

  pub grid_fans_without : (c d : ℕ) → HasKeptFans mesh (λ f. f ≢ low b c d)
  grid_fans_without c d v in' f g nf ng cf cg =
      let (i, j, x, y, e) = grid.corners v in' in
      subst (λ w. Joined (KeptShareAt mesh (λ h. h ≢ low b c d) w) f g) (sym e)
      (fan_without c d i j x y f g nf ng (subst (HasCorner mesh f) e cf) (subst (HasCorner mesh g) e cg))

  -- from cell to cell along a row, and from row to row
  to_the_right : (i j : ℕ) → i < a → j < b → Joined (Share mesh) (low b i j) (low b i (right j))
  to_the_right i j x y =
      over (share_run mesh (place b (down i) (right j)) (place b i j) (low b i j) (high b i j) (low_third grid i j x y)
      (high_first grid i j x y))
      (over (share_run mesh (place b (down i) (right j)) (place b i (right j)) (high b i j) (low b i (right j))
      (high_second grid i j x y) (low_first grid i (right j) x (grid.columns.next_below j y))) here)

  downwards : (i j : ℕ) → i < a → j < b → Joined (Share mesh) (low b i j) (low b (down i) j)
  downwards i j x y =
      let dx = grid.rows.next_below i x in
      over (share_run mesh (place b (down i) j) (place b (down i) (right j)) (low b i j) (high b (down i) j)
      (low_second grid i j x y) (high_third grid (down i) j dx y))
      (over (share_run mesh (place b (down i) j) (place b (down (down i)) (right j)) (high b (down i) j)
      (low b (down i) j) (high_first grid (down i) j dx y) (low_third grid (down i) j dx y)) here)

  along_row : (i j : ℕ) → i < a → j < b → Joined (Share mesh) (low b i 0) (low b i j)
  along_row i zero x y = here
  along_row i (suc j) x y =
      let before : j < b = omega arith in
      let step : right j ≡ suc j = grid.columns.step j (omega arith) ∙ omega arith in
      joined_trans (along_row i j x before)
      (subst (λ k. Joined (Share mesh) (low b i j) (low b i k)) step (to_the_right i j x before))

  down_to : (i : ℕ) → i < a → Joined (Share mesh) (low b 0 0) (low b i 0)
  down_to zero x = here
  down_to (suc i) x =
      let before : i < a = omega arith in
      let step : down i ≡ suc i = grid.rows.step i (omega arith) ∙ omega arith in
      joined_trans (down_to i before)
      (subst (λ k. Joined (Share mesh) (low b i 0) (low b k 0)) step (downwards i 0 before grid.columns.some))

  from_first : (f : ℕ) → f < face_count mesh → Joined (Share mesh) (low b 0 0) f
  from_first f in' =
      let (i, j, x, y, o) = grid.faces f in' in
      let there = joined_trans (down_to i x) (along_row i j x y) in
      elim o [
        | inl e ↦ subst (Joined (Share mesh) (low b 0 0)) (sym e) there
        | inr e ↦ subst (Joined (Share mesh) (low b 0 0)) (sym e) (joined_trans there
            (over (share_run mesh (place b (down i) (right j)) (place b i j) (low b i j) (high b i j)
            (low_third grid i j x y) (high_first grid i j x y)) here))
      ]

  pub grid_is_connected : IsConnected mesh
  grid_is_connected f g x y =
      joined_trans (joined_sym (λ p q h. (h.0, h.2, h.1)) (from_first f x)) (from_first g y)

  pub grid_triangles : (f : ℕ) → f < face_count mesh → length (face_at mesh f) ≡ 3
  grid_triangles f in' =
      let (i, j, x, y, o) = grid.faces f in' in
      elim o [
        | inl e ↦ ap (λ g. length (face_at mesh g)) e ∙ ap length (grid.first i j x y)
        | inr e ↦ ap (λ g. length (face_at mesh g)) e ∙ ap length (grid.second i j x y)
      ]

  pub grid_is_surface : IsSurface mesh
  grid_is_surface = record {
    is_mesh = (grid_is_coherent grid).is_mesh;
    some_face = let n = grid.first_in 0 0 grid.rows.some grid.columns.some in omega (arith, n);
    two_faces = coherent_edges_have_two_faces mesh (grid_is_coherent grid);
    no_isolated = grid_no_isolated;
    one_fan = λ v in' f g cf cg. joined_lift (λ x y s. over s.2 here) (grid_fans v in' f g tt tt cf cg);
    connected = grid_is_connected;
  }
