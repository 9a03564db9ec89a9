-- Two coherently oriented surfaces, joined along a triangle that is left out of both.
use Rattle.surf_surfaces.proofs.Common.{◌≡◌, ◌≢◌, ℕ, ◌<◌, ◌≤◌, [], ◌∷◌, ◌⊎◌, map, sym, ap, ◌∙◌, arith, inl, inr, subst, cases_eq, All-from_get_or, Mesh, IsFace, face_count, face_at}
use Rattle.surf_tori.specs.Coherent.{Runs, IsCoherent}
use Rattle.surf_tori.proofs.RenamedLaws.{both, runs_renamed, run_of_renamed, face_renamed, run_below, run_face, across}
use Rattle.surf_tori.proofs.TriangleLaws.{OneOf, run_of, runs_first, runs_second, runs_third}

-- K has the faces of M but f, and those of N but h with their vertices renamed. The corners of h are renamed to those
-- of f, the other way round, and no other vertex of N to one of M.
pub record IsGlued (M N K : Mesh) (f h : ℕ) (name left right : ℕ → ℕ) (a0 a1 a2 b0 b1 b2 : ℕ) : Type 0 where
  pub first : face_at M f ≡ b0 ∷ b1 ∷ b2 ∷ []
  pub second : face_at N h ≡ a0 ∷ a1 ∷ a2 ∷ []
  pub named_0 : name a0 ≡ b0
  pub named_1 : name a1 ≡ b2
  pub named_2 : name a2 ≡ b1
  pub fresh : (v : ℕ) → v < N.vertices → (M.vertices ≤ name v) ⊎ OneOf v a0 a1 a2
  pub named_in : (v : ℕ) → v < N.vertices → name v < K.vertices
  pub injective : (u v : ℕ) → u < N.vertices → v < N.vertices → name u ≡ name v → u ≡ v
  pub old_in : (v : ℕ) → v < M.vertices → v < K.vertices
  pub vertices : (v : ℕ) → v < K.vertices →
      (v < M.vertices) ⊎ ((w : ℕ) × (w < N.vertices) × (name w ≡ v) × (M.vertices ≤ v))
  pub left_in : (g : ℕ) → g < face_count M → g ≢ f → left g < face_count K
  pub left_face : (g : ℕ) → g < face_count M → g ≢ f → face_at K (left g) ≡ face_at M g
  pub right_in : (k : ℕ) → k < face_count N → k ≢ h → right k < face_count K
  pub right_face : (k : ℕ) → k < face_count N → k ≢ h → face_at K (right k) ≡ map name (face_at N k)
  pub faces : (x : ℕ) → x < face_count K →
      ((g : ℕ) × (g < face_count M) × (g ≢ f) × (x ≡ left g))
      ⊎ ((k : ℕ) × (k < face_count N) × (k ≢ h) × (x ≡ right k))

module _ {M N K : Mesh} {f h : ℕ} {name left right : ℕ → ℕ} {a0 a1 a2 b0 b1 b2 : ℕ}
    (glued : IsGlued M N K f h name left right a0 a1 a2 b0 b1 b2) (of_first : IsCoherent M) (of_second : IsCoherent N)
  where
    -- the runs of the faces that are left out
    pub f_first : Runs M f (b0, b1)
    f_first = rw glued.first (runs_first b0 b1 b2)

    pub f_second : Runs M f (b1, b2)
    f_second = rw glued.first (runs_second b0 b1 b2)

    pub f_third : Runs M f (b2, b0)
    f_third = rw glued.first (runs_third b0 b1 b2)

    pub h_first : Runs N h (a0, a1)
    h_first = rw glued.second (runs_first a0 a1 a2)

    pub h_second : Runs N h (a1, a2)
    h_second = rw glued.second (runs_second a0 a1 a2)

    pub h_third : Runs N h (a2, a0)
    h_third = rw glued.second (runs_third a0 a1 a2)

    -- a face of K
    pub left_runs : (g : ℕ) (p : ℕ × ℕ) → g ≢ f → Runs M g p → Runs K (left g) p
    left_runs g p other r = rw (glued.left_face g (run_face M g p r) other) r

    pub right_runs : (k u v : ℕ) → k ≢ h → Runs N k (u, v) → Runs K (right k) (name u, name v)
    right_runs k u v other r =
        rw (glued.right_face k (run_face N k (u, v) r) other) (runs_renamed name (u, v) (face_at N k) r)

    -- where a face of K comes from, by one of its runs
    FromLeft : ℕ → ℕ × ℕ → Type 0
    FromLeft x p = (g : ℕ) × (g ≢ f) × Runs M g p × (x ≡ left g)

    FromRight : ℕ → ℕ × ℕ → Type 0
    FromRight x p = (k : ℕ) × (u : ℕ) × (v : ℕ) × (k ≢ h) × Runs N k (u, v) × (p ≡ (name u, name v)) × (x ≡ right k)

    from : (x : ℕ) (p : ℕ × ℕ) → Runs K x p → FromLeft x p ⊎ FromRight x p
    unfolding FromLeft FromRight
    from x p r = elim (glued.faces x (run_face K x p r)) [
      | inl l ↦ inl (
        l.0,
        l.2,
        rw (glued.left_face l.0 l.1 l.2) at (subst (λ y. Runs K y p) l.3 r),
        l.3,
      )
      | inr q ↦
          let s = run_of_renamed name p (face_at N q.0)
          (rw (glued.right_face q.0 q.1 q.2) at (subst (λ y. Runs K y p) q.3 r)) in
          inr (q.0, s.0.0, s.0.1, q.2, s.1, s.2, q.3)
    ]

    pub first_below : (g : ℕ) (p : ℕ × ℕ) → Runs M g p → (p.0 < M.vertices) × (p.1 < M.vertices) × (p.0 ≢ p.1)
    first_below g p r = run_below M.vertices p (face_at M g) (of_first.is_mesh g [] (run_face M g p r)) r

    pub second_below : (k : ℕ) (p : ℕ × ℕ) → Runs N k p → (p.0 < N.vertices) × (p.1 < N.vertices) × (p.0 ≢ p.1)
    second_below k p r = run_below N.vertices p (face_at N k) (of_second.is_mesh k [] (run_face N k p r)) r

    -- a vertex of N that is named as one of M is a corner of h
    pub shared : (v : ℕ) → v < N.vertices → name v < M.vertices → OneOf v a0 a1 a2
    shared v in' below = elim (glued.fresh v in') [ inl high ↦ absurd (omega arith) | inr o ↦ o ]

    -- no run of another face of N is named as a run of another face of M
    never_both : (g k u v : ℕ) → g ≢ f → k ≢ h → Runs M g (name u, name v) → Runs N k (u, v) → ⊥
    never_both g k u v other_g other_k r s =
        let below = first_below g (name u, name v) r in
        let in' = second_below k (u, v) s in
        let runs_h : (p q : ℕ) → u ≡ p → v ≡ q → Runs N h (p, q) → ⊥ = λ p q x y t.
        other_k (of_second.once k h (u, v) s (subst (λ w. Runs N h (u, w)) (sym y) (subst (λ w. Runs N h (w, q)) (sym x)
        t))) in
        let runs_f : (p q i j : ℕ) → u ≡ p → v ≡ q → name p ≡ i → name q ≡ j → Runs M f (i, j) → ⊥ =
        λ p q i j x y m n t.
        other_g (of_first.once g f (name u, name v) r
        (subst (λ w. Runs M f (name u, w)) (sym (ap name y ∙ n))
        (subst (λ w. Runs M f (w, j)) (sym (ap name x ∙ m)) t))) in
        elim (shared u in'.0 below.0) [
          | inl x ↦ elim (shared v in'.1 below.1) [
            | inl y ↦ in'.2 (x ∙ sym y)
            | inr o ↦ elim o [
              | inl y ↦ runs_h a0 a1 x y h_first
              | inr y ↦ runs_f a0 a2 b0 b1 x y glued.named_0 glued.named_2 f_first
            ]
          ]
          | inr w ↦ elim w [
            | inl x ↦ elim (shared v in'.1 below.1) [
              | inl y ↦ runs_f a1 a0 b2 b0 x y glued.named_1 glued.named_0 f_third
              | inr o ↦ elim o [
                | inl y ↦ in'.2 (x ∙ sym y)
                | inr y ↦ runs_h a1 a2 x y h_second
              ]
            ]
            | inr x ↦ elim (shared v in'.1 below.1) [
              | inl y ↦ runs_h a2 a0 x y h_third
              | inr o ↦ elim o [
                | inl y ↦ runs_f a2 a1 b1 b2 x y glued.named_2 glued.named_1 f_second
                | inr y ↦ in'.2 (x ∙ sym y)
              ]
            ]
          ]
        ]

    glued_once : (x y : ℕ) (p : ℕ × ℕ) → Runs K x p → Runs K y p → x ≡ y
    unfolding FromLeft FromRight
    glued_once x y p r s = elim (from x p r) [
      | inl l ↦ elim (from y p s) [
        | inl m ↦ l.3 ∙ ap left (of_first.once l.0 m.0 p l.2 m.2) ∙ sym m.3
        | inr n ↦ absurd (never_both l.0 n.0 n.1 n.2 l.1 n.3 (subst (Runs M l.0) n.5 l.2) n.4)
      ]
      | inr q ↦ elim (from y p s) [
        | inl m ↦ absurd (never_both m.0 q.0 q.1 q.2 m.1 q.3 (subst (Runs M m.0) q.5 m.2) q.4)
        | inr n ↦
            let a = second_below q.0 (q.1, q.2) q.4 in
            let b = second_below n.0 (n.1, n.2) n.4 in
            let same = sym q.5 ∙ n.5 in
            let u = glued.injective q.1 n.1 a.0 b.0 (ap (λ (t : ℕ × ℕ). t.0) same) in
            let v = glued.injective q.2 n.2 a.1 b.1 (ap (λ (t : ℕ × ℕ). t.1) same) in
            q.6 ∙ ap right (of_second.once q.0 n.0 (q.1, q.2) q.4
            (subst (λ w. Runs N n.0 (q.1, w)) (sym v) (subst (λ w. Runs N n.0 (w, n.2)) (sym u) n.4))) ∙ sym n.6
      ]
    ]

    -- across each run of f there is a face of N, and across each run of h one of M
    LeftBack : ℕ → ℕ → Type 0
    LeftBack u v = (x : ℕ) × Runs K x (u, v)

    over_f : (u v : ℕ) → Runs M f (u, v) → LeftBack u v
    unfolding LeftBack
    over_f u v r =
        let go : (i j p q : ℕ) → (u, v) ≡ (p, q) → name i ≡ p → name j ≡ q → Runs N h (j, i) → LeftBack u v =
        λ i j p q e m n t.
        let o = across N of_second h j i t in (
          right o.0,
          subst (Runs K (right o.0)) (sym (e ∙ ap (λ w. (w, q)) (sym m) ∙ ap (λ w. (name i, w)) (sym n)))
              (right_runs o.0 i j o.1 o.2),
        ) in
        elim (run_of b0 b1 b2 (u, v) (rw glued.first at r)) [
          | inl e ↦ go a0 a2 b0 b1 e glued.named_0 glued.named_2 h_third
          | inr o ↦ elim o [
            | inl e ↦ go a2 a1 b1 b2 e glued.named_2 glued.named_1 h_second
            | inr e ↦ go a1 a0 b2 b0 e glued.named_1 glued.named_0 h_first
          ]
        ]

    over_h : (u v : ℕ) → Runs N h (u, v) → LeftBack (name u) (name v)
    unfolding LeftBack
    over_h u v r =
        let go : (i j p q : ℕ) → (u, v) ≡ (i, j) → name i ≡ p → name j ≡ q → Runs M f (q, p) →
        LeftBack (name u) (name v) =
        λ i j p q e m n t.
        let o = across M of_first f q p t in (
          left o.0,
          subst (Runs K (left o.0)) (sym (ap (both name) e ∙ ap (λ w. (w, name j)) m ∙ ap (λ w. (p, w)) n))
              (left_runs o.0 (p, q) o.1 o.2),
        ) in
        elim (run_of a0 a1 a2 (u, v) (rw glued.second at r)) [
          | inl e ↦ go a0 a1 b0 b2 e glued.named_0 glued.named_1 f_third
          | inr o ↦ elim o [
            | inl e ↦ go a1 a2 b2 b1 e glued.named_1 glued.named_2 f_second
            | inr e ↦ go a2 a0 b1 b0 e glued.named_2 glued.named_0 f_first
          ]
        ]

    glued_back : (x : ℕ) (p : ℕ × ℕ) → Runs K x p → (y : ℕ) × Runs K y (p.1, p.0)
    unfolding FromLeft FromRight LeftBack
    glued_back x p r = elim (from x p r) [
      | inl l ↦
          let o = of_first.back l.0 p l.2 in
          elim (cases_eq o.0 f) [
            | inl same ↦ over_f p.1 p.0 (subst (λ g. Runs M g (p.1, p.0)) same o.1)
            | inr other ↦ (left o.0, left_runs o.0 (p.1, p.0) other o.1)
          ]
      | inr q ↦
          let o = of_second.back q.0 (q.1, q.2) q.4 in
          let turned : (name q.2, name q.1) ≡ (p.1, p.0) = ap (λ (t : ℕ × ℕ). (t.1, t.0)) (sym q.5) in
          let found : LeftBack (name q.2) (name q.1) = elim (cases_eq o.0 h) [
            | inl same ↦ over_h q.2 q.1 (subst (λ k. Runs N k (q.2, q.1)) same o.1)
            | inr other ↦ (right o.0, right_runs o.0 q.2 q.1 other o.1)
          ] in
          (found.0, subst (Runs K found.0) turned found.1)
    ]

    glued_face : (x : ℕ) → x < face_count K → IsFace K.vertices (face_at K x)
    glued_face x in' = elim (glued.faces x in') [
      | inl l ↦
          let is = of_first.is_mesh l.0 [] l.1 in
          subst (IsFace K.vertices) (sym (ap (face_at K) l.3 ∙ glued.left_face l.0 l.1 l.2)) (record {
            large = is.large;
            distinct = is.distinct;
            inside = λ k d below. glued.old_in _ (is.inside k d below);
          })
      | inr q ↦ subst (IsFace K.vertices) (sym (ap (face_at K) q.3 ∙ glued.right_face q.0 q.1 q.2))
          (face_renamed name N.vertices K.vertices (face_at N q.0) glued.named_in glued.injective
          (of_second.is_mesh q.0 [] q.1))
    ]

    pub glued_is_coherent : IsCoherent K
    glued_is_coherent = record {
      is_mesh = All-from_get_or (IsFace K.vertices) K.faces [] glued_face;
      once = glued_once;
      back = glued_back;
    }
