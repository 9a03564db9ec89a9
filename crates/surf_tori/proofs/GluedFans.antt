-- Two surfaces joined along a triangle: the faces at each vertex, and all faces, stay joined.
use Rattle.surf_surfaces.proofs.Common.{◌≡◌, ◌≢◌, ℕ, ◌<◌, ◌≤◌, true, [], ◌⊎◌, refl, sym, ap, ◌∙◌, arith, inl, inr, subst, Contains, cases_eq, All-contains, Joined, here, over, Mesh, pair, face_count, face_at, has_side, HasCorner, HasEdge, Share, ShareAt, IsConnected, IsSurface}
use Rattle.surf_surfaces.proofs.meshes.JoinedLaws.{joined_trans, joined_sym, joined_lift}
use Rattle.surf_tori.specs.Coherent.{Runs, IsCoherent}
use Rattle.surf_surfaces.proofs.meshes.RunLaws.{some_way}
use Rattle.surf_tori.proofs.CoherentLaws.{coherent_edges_have_two_faces}
use Rattle.surf_tori.proofs.LinkLaws.{KeptShareAt, KeptShare, HasKeptFans, kept_share_at_turned, edge_out, edge_back, share_in_out}
use Rattle.surf_tori.proofs.RenamedLaws.{joined_map, corner_of_renamed, corner_renamed, run_corners, run_face, across}
use Rattle.surf_tori.proofs.TriangleLaws.{corner_of}
use Rattle.surf_tori.proofs.OpenLaws.{Losing, edge_run, others_joined}
use Rattle.surf_tori.proofs.GluedLaws.{IsGlued, f_first, f_second, h_second, h_third, left_runs, right_runs, first_below, shared, glued_is_coherent}

-- the faces of K that come from kept ones
abbrev pub Kept : (M N : Mesh) → (ℕ → ℕ) → (ℕ → ℕ) → (ℕ → Type 0) → (ℕ → Type 0) → ℕ → Type 0
Kept M N left right InFirst InSecond x =
    ((g : ℕ) × (g < face_count M) × InFirst g × (x ≡ left g))
    ⊎ ((k : ℕ) × (k < face_count N) × InSecond k × (x ≡ right k))

module _ {M N K : Mesh} {f h : ℕ} {name left right : ℕ → ℕ} {a0 a1 a2 b0 b1 b2 : ℕ}
    (glued : IsGlued M N K f h name left right a0 a1 a2 b0 b1 b2) (of_first : IsCoherent M) (of_second : IsCoherent N)
  where
    -- edges of faces that are left
    pub edge_left : (g : ℕ) (p : ℕ × ℕ) → g ≢ f → HasEdge M g p → HasEdge K (left g) p
    edge_left g p other e = (
      glued.left_in g e.0 other,
      subst (λ face. has_side p face ≡ true) (sym (glued.left_face g e.0 other)) e.1,
    )

    pub edge_right : (k v w : ℕ) → k ≢ h → HasEdge N k (pair v w) → HasEdge K (right k) (pair (name v) (name w))
    edge_right k v w other e = elim (some_way v w (face_at N k) e.1) [
      | inl r ↦ edge_out K (right k) (name v) (name w) (right_runs glued of_first of_second k v w other r)
      | inr r ↦ edge_back K (right k) (name v) (name w) (right_runs glued of_first of_second k w v other r)
    ]

    -- corners of faces that are left
    corner_left : (g v : ℕ) → g < face_count M → g ≢ f → HasCorner K (left g) v → HasCorner M g v
    corner_left g v in' other c = (in', subst (λ face. Contains face v) (glued.left_face g in' other) c.1)

    corner_right : (k v : ℕ) → k < face_count N → k ≢ h → HasCorner K (right k) v →
        (w : ℕ) × HasCorner N k w × (w < N.vertices) × (name w ≡ v)
    corner_right k v in' other c =
        let r = corner_of_renamed name (face_at N k) v
        (subst (λ face. Contains face v) (glued.right_face k in' other) c.1) in (
          r.0,
          (in', r.1),
          All-contains (λ w. w < N.vertices) (face_at N k) r.0 (of_second.is_mesh k [] in').inside r.1,
          sym r.2,
        )

    corner_below : (g v : ℕ) → HasCorner M g v → v < M.vertices
    corner_below g v c = All-contains (λ w. w < M.vertices) (face_at M g) v (of_first.is_mesh g [] c.0).inside c.1

    pub share_left : (g k : ℕ) → g ≢ f → k ≢ f → Share M g k → Share K (left g) (left k)
    share_left g k x y s = (s.0, edge_left g s.0 x s.1, edge_left k s.0 y s.2)

    pub share_right : (g k : ℕ) → g ≢ h → k ≢ h → Share N g k → Share K (right g) (right k)
    share_right g k x y s =
        let q = edge_run s.0 (face_at N g) s.1.1 in
        let u = q.0.0 in
        let v = q.0.1 in (
          pair (name u) (name v),
          edge_right g u v x (subst (HasEdge N g) (sym q.2) s.1),
          edge_right k u v y (subst (HasEdge N k) (sym q.2) s.2),
        )

    -- a run of f, with a run of h that is named as it, and the faces across both
    pub record Seam : Type 0 where
      pub p : ℕ
      pub q : ℕ
      pub i : ℕ
      pub j : ℕ
      pub start : name i ≡ p
      pub stop : name j ≡ q
      pub in_first : Runs M f (p, q)
      pub in_second : Runs N h (j, i)

    module _ (s : Seam) where
      abbrev pub near_first : (g : ℕ) × (g ≢ f) × Runs M g (s.q, s.p)
      near_first = across M of_first f s.p s.q s.in_first

      abbrev pub near_second : (k : ℕ) × (k ≢ h) × Runs N k (s.i, s.j)
      near_second = across N of_second h s.j s.i s.in_second

      runs_left : Runs K (left near_first.0) (s.q, s.p)
      runs_left = left_runs glued of_first of_second near_first.0 (s.q, s.p) near_first.1 near_first.2

      runs_right : Runs K (right near_second.0) (s.p, s.q)
      runs_right = subst (λ v. Runs K (right near_second.0) (s.p, v)) s.stop
          (subst (λ v. Runs K (right near_second.0) (v, name s.j)) s.start
          (right_runs glued of_first of_second near_second.0 s.i s.j near_second.1 near_second.2))

      pub share_start : ShareAt K s.p (left near_first.0) (right near_second.0)
      share_start = share_in_out K s.p s.q (left near_first.0) (right near_second.0) runs_left runs_right

      pub share_stop : ShareAt K s.q (left near_first.0) (right near_second.0)
      share_stop = (
        s.p,
        edge_out K (left near_first.0) s.q s.p runs_left,
        edge_back K (right near_second.0) s.q s.p runs_right,
      )

    -- the seams from b0 to b1 and from b1 to b2
    pub first_seam : Seam
    first_seam = record {
      p = b0;
      q = b1;
      i = a0;
      j = a2;
      start = glued.named_0;
      stop = glued.named_2;
      in_first = f_first glued of_first of_second;
      in_second = h_third glued of_first of_second;
    }

    pub second_seam : Seam
    second_seam = record {
      p = b1;
      q = b2;
      i = a2;
      j = a1;
      start = glued.named_2;
      stop = glued.named_1;
      in_first = f_second glued of_first of_second;
      in_second = h_second glued of_first of_second;
    }

    at_both : (R : ℕ → ℕ → Type 0) (x y p q : ℕ) → x ≡ p → y ≡ q → Joined R p q → Joined R x y
    at_both R x y p q a b c = subst (λ z. Joined R z y) (sym a) (subst (λ z. Joined R p z) (sym b) c)

    module _ (InFirst InSecond : ℕ → Type 0) (others_first : (g : ℕ) → InFirst g → g ≢ f)
        (others_second : (k : ℕ) → InSecond k → k ≢ h) (fans_first : HasKeptFans M InFirst)
        (fans_second : HasKeptFans N InSecond) (kept_first : (s : Seam) → InFirst (near_first s).0)
        (kept_second : (s : Seam) → InSecond (near_second s).0) where
      abbrev InBoth : ℕ → Type 0
      InBoth = Kept M N left right InFirst InSecond

      chain_left : (v g k : ℕ) → InFirst g → InFirst k → HasCorner M g v → HasCorner M k v →
          Joined (KeptShareAt K InBoth v) (left g) (left k)
      chain_left v g k a b c d =
          joined_map left (λ x y s. (
            inl (x, s.2.1.0, s.0, refl),
            inl (y, s.2.2.0, s.1, refl),
            (
              s.2.0,
              edge_left x (pair v s.2.0) (others_first x s.0) s.2.1,
              edge_left y (pair v s.2.0) (others_first y s.1) s.2.2,
            ),
          )) (fans_first v (corner_below g v c) g k a b c d)

      chain_right : (w g k : ℕ) → w < N.vertices → InSecond g → InSecond k → HasCorner N g w → HasCorner N k w →
          Joined (KeptShareAt K InBoth (name w)) (right g) (right k)
      chain_right w g k in' a b c d =
          joined_map right (λ x y s. (
            inr (x, s.2.1.0, s.0, refl),
            inr (y, s.2.2.0, s.1, refl),
            (
              name s.2.0,
              edge_right x w s.2.0 (others_second x s.0) s.2.1,
              edge_right y w s.2.0 (others_second y s.1) s.2.2,
            ),
          )) (fans_second w in' g k a b c d)

      -- where two faces meet at a seam, all others at its end do
      meet : (v w p q : ℕ) → name w ≡ v → w < N.vertices → InFirst p → InSecond q → HasCorner M p v → HasCorner N q w →
          ShareAt K v (left p) (right q) → (g k : ℕ) → InFirst g → InSecond k → HasCorner M g v → HasCorner N k w →
          Joined (KeptShareAt K InBoth v) (left g) (right k)
      meet v w p q e in' a b c d s g k x y cx cy =
          joined_trans (chain_left v g p x a cx c) (over (inl (p, c.0, a, refl), inr (q, d.0, b, refl), s)
          (subst (λ u. Joined (KeptShareAt K InBoth u) (right q) (right k)) e (chain_right w q k in' b y d cy)))

      at_start : (s : Seam) (v w : ℕ) → w ≡ s.i → name w ≡ v → w < N.vertices → (g k : ℕ) → InFirst g → InSecond k →
          HasCorner M g v → HasCorner N k w → Joined (KeptShareAt K InBoth v) (left g) (right k)
      at_start s v w i e in' g k x y cx cy =
          let p = near_first s in
          let q = near_second s in
          let is : v ≡ s.p = sym e ∙ ap name i ∙ s.start in
          meet v w p.0 q.0 e in' (kept_first s) (kept_second s)
          (subst (HasCorner M p.0) (sym is)
          (run_face M p.0 (s.q, s.p) p.2, (run_corners (s.q, s.p) (face_at M p.0) p.2).1))
          (subst (HasCorner N q.0) (sym i)
          (run_face N q.0 (s.i, s.j) q.2, (run_corners (s.i, s.j) (face_at N q.0) q.2).0))
          (subst (λ u. ShareAt K u (left p.0) (right q.0)) (sym is) (share_start s)) g k x y cx cy

      at_stop : (s : Seam) (v w : ℕ) → w ≡ s.j → name w ≡ v → w < N.vertices → (g k : ℕ) → InFirst g → InSecond k →
          HasCorner M g v → HasCorner N k w → Joined (KeptShareAt K InBoth v) (left g) (right k)
      at_stop s v w j e in' g k x y cx cy =
          let p = near_first s in
          let q = near_second s in
          let is : v ≡ s.q = sym e ∙ ap name j ∙ s.stop in
          meet v w p.0 q.0 e in' (kept_first s) (kept_second s)
          (subst (HasCorner M p.0) (sym is)
          (run_face M p.0 (s.q, s.p) p.2, (run_corners (s.q, s.p) (face_at M p.0) p.2).0))
          (subst (HasCorner N q.0) (sym j)
          (run_face N q.0 (s.i, s.j) q.2, (run_corners (s.i, s.j) (face_at N q.0) q.2).1))
          (subst (λ u. ShareAt K u (left p.0) (right q.0)) (sym is) (share_stop s)) g k x y cx cy

      -- a face of M and one of N that meet at a vertex
      mixed : (v w : ℕ) → name w ≡ v → w < N.vertices → (g k : ℕ) → InFirst g → InSecond k → HasCorner M g v →
          HasCorner N k w → Joined (KeptShareAt K InBoth v) (left g) (right k)
      unfolding first_seam second_seam
      mixed v w e in' g k x y cx cy =
          let low = corner_below g v cx in
          elim (shared glued of_first of_second w in' (subst (λ u. u < M.vertices) (sym e) low)) [
            | inl i ↦ at_start first_seam v w i e in' g k x y cx cy
            | inr o ↦ elim o [
              | inl j ↦ at_stop second_seam v w j e in' g k x y cx cy
              | inr j ↦ at_stop first_seam v w j e in' g k x y cx cy
            ]
          ]

      pub glued_fans : HasKeptFans K InBoth
      glued_fans v in' x y kx ky cx cy =
          let R = KeptShareAt K InBoth v in
          elim kx [
            | inl l ↦
                let cl = corner_left l.0 v l.1 (others_first l.0 l.2) (subst (λ z. HasCorner K z v) l.3 cx) in
                elim ky [
                  | inl m ↦
                      let cm = corner_left m.0 v m.1 (others_first m.0 m.2) (subst (λ z. HasCorner K z v) m.3 cy) in
                      at_both R x y (left l.0) (left m.0) l.3 m.3 (chain_left v l.0 m.0 l.2 m.2 cl cm)
                  | inr n ↦
                      let cn = corner_right n.0 v n.1 (others_second n.0 n.2) (subst (λ z. HasCorner K z v) n.3 cy) in
                      at_both R x y (left l.0) (right n.0) l.3 n.3
                      (mixed v cn.0 cn.3 cn.2 l.0 n.0 l.2 n.2 cl cn.1)
                ]
            | inr q ↦
                let cq = corner_right q.0 v q.1 (others_second q.0 q.2) (subst (λ z. HasCorner K z v) q.3 cx) in
                elim ky [
                  | inl m ↦
                      let cm = corner_left m.0 v m.1 (others_first m.0 m.2) (subst (λ z. HasCorner K z v) m.3 cy) in
                      at_both R x y (right q.0) (left m.0) q.3 m.3 (joined_sym (kept_share_at_turned K InBoth v)
                      (mixed v cq.0 cq.3 cq.2 m.0 q.0 m.2 q.2 cm cq.1))
                  | inr n ↦
                      let cn = corner_right n.0 v n.1 (others_second n.0 n.2) (subst (λ z. HasCorner K z v) n.3 cy) in
                      let one : cn.0 ≡ cq.0 = glued.injective cn.0 cq.0 cn.2 cq.2 (cn.3 ∙ sym cq.3) in
                      at_both R x y (right q.0) (right n.0) q.3 n.3
                      (subst (λ u. Joined (KeptShareAt K InBoth u) (right q.0) (right n.0)) cq.3
                      (chain_right cq.0 q.0 n.0 cq.2 q.2 n.2 cq.1 (subst (HasCorner N n.0) one cn.1)))
                ]
          ]

    -- all faces are joined where those of M are without f, and those of N without h
    module _ (joined_first : (x y : ℕ) → x < face_count M → y < face_count M → x ≢ f → y ≢ f →
        Joined (KeptShare M (λ g. g ≢ f)) x y)
        (joined_second : (x y : ℕ) → x < face_count N → y < face_count N → x ≢ h → y ≢ h →
        Joined (KeptShare N (λ g. g ≢ h)) x y) where
      hub : ℕ
      hub = left (near_first first_seam).0

      to_hub : (x : ℕ) → x < face_count K → Joined (Share K) x hub
      unfolding hub
      to_hub x in' =
          let p = near_first first_seam in
          let q = near_second first_seam in
          let p_in = run_face M p.0 (first_seam.q, first_seam.p) p.2 in
          let q_in = run_face N q.0 (first_seam.i, first_seam.j) q.2 in
          let s = share_start first_seam in
          elim (glued.faces x in') [
            | inl l ↦ subst (λ z. Joined (Share K) z (left p.0)) (sym l.3)
                (joined_map left (λ g k t. share_left g k t.0 t.1 t.2) (joined_first l.0 p.0 l.1 p_in l.2 p.1))
            | inr r ↦ subst (λ z. Joined (Share K) z (left p.0)) (sym r.3)
                (joined_trans
                (joined_map right (λ g k t. share_right g k t.0 t.1 t.2) (joined_second r.0 q.0 r.1 q_in r.2 q.1))
                (over (pair first_seam.p s.0, s.2, s.1) here))
          ]

      pub glued_is_connected : IsConnected K
      glued_is_connected x y x_in y_in =
          joined_trans (to_hub x x_in) (joined_sym (λ g k t. (t.0, t.2, t.1)) (to_hub y y_in))

    -- each vertex is in a face
    over_corner : (s : Seam) (v : ℕ) → (v ≡ s.p) ⊎ (v ≡ s.q) → (x : ℕ) × HasCorner K x v
    over_corner s v o =
        let p = near_first s in
        let r = left_runs glued of_first of_second p.0 (s.q, s.p) p.1 p.2 in
        let c = run_corners (s.q, s.p) (face_at K (left p.0)) r in
        let in' = run_face K (left p.0) (s.q, s.p) r in
        elim o [
          | inl e ↦ (left p.0, subst (HasCorner K (left p.0)) (sym e) (in', c.1))
          | inr e ↦ (left p.0, subst (HasCorner K (left p.0)) (sym e) (in', c.0))
        ]

    pub glued_no_isolated : ((v : ℕ) → v < M.vertices → (g : ℕ) × HasCorner M g v) →
        ((v : ℕ) → v < N.vertices → (k : ℕ) × HasCorner N k v) → (v : ℕ) → v < K.vertices → (x : ℕ) × HasCorner K x v
    unfolding first_seam second_seam
    glued_no_isolated some_first some_second v in' = elim (glued.vertices v in') [
      | inl low ↦
          let g = some_first v low in
          elim (cases_eq g.0 f) [
            | inl same ↦ elim (corner_of b0 b1 b2 v
                (subst (λ face. Contains face v) (ap (face_at M) same ∙ glued.first) g.1.1)) [
                  | inl e ↦ over_corner first_seam v (inl e)
                  | inr o ↦ elim o [
                    | inl e ↦ over_corner first_seam v (inr e)
                    | inr e ↦ over_corner second_seam v (inr e)
                  ]
                ]
            | inr other ↦ (
              left g.0,
              (
                glued.left_in g.0 g.1.0 other,
                subst (λ face. Contains face v) (sym (glued.left_face g.0 g.1.0 other)) g.1.1,
              ),
            )
          ]
      | inr w ↦
          let k = some_second w.0 w.1 in
          let high : M.vertices ≤ name w.0 = subst (λ u. M.vertices ≤ u) (sym w.2) w.3 in
          elim (cases_eq k.0 h) [
            | inl same ↦
                let below : (i p : ℕ) → w.0 ≡ i → name i ≡ p → p < M.vertices → ⊥ = λ i p e n lt.
                let is : name w.0 ≡ p = ap name e ∙ n in omega arith in
                let one = first_below glued of_first of_second f (b0, b1) (f_first glued of_first of_second) in
                let two = first_below glued of_first of_second f (b1, b2) (f_second glued of_first of_second) in
                elim (corner_of a0 a1 a2 w.0
                (subst (λ face. Contains face w.0) (ap (face_at N) same ∙ glued.second) k.1.1)) [
                  | inl e ↦ absurd (below a0 b0 e glued.named_0 one.0)
                  | inr o ↦ elim o [
                    | inl e ↦ absurd (below a1 b2 e glued.named_1 two.1)
                    | inr e ↦ absurd (below a2 b1 e glued.named_2 one.1)
                  ]
                ]
            | inr other ↦ (
              right k.0,
              (
                glued.right_in k.0 k.1.0 other,
                subst (λ u. Contains (face_at K (right k.0)) u) w.2
                    (subst (λ face. Contains face (name w.0)) (sym (glued.right_face k.0 k.1.0 other))
                    (corner_renamed name (face_at N k.0) w.0 k.1.1)),
              ),
            )
          ]
    ]

-- joined along a triangle that each can lose, two surfaces are one
pub glued_is_surface : {M N K : Mesh} {f h : ℕ} {name left right : ℕ → ℕ} {a0 a1 a2 b0 b1 b2 : ℕ} →
    IsGlued M N K f h name left right a0 a1 a2 b0 b1 b2 → Losing M f b0 b1 b2 → Losing N h a0 a1 a2 → IsSurface K
glued_is_surface {M} {N} {K} {f} {h} {name} {left} {right} glued first second =
    let coherent = glued_is_coherent glued first.coherent second.coherent in
    let fans = glued_fans glued first.coherent second.coherent (λ g. g ≢ f) (λ k. k ≢ h) (λ g x. x) (λ k x. x)
    first.fans second.fans (λ s. (near_first glued first.coherent second.coherent s).1)
    (λ s. (near_second glued first.coherent second.coherent s).1) in
    let kept : (x : ℕ) → x < face_count K → Kept M N left right (λ g. g ≢ f) (λ k. k ≢ h) x = glued.faces in
    let some = near_first glued first.coherent second.coherent (first_seam glued first.coherent second.coherent) in
    record {
      is_mesh = coherent.is_mesh;
      some_face =
          let n = glued.left_in some.0 (run_face M some.0 _ some.2) some.1 in omega (arith, n);
      two_faces = coherent_edges_have_two_faces K coherent;
      no_isolated = glued_no_isolated glued first.coherent second.coherent first.no_isolated second.no_isolated;
      one_fan = λ v in' x y cx cy. joined_lift (λ g k s. over s.2 here)
          (fans v in' x y (kept x cx.0) (kept y cy.0) cx cy);
      connected = glued_is_connected glued first.coherent second.coherent (others_joined first) (others_joined second);
    }
