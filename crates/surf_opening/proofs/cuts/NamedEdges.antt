-- Where the characteristic is 2, trimming by the greatest leaf leaves the first two edges of the named path.
use Rattle.surf_surfaces.proofs.Common.{◌≡◌, ◌≢◌, ℕ, zero, suc, ◌+◌, ◌<◌, ◌≤◌, ◌⊎◌, inl, inr, sym, refl, subst, ap, ◌∙◌, List, ◌∷◌, arith, true, cases_eq, cases_lt, cases_Bool, both_ways, Mesh, pair, face_count, edge_count, face_at, has_side, IsSurface}
use Rattle.surf_opening.specs.Rim.{Among, along, back, HasMore}
use Rattle.surf_opening.proofs.gluing.RimWords.{Reaches, here, turn, pass}
use Rattle.surf_opening.specs.Side.{Side}
use Rattle.surf_opening.specs.Uncut.{Uncut, CutSide, CutEdge, Copy, In, IsDualTree, IsTrimmed, NoMoreThan}
use Rattle.surf_opening.proofs.sides.SideWords.{IsSides, IsOneFan}
use Rattle.surf_opening.specs.Uncut as uncut_spec
use Rattle.surf_opening.specs.Named.{IsLeaf, IsTrimmedByGreatest, whole, leaf, IsCutPath, IsNamed}
use Rattle.surf_opening.proofs.gluing.Rims.{among_cases, among_turn}
use Rattle.surf_opening.proofs.counts.Count.{among_sym, among_onward}
use Rattle.surf_opening.proofs.gluing.Gluing.{uncut_turned}
use Rattle.surf_opening.proofs.sides.MeshSides.{in_mesh, side_turned}
use Rattle.surf_opening.proofs.gluing.Trim.{trimmed_is_open}
use Rattle.surf_opening.proofs.openings.OpeningLaw.{surface_sides}
use Rattle.surf_opening.proofs.openings.Slits.{uncut_cases}
use Rattle.surf_opening.proofs.cuts.Sphere.{taken, taken_or_cut}
use Rattle.surf_opening.proofs.cuts.TwoLeaves.{IsFork, two_leaves, no_triple}

pub search_below : (n : ℕ) (P : ℕ → Type 0) → ((k : ℕ) → P k ⊎ (P k → ⊥)) →
    ((k : ℕ) × (k < n) × P k) ⊎ ((k : ℕ) → k < n → P k → ⊥)
search_below zero P decide = inr (λ k h p. absurd (omega arith))
search_below (suc n) P decide = elim (search_below n P decide) [
  | inl f ↦ let h : f.0 < n = f.1 in inl (f.0, omega arith, f.2)
  | inr none ↦ elim (decide n) [
    | inl p ↦ inl (n, omega arith, p)
    | inr no_p ↦ inr (λ k h p. elim (cases_eq k n) [ inl e ↦ no_p (subst P e p) | inr ne ↦ none k (omega arith) p ])
  ]
]

-- the facts of order that the names give
leaf_by_first : (k v : ℕ) (at : ℕ → ℕ) → IsNamed k at → v ≤ at 0 → (v ≡ at 0) ⊎ (v ≡ at 1)
leaf_by_first k v at (inl m) h = let e : at 0 ≡ 0 = m.0 in inl (omega arith)
leaf_by_first k v at (inr m) h = elim m.0 [
  | inl e ↦ let a : at 0 ≡ 0 = e.0 in inl (omega arith)
  | inr e ↦ let a : at 0 ≡ 1 = e.0 in let b : at 1 ≡ 0 = e.1 in
      elim (cases_eq v 0) [ inl z ↦ inr (omega arith) | inr z ↦ inl (omega arith) ]
]

leaf_by_last : (k v : ℕ) (at : ℕ → ℕ) → IsNamed k at → v ≤ at k → (v ≡ at 0) ⊎ ((v ≡ at 1) ⊎ (v ≡ at k))
leaf_by_last k v at (inl m) h =
    let a : at 0 ≡ 0 = m.0 in
    let b : at k ≡ 1 = m.1 in
    elim (cases_eq v 0) [ inl z ↦ inl (omega arith) | inr z ↦ inr (inr (omega arith)) ]
leaf_by_last k v at (inr m) h =
    let b : at k ≡ 2 = m.1 in
    elim m.0 [
      | inl e ↦ let a : at 0 ≡ 0 = e.0 in let c : at 1 ≡ 1 = e.1 in
          elim (cases_eq v 0) [
            | inl z ↦ inl (omega arith)
            | inr z ↦ elim (cases_eq v 1) [ inl y ↦ inr (inl (omega arith)) | inr y ↦ inr (inr (omega arith)) ]
          ]
      | inr e ↦ let a : at 0 ≡ 1 = e.0 in let c : at 1 ≡ 0 = e.1 in
          elim (cases_eq v 0) [
            | inl z ↦ inr (inl (omega arith))
            | inr z ↦ elim (cases_eq v 1) [ inl y ↦ inl (omega arith) | inr y ↦ inr (inr (omega arith)) ]
          ]
    ]

first_below : (k j : ℕ) (at : ℕ → ℕ) → IsNamed k at → at j ≢ at 0 → at j ≢ at 1 → at 0 < at j
first_below k j at (inl m) n o = let a : at 0 ≡ 0 = m.0 in omega arith
first_below k j at (inr m) n o = elim m.0 [
  | inl e ↦ let a : at 0 ≡ 0 = e.0 in omega arith
  | inr e ↦ let a : at 0 ≡ 1 = e.0 in let b : at 1 ≡ 0 = e.1 in omega arith
]

pub forget : {Side : ℕ → ℕ → ℕ → Type 0} {tree uncut : List (ℕ × ℕ)} → IsTrimmedByGreatest Side tree uncut →
    IsTrimmed Side tree uncut
forget whole = uncut_spec.whole
forget (leaf a p q trimmed r only greatest more) = uncut_spec.leaf a p q (forget trimmed) r only more

module _ {mesh : Mesh} (surface : IsSurface mesh) where
  -- whether an edge is cut
  pub edge_cut : (uncut : List (ℕ × ℕ)) (v w : ℕ) → CutEdge (Side mesh) uncut v w ⊎ (CutEdge (Side mesh) uncut v w → ⊥)
  edge_cut uncut v w = elim (uncut_cases uncut v w) [
    | inl u ↦ inr (λ k. k.1.1 u)
    | inr n ↦ elim (search_below (face_count mesh) (λ f. has_side (pair v w) (face_at mesh f) ≡ true)
        (λ f. elim (cases_Bool (has_side (pair v w) (face_at mesh f))) [
          | inl e ↦ inl e
          | inr e ↦ inr (both_ways (has_side (pair v w) (face_at mesh f)) e)
        ])) [
          | inl f ↦ inl (f.0, (record { has = (f.1, f.2) }, n))
          | inr none ↦ inr (λ k. none k.0 (in_mesh mesh k.1.0) k.1.0.has.1)
        ]
  ]

module _ {mesh : Mesh} (surface : IsSurface mesh) {tree : List (ℕ × ℕ)} (dual : IsDualTree (Side mesh) tree)
    (flat : mesh.vertices + face_count mesh ≡ edge_count mesh + 2) (fan : (v : ℕ) → v < mesh.vertices →
    IsOneFan (Side mesh) v)
    (corner : (v : ℕ) → v < mesh.vertices → (f : ℕ) × (w : ℕ) × Side mesh f v w) (end_below : (f v w : ℕ) →
    Side mesh f v w → v < mesh.vertices) where
  abbrev sides : IsSides (Side mesh)
  sides = surface_sides surface

  cut_turned : (uncut : List (ℕ × ℕ)) {f v w : ℕ} → CutSide (Side mesh) uncut f v w → CutSide (Side mesh) uncut f w v
  cut_turned uncut {f} {v} {w} r = (side_turned mesh r.0, λ u. r.1 (uncut_turned sides uncut w v u))

  edge_cases : (uncut : List (ℕ × ℕ)) (v w : ℕ) → CutEdge (Side mesh) uncut v w ⊎ (CutEdge (Side mesh) uncut v w → ⊥)
  edge_cases uncut v w = edge_cut surface uncut v w

  -- a vertex is a leaf that was taken, a fork or a leaf
  three_kinds : {uncut : List (ℕ × ℕ)} (trimmed : IsTrimmed (Side mesh) tree uncut) (v : ℕ) → v < mesh.vertices →
      In (taken sides trimmed) v ⊎ (IsFork surface dual uncut v ⊎ IsLeaf (Side mesh) uncut v)
  three_kinds {uncut} trimmed v h =
      let c = corner v h in
      elim (taken_or_cut sides dual c.0 v c.1 trimmed c.2) [
        | inl i ↦ inl i
        | inr k ↦ inr (elim (search_below mesh.vertices (λ w. CutEdge (Side mesh) uncut v w × (k.1 ≢ w))
            (λ w. elim (edge_cases uncut v w) [
              | inr n ↦ inr (λ p. n p.0)
              | inl e ↦ elim (cases_eq k.1 w) [ inl s ↦ inr (λ p. p.1 s) | inr n ↦ inl (e, n) ]
            ])) [
              | inl o ↦ inl (record { f = k.0; g = o.2.0.0; w = k.1; y = o.0; one = k.2; two = o.2.0.1; differ = o.2.1 })
              | inr none ↦ inr (record {
                face = k.0;
                end = k.1;
                cut = k.2;
                only = λ g y r. elim (cases_eq k.1 y) [
                  | inl e ↦ sym e
                  | inr n ↦ absurd (none y (end_below g y v (side_turned mesh r.0)) ((g, r), n))
                ];
              })
            ])
      ]

  module _ (k : ℕ) (at : ℕ → ℕ) (named : IsNamed k at) where
    abbrev Path : List (ℕ × ℕ) → Type 0
    Path uncut = IsCutPath (Side mesh) uncut k at

    -- an edge of the path before place j
    pub record OnPath (j v w : ℕ) : Type 0 where
      pub place : ℕ
      pub before : place < j
      pub is : Among (at place) (at (suc place)) v w

    -- every cut edge is one of the first j of the path
    abbrev AllOn : List (ℕ × ℕ) → ℕ → Type 0
    AllOn uncut j = (f v w : ℕ) → CutSide (Side mesh) uncut f v w → OnPath j v w

    -- two different cut edges at a vertex inside
    inner_fork : {uncut : List (ℕ × ℕ)} (path : Path uncut) (i : ℕ) → suc i < k → IsFork surface dual uncut (at (suc i))
    inner_fork {uncut} path i h =
        let a = path.cut i (omega arith) in
        let b = path.cut (suc i) h in
        record {
          f = a.0;
          g = b.0;
          w = at i;
          y = at (suc (suc i));
          one = cut_turned uncut a.1;
          two = b.1;
          differ = λ e. let z : i ≡ suc (suc i) = path.distinct i (suc (suc i)) (omega arith) (omega arith) e in
              omega arith;
        }

    first_inner : {uncut : List (ℕ × ℕ)} (path : Path uncut) → IsFork surface dual uncut (at 1)
    first_inner path = let long : 2 ≤ k = path.long in inner_fork path 0 (omega arith)

    -- where the greatest leaf is the path's first vertex there is no other leaf
    first_not_greatest : {uncut : List (ℕ × ℕ)} (trimmed : IsTrimmed (Side mesh) tree uncut) (path : Path uncut) →
        ((v : ℕ) → IsLeaf (Side mesh) uncut v → v ≤ at 0) → ⊥
    first_not_greatest {uncut} trimmed path greatest =
        two_leaves surface dual trimmed flat (at 0) fan (λ v h. elim (three_kinds trimmed v h) [
          | inl i ↦ inl (inr i)
          | inr o ↦ elim o [
            | inl fork ↦ inr fork
            | inr lone ↦ elim (leaf_by_first k v at named (greatest v lone)) [
              | inl e ↦ inl (inl e)
              | inr e ↦ inr (subst (λ v. IsFork surface dual uncut v) (sym e) (first_inner path))
            ]
          ]
        ])

    -- where it is the last, the leaves are the two ends
    ends_only : {uncut : List (ℕ × ℕ)} (trimmed : IsTrimmed (Side mesh) tree uncut) (path : Path uncut) →
        ((v : ℕ) → IsLeaf (Side mesh) uncut v → v ≤ at k) →
        (v : ℕ) → v < mesh.vertices → In (at 0 ∷ at k ∷ taken sides trimmed) v ⊎ IsFork surface dual uncut v
    ends_only {uncut} trimmed path greatest v h = elim (three_kinds trimmed v h) [
      | inl i ↦ inl (inr (inr i))
      | inr o ↦ elim o [
        | inl fork ↦ inr fork
        | inr lone ↦ elim (leaf_by_last k v at named (greatest v lone)) [
          | inl e ↦ inl (inl e)
          | inr p ↦ elim p [
            | inl e ↦ inr (subst (λ v. IsFork surface dual uncut v) (sym e) (first_inner path))
            | inr e ↦ inl (inr (inl e))
          ]
        ]
      ]
    ]

    -- then no cut edge leaves the path
    stays_on : {uncut : List (ℕ × ℕ)} (trimmed : IsTrimmed (Side mesh) tree uncut) (path : Path uncut) →
        ((v : ℕ) → v < mesh.vertices → In (at 0 ∷ at k ∷ taken sides trimmed) v ⊎ IsFork surface dual uncut v) →
        (m : ℕ) → m ≤ k → {g z : ℕ} → CutSide (Side mesh) uncut g (at m) z → OnPath k (at m) z
    stays_on {uncut} trimmed path each zero h {g} {z} r =
        let long : 2 ≤ k = path.long in
        let a = path.cut 0 (omega arith) in
        elim (cases_eq z (at 1)) [
          | inl e ↦ record { place = 0; before = omega arith; is = along refl e }
          | inr n ↦ absurd (two_leaves surface dual trimmed flat (at k) fan (λ v h. elim (each v h) [
            | inr fork ↦ inr fork
            | inl i ↦ elim i [
              | inl e ↦ inr (subst (λ v. IsFork surface dual uncut v) (sym e)
                  (record { f = g; g = a.0; w = z; y = at 1; one = r; two = a.1; differ = n }))
              | inr i ↦ inl i
            ]
          ]))
        ]
    stays_on {uncut} trimmed path each (suc m) h {g} {z} r =
        let a = path.cut m (omega arith) in
        elim (cases_eq z (at m)) [
          | inl e ↦ record { place = m; before = omega arith; is = back refl e }
          | inr n ↦ elim (cases_lt (suc m) k) [
            | inl l ↦
                let b = path.cut (suc m) l in
                elim (cases_eq z (at (suc (suc m)))) [
                  | inl e ↦ record { place = suc m; before = l; is = along refl e }
                  | inr o ↦ absurd (no_triple surface dual trimmed flat (at 0) (at k) fan each (at (suc m))
                      (end_below g (at (suc m)) z r.0) (cut_turned uncut a.1) b.1 r
                      (λ e. let y : m ≡ suc (suc m) = path.distinct m (suc (suc m)) (omega arith) (omega arith) e in
                      omega arith) (λ e. n (sym e)) (λ e. o (sym e)))
                ]
            | inr l ↦
                let last : suc m ≡ k = omega arith in
                absurd (two_leaves surface dual trimmed flat (at 0) fan (λ v h. elim (each v h) [
                  | inr fork ↦ inr fork
                  | inl i ↦ elim i [
                    | inl e ↦ inl (inl e)
                    | inr i ↦ elim i [
                      | inl e ↦ inr (subst (λ v. IsFork surface dual uncut v) (ap at last ∙ sym e)
                          (record { f = g; g = a.0; w = z; y = at m; one = r; two = cut_turned uncut a.1; differ = n }))
                      | inr i ↦ inl (inr i)
                    ]
                  ]
                ]))
          ]
        ]

    path_turn : {j v w : ℕ} → OnPath j v w → OnPath j w v
    path_turn o = record { place = o.place; before = o.before; is = among_turn o.is }

    path_pass : {uncut : List (ℕ × ℕ)} (trimmed : IsTrimmed (Side mesh) tree uncut) (path : Path uncut) →
        ((v : ℕ) → v < mesh.vertices → In (at 0 ∷ at k ∷ taken sides trimmed) v ⊎ IsFork surface dual uncut v) →
        {v w h z : ℕ} → OnPath k v w → CutSide (Side mesh) uncut h v z → OnPath k v z
    path_pass {uncut} trimmed path each {v} {w} {h} {z} o r =
        let b : o.place < k = o.before in
        elim o.is [
          | along e x ↦ subst (λ v. OnPath k v z) (sym e)
              (stays_on trimmed path each o.place (omega arith) (subst (λ v. CutSide (Side mesh) uncut h v z) e r))
          | back e x ↦ subst (λ v. OnPath k v z) (sym e)
              (stays_on trimmed path each (suc o.place) (omega arith) (subst (λ v. CutSide (Side mesh) uncut h v z) e r))
        ]

    path_reaches : {uncut : List (ℕ × ℕ)} (trimmed : IsTrimmed (Side mesh) tree uncut) (path : Path uncut) →
        ((v : ℕ) → v < mesh.vertices → In (at 0 ∷ at k ∷ taken sides trimmed) v ⊎ IsFork surface dual uncut v) →
        {g x y f v w : ℕ} → Reaches (CutSide (Side mesh) uncut) (Copy (Side mesh) uncut) g x y f v w → OnPath k v w →
        OnPath k x y
    path_reaches trimmed path each here o = o
    path_reaches trimmed path each (turn r rest) o = path_reaches trimmed path each rest (path_turn o)
    path_reaches trimmed path each (pass e r rest) o =
        path_reaches trimmed path each rest (path_pass trimmed path each o r)

    path_is_all : {uncut : List (ℕ × ℕ)} (trimmed : IsTrimmed (Side mesh) tree uncut) (path : Path uncut) →
        ((v : ℕ) → IsLeaf (Side mesh) uncut v → v ≤ at k) →
        (f v w : ℕ) → CutSide (Side mesh) uncut f v w → OnPath k v w
    path_is_all trimmed path greatest f v w r =
        let long : 2 ≤ k = path.long in
        let a = path.cut 0 (omega arith) in
        path_reaches trimmed path (ends_only trimmed path greatest)
        ((trimmed_is_open sides dual trimmed).one a.0 (at 0) (at 1) f v w a.1 r)
        (record { place = 0; before = omega arith; is = along refl refl })

    -- all of the path is cut, or exactly its first j edges
    data Stage (uncut : List (ℕ × ℕ)) : Type 0 where
      all_cut : ((i : ℕ) → i < k → CutEdge (Side mesh) uncut (at i) (at (suc i))) → Stage uncut
      first_cut : (j : ℕ) → 2 ≤ j → j ≤ k → ((i : ℕ) → i < j → CutEdge (Side mesh) uncut (at i) (at (suc i))) →
          AllOn uncut j → Stage uncut

    module _ (long : 2 ≤ k) (distinct : (i j : ℕ) → i ≤ k → j ≤ k → at i ≡ at j → i ≡ j) where
      edge_once : (i j : ℕ) → i < k → j < k → Among (at i) (at (suc i)) (at j) (at (suc j)) → i ≡ j
      edge_once i j g h (along a b) = sym (distinct j i (omega arith) (omega arith) a)
      edge_once i j g h (back a b) =
          let x : j ≡ suc i = distinct j (suc i) (omega arith) (omega arith) a in
          let y : suc j ≡ i = distinct (suc j) i (omega arith) (omega arith) b in
          absurd (omega arith)

      -- a leaf's edge on the first j of the path, all cut, is the first one or the last
      which : (uncut : List (ℕ × ℕ)) {p q : ℕ} (j : ℕ) → j ≤ k →
          ((i : ℕ) → i < j → CutEdge (Side mesh) uncut (at i) (at (suc i))) →
          ((f w : ℕ) → CutSide (Side mesh) uncut f p w → w ≡ q) → (i : ℕ) → i < j → Among (at i) (at (suc i)) p q →
          (p ≡ at 0) ⊎ ((i : ℕ) × (suc i ≡ j) × (p ≡ at (suc i)) × (q ≡ at i))
      which uncut {p} {q} j j_le cut only zero b (along e h) = inl e
      which uncut {p} {q} j j_le cut only (suc i) b (along e h) =
          let a = cut i (omega arith) in
          let z : at i ≡ at (suc (suc i)) =
          only a.0 (at i) (subst (λ v. CutSide (Side mesh) uncut a.0 v (at i)) (sym e) (cut_turned uncut a.1)) ∙ h in
          let y : i ≡ suc (suc i) = distinct i (suc (suc i)) (omega arith) (omega arith) z in
          absurd (omega arith)
      which uncut {p} {q} j j_le cut only i b (back e h) = elim (cases_lt (suc i) j) [
        | inr l ↦ inr (i, omega arith, e, h)
        | inl l ↦
            let a = cut (suc i) l in
            let z : at (suc (suc i)) ≡ at i =
            only a.0 (at (suc (suc i))) (subst (λ v. CutSide (Side mesh) uncut a.0 v (at (suc (suc i)))) (sym e) a.1) ∙
            h in
            let y : suc (suc i) ≡ i = distinct (suc (suc i)) i (omega arith) (omega arith) z in
            absurd (omega arith)
      ]

      -- the last vertex of the first j edges, where they are all that is cut, is a leaf
      last_leaf : {uncut : List (ℕ × ℕ)} (i : ℕ) → suc i ≤ k → CutEdge (Side mesh) uncut (at i) (at (suc i)) →
          AllOn uncut (suc i) → IsLeaf (Side mesh) uncut (at (suc i))
      last_leaf {uncut} i h a all = record {
        face = a.0;
        end = at i;
        cut = cut_turned uncut a.1;
        only = λ g y r. let o = all g (at (suc i)) y r in on_last o.place o.before o.is;
      }
        where
          on_last : {y : ℕ} (m : ℕ) → m < suc i → Among (at m) (at (suc m)) (at (suc i)) y → y ≡ at i
          on_last m l (along e x) = let z : suc i ≡ m = distinct (suc i) m h (omega arith) e in absurd (omega arith)
          on_last m l (back e x) = let z : suc i ≡ suc m = distinct (suc i) (suc m) h (omega arith) e in let w : m ≡ i =
              omega arith in x ∙ ap at w

      -- what stays cut
      edge_kept : (uncut : List (ℕ × ℕ)) {p q v w : ℕ} → CutEdge (Side mesh) uncut v w → (Among p q v w → ⊥) →
          CutEdge (Side mesh) ((p, q) ∷ uncut) v w
      edge_kept uncut c n = (c.0, (c.1.0, λ u. elim u [ inl m ↦ n m | inr l ↦ c.1.1 l ]))

      -- the last edge goes, and two at least stay
      last_goes : {uncut : List (ℕ × ℕ)} {p q : ℕ} (i : ℕ) → suc i ≤ k →
          ((m : ℕ) → m < suc i → CutEdge (Side mesh) uncut (at m) (at (suc m))) → AllOn uncut (suc i) → p ≡ at (suc i) →
          q ≡ at i →
          HasMore (CutSide (Side mesh) ((p, q) ∷ uncut)) → Stage ((p, q) ∷ uncut)
      last_goes {uncut} {p} {q} i h cut all e x more = first_cut i (two_left i refl) (omega arith)
          (λ m l. edge_kept uncut (cut m (omega arith))
          (λ a. let z : i ≡ m = edge_once i m (omega arith) (omega arith) (among_onward (back_pair e x) a) in
          omega arith))
          fewer
        where
          back_pair : p ≡ at (suc i) → q ≡ at i → Among (at i) (at (suc i)) p q
          back_pair e x = back e x

          fewer : AllOn ((p, q) ∷ uncut) i
          fewer f v w r =
              let o = all f v w (r.0, λ u. r.1 (inr u)) in
              let b : o.place < suc i = o.before in
              elim (cases_eq o.place i) [
                | inr n ↦ record { place = o.place; before = omega arith; is = o.is }
                | inl y ↦ absurd (r.1
                    (inl (among_onward (among_sym (back_pair e x)) (subst (λ m. Among (at m) (at (suc m)) v w) y o.is))))
              ]

          two_left : (j : ℕ) → j ≡ i → 2 ≤ i
          two_left zero y = let m = more p q in let o = fewer m.0 m.1 m.2 m.3 in let b : o.place < i = o.before in
              absurd (omega arith)
          two_left (suc zero) y =
              let m = more (at 0) (at 1) in
              let o = fewer m.0 m.1 m.2 m.3 in
              let b : o.place < i = o.before in
              let z : o.place ≡ 0 = omega arith in
              absurd (m.4 (subst (λ n. Among (at n) (at (suc n)) m.1 m.2) z o.is))
          two_left (suc (suc j)) y = omega arith

      first_goes_not : {uncut : List (ℕ × ℕ)} {p : ℕ} (j : ℕ) → 2 ≤ j → j ≤ k →
          ((i : ℕ) → i < j → CutEdge (Side mesh) uncut (at i) (at (suc i))) → AllOn uncut j →
          ((v : ℕ) → IsLeaf (Side mesh) uncut v → v ≤ p) → p ≡ at 0 → ⊥
      first_goes_not zero two h cut all greatest e = omega arith
      first_goes_not (suc i) two h cut all greatest e =
          let a : at (suc i) ≤ at 0 =
          subst (λ p. at (suc i) ≤ p) e (greatest (at (suc i)) (last_leaf i h (cut i (omega arith)) all)) in
          let b : at 0 < at (suc i) = first_below k (suc i) at named
          (λ x. let z : suc i ≡ 0 = distinct (suc i) 0 h (omega arith) x in omega arith) (λ x. let z : suc i ≡ 1 =
          distinct (suc i) 1 h (omega arith) x in omega arith) in
          omega arith

      stage_leaf : {uncut : List (ℕ × ℕ)} {a p q : ℕ} → IsTrimmed (Side mesh) tree uncut → Stage uncut →
          CutSide (Side mesh) uncut a p q → ((f w : ℕ) → CutSide (Side mesh) uncut f p w → w ≡ q) →
          ((v : ℕ) → IsLeaf (Side mesh) uncut v → v ≤ p) → HasMore (CutSide (Side mesh) ((p, q) ∷ uncut)) →
          Stage ((p, q) ∷ uncut)
      stage_leaf {uncut} {a} {p} {q} trimmed (first_cut j two j_le cut all) r only greatest more =
          let o = all a p q r in
          elim (which uncut j j_le cut only o.place o.before o.is) [
            | inl e ↦ absurd (first_goes_not j two j_le cut all greatest e)
            | inr m ↦ last_goes m.0 (subst (λ j. j ≤ k) (sym m.1) j_le)
                (subst (λ j. (i : ℕ) → i < j → CutEdge (Side mesh) uncut (at i) (at (suc i))) (sym m.1) cut)
                (subst (λ j. AllOn uncut j) (sym m.1) all) m.2 m.3 more
          ]
      stage_leaf {uncut} {a} {p} {q} trimmed (all_cut cut) r only greatest more =
          let path : Path uncut = record { long = long; cut = cut; distinct = distinct } in
          elim (search_below k (λ i. Among (at i) (at (suc i)) p q) (λ i. among_cases (at i) (at (suc i)) p q)) [
            | inr none ↦ all_cut (λ i h. edge_kept uncut (cut i h) (λ m. none i h (among_sym m)))
            | inl o ↦ elim (which uncut k (omega arith) cut only o.0 o.1 o.2) [
              | inl e ↦ absurd (first_not_greatest trimmed path (λ v l. subst (λ p. v ≤ p) e (greatest v l)))
              | inr m ↦
                  let all = path_is_all trimmed path (λ v l. subst (λ p. v ≤ p) (m.2 ∙ ap at m.1) (greatest v l)) in
                  last_goes m.0 (omega (arith, m.1))
                  (subst (λ j. (i : ℕ) → i < j → CutEdge (Side mesh) uncut (at i) (at (suc i))) (sym m.1) cut)
                  (subst (λ j. AllOn uncut j) (sym m.1) all) m.2 m.3 more
            ]
          ]

      stages : {uncut : List (ℕ × ℕ)} → ((i : ℕ) → i < k → CutEdge (Side mesh) tree (at i) (at (suc i))) →
          IsTrimmedByGreatest (Side mesh) tree uncut → Stage uncut
      stages cut whole = all_cut cut
      stages cut (leaf a p q trimmed r only greatest more) =
          stage_leaf (forget trimmed) (stages cut trimmed) r only greatest more

      two_cut : {uncut : List (ℕ × ℕ)} → Stage uncut → (i : ℕ) → i < 2 → CutEdge (Side mesh) uncut (at i) (at (suc i))
      two_cut (all_cut cut) i h = cut i (omega arith)
      two_cut (first_cut j two j_le cut all) i h = cut i (omega arith)

    pub named_are_cut : {uncut : List (ℕ × ℕ)} → Path tree → IsTrimmedByGreatest (Side mesh) tree uncut →
        CutEdge (Side mesh) uncut (at 0) (at 1) × CutEdge (Side mesh) uncut (at 1) (at 2)
    named_are_cut path trimmed =
        let stage = stages path.long path.distinct path.cut trimmed in
        (two_cut path.long path.distinct stage 0 (omega arith), two_cut path.long path.distinct stage 1 (omega arith))

    -- where no more than two edges are left, they are the first two of the named path
    pub named_edges : {uncut : List (ℕ × ℕ)} → Path tree → IsTrimmedByGreatest (Side mesh) tree uncut → (x y z t : ℕ) →
        NoMoreThan (Side mesh) uncut x y z t →
        (f v w : ℕ) → CutSide (Side mesh) uncut f v w → Among (at 0) (at 1) v w ⊎ Among (at 1) (at 2) v w
    named_edges {uncut} path trimmed x y z t few f v w r =
        let stage = stages path.long path.distinct path.cut trimmed in
        let a = two_cut path.long path.distinct stage 0 (omega arith) in
        let b = two_cut path.long path.distinct stage 1 (omega arith) in
        let apart : Among (at 0) (at 1) (at 1) (at 2) → ⊥ = λ m. let l : 2 ≤ k = path.long in let e : 0 ≡ 1 =
        edge_once path.long path.distinct 0 1 (omega arith) (omega arith) m in absurd (zero_one e) in
        elim (few a.0 (at 0) (at 1) a.1) [
          | inl m ↦ elim (few b.0 (at 1) (at 2) b.1) [
            | inl n ↦ absurd (apart (among_onward (among_sym m) n))
            | inr n ↦ elim (few f v w r) [
              | inl o ↦ inl (among_onward (among_sym m) o)
              | inr o ↦ inr (among_onward (among_sym n) o)
            ]
          ]
          | inr m ↦ elim (few b.0 (at 1) (at 2) b.1) [
            | inr n ↦ absurd (apart (among_onward (among_sym m) n))
            | inl n ↦ elim (few f v w r) [
              | inl o ↦ inr (among_onward (among_sym n) o)
              | inr o ↦ inl (among_onward (among_sym m) o)
            ]
          ]
        ]
      where
        zero_one : ◌≡◌ {A = ℕ} 0 1 → ⊥
        zero_one e = omega arith
