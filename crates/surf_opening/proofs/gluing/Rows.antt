-- The rows of a dual tree make one: the faces come in as soon as their parents are there.
use Rattle.surf_surfaces.proofs.Common.{◌≡◌, ◌≢◌, ℕ, zero, suc, ◌+◌, ◌<◌, ◌≤◌, ◌⊎◌, inl, inr, sym, refl, subst, ap, ◌∙◌, List, [], ◌∷◌, length, get_or, arith, cases_eq}
use Rattle.surf_opening.specs.Rim.{Among, along}
use Rattle.surf_opening.specs.Uncut.{Uncut, In, IsFaceTree, grown, IsDualTree}
use Rattle.surf_opening.proofs.sides.SideWords.{IsSides, IsDualRows}
use Rattle.surf_opening.specs.Uncut as uncut_spec
use Rattle.surf_opening.proofs.counts.Counting.{pigeons}
use Rattle.surf_opening.proofs.gluing.Tree.{at_in, tree_one}

in_cases : (faces : List ℕ) (f : ℕ) → In faces f ⊎ (In faces f → ⊥)
in_cases [] f = inr (λ m. m)
in_cases (g ∷ rest) f = elim (cases_eq f g) [
  | inl e ↦ inl (inl e)
  | inr ne ↦ elim (in_cases rest f) [ inl m ↦ inl (inr m) | inr n ↦ inr (λ o. elim o [ inl e ↦ ne e | inr m ↦ n m ]) ]
]

missing : (faces : List ℕ) (n : ℕ) → ((f : ℕ) → f < n → In faces f) ⊎ ((f : ℕ) × (f < n) × (In faces f → ⊥))
missing faces zero = inl (λ f h. absurd (omega arith))
missing faces (suc n) = elim (missing faces n) [
  | inr m ↦ let h : m.0 < n = m.1 in inr (m.0, omega arith, m.2)
  | inl all ↦ elim (in_cases faces n) [
    | inr out ↦ inr (n, omega arith, out)
    | inl m ↦ inl (λ f h. elim (cases_eq f n) [
      | inl e ↦ subst (λ x. In faces x) (sym e) m
      | inr ne ↦ all f (omega arith)
    ])
  ]
]

module _ {Side : ℕ → ℕ → ℕ → Type 0} (sides : IsSides Side) {count root : ℕ} {rank parent first second : ℕ → ℕ}
    (rows : IsDualRows Side count root rank parent first second)
    (below : (f v w : ℕ) → Side f v w → f < count) where
  record Growing (faces : List ℕ) (tree : List (ℕ × ℕ)) : Type 0 where
    grows : IsFaceTree Side faces tree
    all_below : (f : ℕ) → In faces f → f < count
    has_root : In faces root
    has_edge : (f : ℕ) → f ≢ root → In faces f → Uncut tree (first f) (second f)
    is_edge : (v w : ℕ) → Uncut tree v w → (f : ℕ) × (f < count) × (f ≢ root) × Among (first f) (second f) v w

  -- a face that isn't in, but whose parent is
  climb : (faces : List ℕ) → In faces root → (d f : ℕ) → rank f < d → f < count → (In faces f → ⊥) →
      (g : ℕ) × (g < count) × (g ≢ root) × (In faces g → ⊥) × In faces (parent g)
  climb faces has_root zero f e h out = absurd (omega arith)
  climb faces has_root (suc d) f e h out =
      elim (cases_eq f root) [
        | inl z ↦ absurd (out (subst (λ x. In faces x) (sym z) has_root))
        | inr n ↦
            let k : rank (parent f) < rank f = rows.falls f h n in
            elim (in_cases faces (parent f)) [
              | inl m ↦ (f, h, n, out, m)
              | inr o ↦ climb faces has_root d (parent f) (omega arith) (rows.within f h n) o
            ]
      ]

  step : {faces : List ℕ} {tree : List (ℕ × ℕ)} (g : ℕ) → Growing faces tree → g < count → g ≢ root → (In faces g → ⊥) →
      In faces (parent g) → Growing (g ∷ faces) ((first g, second g) ∷ tree)
  step {faces} {tree} g s h n out m = record {
    grows = grown (parent g) g (first g) (second g) s.grows m out (rows.across g h n) (rows.own g h n);
    all_below = λ f i. elim i [ inl e ↦ subst (λ x. x < count) (sym e) h | inr k ↦ s.all_below f k ];
    has_root = inr s.has_root;
    has_edge = λ f p i. elim i [
      | inl e ↦ inl (along (ap first e) (ap second e))
      | inr k ↦ inr (s.has_edge f p k)
    ];
    is_edge = λ v w u. elim u [ inl k ↦ (g, h, n, k) | inr k ↦ s.is_edge v w k ];
  }

  most : {faces : List ℕ} {tree : List (ℕ × ℕ)} → Growing faces tree → length faces ≤ count
  most {faces} s = pigeons (length faces) count (λ i f. get_or faces i 0 ≡ f)
      (λ i h. (get_or faces i 0, s.all_below (get_or faces i 0) (at_in sides faces i h), refl))
      (λ i j f h g a b. tree_one sides i j s.grows h g (a ∙ sym b))

  -- a dual tree of exactly the rows' edges
  pub record IsTreeOf (tree : List (ℕ × ℕ)) : Type 0 where
    pub is_tree : IsDualTree Side tree
    pub has_edge : (f : ℕ) → f < count → f ≢ root → Uncut tree (first f) (second f)
    pub is_edge : (v w : ℕ) → Uncut tree v w → (f : ℕ) × (f < count) × (f ≢ root) × Among (first f) (second f) v w

  whole_tree : (faces : List ℕ) (tree : List (ℕ × ℕ)) → Growing faces tree → ((f : ℕ) → f < count → In faces f) →
      (tree : List (ℕ × ℕ)) × IsTreeOf tree
  whole_tree faces tree s all = (
    tree,
    record {
      is_tree = record { faces = faces; grows = s.grows; every_face = λ f v w t. all f (below f v w t) };
      has_edge = λ f h n. s.has_edge f n (all f h);
      is_edge = s.is_edge;
    },
  )

  grow : (m : ℕ) (faces : List ℕ) (tree : List (ℕ × ℕ)) → Growing faces tree → count ≤ length faces + m →
      (tree : List (ℕ × ℕ)) × IsTreeOf tree
  grow zero faces tree s enough = elim (missing faces count) [
    | inl all ↦ whole_tree faces tree s all
    | inr f ↦
        let g = climb faces s.has_root (suc (rank f.0)) f.0 (omega arith) f.1 f.2 in
        let k : length (g.0 ∷ faces) ≤ count = most (step g.0 s g.1 g.2 g.3 g.4) in
        absurd (omega arith)
  ]
  grow (suc m) faces tree s enough = elim (missing faces count) [
    | inl all ↦ whole_tree faces tree s all
    | inr f ↦
        let g = climb faces s.has_root (suc (rank f.0)) f.0 (omega arith) f.1 f.2 in
        grow m (g.0 ∷ faces) ((first g.0, second g.0) ∷ tree) (step g.0 s g.1 g.2 g.3 g.4) (omega arith)
  ]

  pub rows_tree : (v w : ℕ) → Side root v w → (tree : List (ℕ × ℕ)) × IsTreeOf tree
  rows_tree v w s = grow count (root ∷ []) [] (record {
    grows = uncut_spec.root root v w s;
    all_below = λ f i. elim i [ inl e ↦ subst (λ x. x < count) (sym e) rows.root_in | inr k ↦ elim k [ ] ];
    has_root = inl refl;
    has_edge = λ f n i. elim i [ inl e ↦ absurd (n e) | inr k ↦ elim k [ ] ];
    is_edge = λ v w u. elim u [ ];
  }) (omega arith)
