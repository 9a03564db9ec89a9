-- Faces that hang on the others by one edge are taken off.
use Rattle.surf_cotree.proofs.Common.{ℕ, zero, suc, ◌<◌, ◌≤◌, ◌≡◌, ◌≢◌, ◌+◌, refl, sym, ap, ◌∙◌, subst, arith, inl, inr, List, [], ◌∷◌, ◌++◌, length, set, Option, Some, None, Bool, true, false, not, ◌&&◌, eqb, eq-eqb, ne_eqb, map, get_or-set_same, get_or-set_other, length-set, IfSome, is_some, cases_eq, false≢true, nat_tests, length-map, length_push, get_or_push, get_or_append_left, count_below, count_below-without, count_below-same, Graph, joins, link_at, IsRow, outside, Leaf, leaf_at, left_after, IsOnlyEdge, IsLeaf, IsPeeled, IsPeeledBy, IsPeeledTo}

-- of the edges of the first n sides of a row just that of this side is left (IsOnlyEdge is of all its edges), or none is
abbrev pub IsOnlySoFar : (ℕ → Bool) → (ℕ → ℕ × ℕ) → (ℕ → ℕ × ℕ) → ℕ → Option ℕ → Type 0
IsOnlySoFar rest link of n None = (k : ℕ) → k < n → rest (link k).1 ≡ false
IsOnlySoFar rest link of n (Some s) = (rest (of s).1 ≡ true) × ((k : ℕ) × (k < n) × (link k ≡ of s)) × ((k : ℕ) → k < n → rest (link k).1 ≡ true → (link k).1 ≡ (of s).1)

-- ---- the only edge of a row

pub only_none : (rest : ℕ → Bool) (link of : ℕ → ℕ × ℕ) → IsOnlySoFar rest link of 0 None
only_none rest link of k l = absurd (omega arith)

pub only_skip : (rest : ℕ → Bool) (link of : ℕ → ℕ × ℕ) (n : ℕ) (found : Option ℕ) → rest (link n).1 ≡ false → IsOnlySoFar rest link of n found → IsOnlySoFar rest link of (n + 1) found
only_skip rest link of n None shut none = λ k l. elim (cases_eq k n) [
  | inl same ↦ ap (λ j. rest (link j).1) same ∙ shut
  | inr ne ↦ none k (omega arith)
]
only_skip rest link of n (Some s) shut (is_left, (at, at_in, is), only) = (
  is_left,
  (at, omega arith, is),
  λ k l on. elim (cases_eq k n) [
    | inl same ↦ absurd (let clash : true ≡ false = sym on ∙ (ap (λ j. rest (link j).1) same ∙ shut) in cc)
    | inr ne ↦ only k (omega arith) on
  ],
)

only_first : (rest : ℕ → Bool) (link of : ℕ → ℕ × ℕ) (n s : ℕ) → link n ≡ of s → rest (of s).1 ≡ true → IsOnlySoFar rest link of n None → IsOnlySoFar rest link of (n + 1) (Some s)
only_first rest link of n s is free none = (
  free,
  (n, omega arith, is),
  λ k l on. elim (cases_eq k n) [
    | inl same ↦ ap (λ j. (link j).1) same ∙ ap (λ (p : ℕ × ℕ). p.1) is
    | inr ne ↦ absurd (let clash : true ≡ false = sym on ∙ none k (omega arith) in cc)
  ],
)

only_of_row : (g : Graph) (rest : ℕ → Bool) (of : ℕ → ℕ × ℕ) (f : ℕ) (links : List (ℕ × ℕ)) (n s : ℕ) → IsRow g f links → length links ≡ n → IsOnlySoFar rest (link_at links) of n (Some s) → IsOnlyEdge g rest f (of s).0 (of s).1
only_of_row g rest of f links n s row long (is_left, (at, at_in, is), only) =
    let la : at < length links = omega arith in
    record {
      edge_in = subst (λ (p : ℕ × ℕ). p.1 < g.edges) is (row.edge_in at la);
      is_left = is_left;
      other_in = subst (λ (p : ℕ × ℕ). p.0 < g.nodes) is (row.neighbour_in at la);
      joined = subst (λ (p : ℕ × ℕ). joins g f p.0 p.1 ≡ true) is (row.joined at la);
      only = λ l w ll on join.
          let (k, lk, here) = row.whole l w ll join in
          let number_is : (link_at links k).1 ≡ l = ap (λ (p : ℕ × ℕ). p.1) here in
          sym number_is ∙ only k (omega arith) (ap rest number_is ∙ on);
    }

pub found_only : (g : Graph) (rest : ℕ → Bool) (of : ℕ → ℕ × ℕ) (f : ℕ) (links : List (ℕ × ℕ)) (n : ℕ) (found : Option ℕ) → IsRow g f links → length links ≡ n → IsOnlySoFar rest (link_at links) of n found → IfSome found (λ s. IsOnlyEdge g rest f (of s).0 (of s).1)
found_only g rest of f links n None row long so = tt
found_only g rest of f links n (Some s) row long so = only_of_row g rest of f links n s row long so

-- a second one would be found here
pub only_second : (rest : ℕ → Bool) (link of : ℕ → ℕ × ℕ) (n s : ℕ) (found : Option ℕ) → false ≡ is_some found → link n ≡ of s → rest (of s).1 ≡ true → IsOnlySoFar rest link of n found → IsOnlySoFar rest link of (n + 1) (Some s)
only_second rest link of n s None none is free so = only_first rest link of n s is free so
only_second rest link of n s (Some x) none is free so = absurd (false≢true none)

-- ---- leaves that are taken off

left_same : (allowed : ℕ → Bool) (old new : List Leaf) (n : ℕ) → ((k : ℕ) → k < n → leaf_at new k ≡ leaf_at old k) → (e : ℕ) → left_after allowed new n e ≡ left_after allowed old n e
left_same allowed old new zero same e = refl
left_same allowed old new (suc n) same e =
    let before = left_same allowed old new n (λ k l. same k (omega arith)) e in
    let here : leaf_at new n ≡ leaf_at old n = same n (omega arith) in
    rw (before, here) refl

pub outside_set : (marks : List Bool) (e x : ℕ) → e < length marks → outside (set marks e true) x ≡ (outside marks x && not (eqb x e))
outside_set marks e x l = elim (cases_eq x e) [
  | inl same ↦ rw (same, eq-eqb e e refl, get_or-set_same marks e true false l) (none (outside marks e))
  | inr ne ↦ rw (ne_eqb x e ne, get_or-set_other marks e x true false ne) (all (outside marks x))
]
  where
    none : (b : Bool) → false ≡ (b && false)
    none true = refl
    none false = refl

    all : (b : Bool) → b ≡ (b && true)
    all true = refl
    all false = refl

leaf_same : (g : Graph) (allowed : ℕ → Bool) (old new : List Leaf) (k : ℕ) → ((j : ℕ) → j ≤ k → leaf_at new j ≡ leaf_at old j) → IsLeaf g allowed old k → IsLeaf g allowed new k
leaf_same g allowed old new k same leaf =
    let here : leaf_at new k ≡ leaf_at old k = same k (omega arith) in
    let rest : left_after allowed old k ≡ left_after allowed new k = λ i. λ e. sym (left_same allowed old new k (λ j l. same j (omega arith)) e) i in
    record {
      node_in = subst (λ (x : Leaf). x.face < g.nodes) (sym here) leaf.node_in;
      not_first = subst (λ (x : Leaf). x.face ≢ 0) (sym here) leaf.not_first;
      hangs = subst (λ (x : Leaf). IsOnlyEdge g (left_after allowed new k) x.face x.on x.edge) (sym here) (subst (λ r. IsOnlyEdge g r (leaf_at old k).face (leaf_at old k).on (leaf_at old k).edge) rest leaf.hangs);
    }

pub peeled_none : (g : Graph) (allowed : ℕ → Bool) (edges : List ℕ) → IsPeeledBy g allowed edges 0 allowed
peeled_none g allowed edges = record {
  leaves = map (λ e. record { face = 0; edge = e; on = 0 }) edges;
  as_many = length-map edges (λ (e : ℕ). record { face = 0; edge = e; on = 0 });
  by = λ k l. absurd (omega arith);
  peeled = record { few = omega arith; leaf = λ k l. absurd (omega arith); rest_is = λ e. refl };
}

peeled_next : (g : Graph) (allowed : ℕ → Bool) (leaves new : List Leaf) (n : ℕ) (rest later : ℕ → Bool) (f a e : ℕ) → n < length new → leaf_at new n ≡ record { face = f; edge = e; on = a } → ((k : ℕ) → k < n → leaf_at new k ≡ leaf_at leaves k) →
    f < g.nodes → f ≢ 0 → IsOnlyEdge g rest f a e → ((x : ℕ) → later x ≡ (rest x && not (eqb x e))) → IsPeeled g allowed leaves n rest → IsPeeled g allowed new (n + 1) later
peeled_next g allowed leaves new n rest later f a e ln here there lf ne only less p =
    let rest_new : (x : ℕ) → rest x ≡ left_after allowed new n x = λ x. p.rest_is x ∙ sym (left_same allowed leaves new n there x) in
    let as_rest : rest ≡ left_after allowed new n = λ i. λ x. rest_new x i in
    record {
      few = omega arith;
      leaf = λ k l. elim (cases_eq k n) [
        | inl same ↦ subst (λ j. IsLeaf g allowed new j) (sym same) (record {
          node_in = subst (λ (x : Leaf). x.face < g.nodes) (sym here) lf;
          not_first = subst (λ (x : Leaf). x.face ≢ 0) (sym here) ne;
          hangs = subst (λ (x : Leaf). IsOnlyEdge g (left_after allowed new n) x.face x.on x.edge) (sym here) (subst (λ r. IsOnlyEdge g r f a e) as_rest only);
        })
        | inr other ↦ leaf_same g allowed leaves new k (λ j lj. there j (omega arith)) (p.leaf k (omega arith))
      ];
      rest_is = λ x.
          let after : later x ≡ left_after allowed new (suc n) x = less x ∙ rw (rest_new x, here) refl in
          let next : suc n ≡ n + 1 = omega arith in
          subst (λ m. later x ≡ left_after allowed new m x) next after;
    }

-- a leaf more is taken off
pub peeled_more : (g : Graph) (allowed : ℕ → Bool) (edges : List ℕ) (n : ℕ) (rest later : ℕ → Bool) (f a e : ℕ) → n < length edges → f < g.nodes → f ≢ 0 → IsOnlyEdge g rest f a e → ((x : ℕ) → later x ≡ (rest x && not (eqb x e))) →
    IsPeeledBy g allowed edges n rest → IsPeeledBy g allowed (set edges n e) (n + 1) later
peeled_more g allowed edges n rest later f a e ln lf ne only less p =
    let none : Leaf = record { face = 0; edge = 0; on = 0 } in
    let leaf : Leaf = record { face = f; edge = e; on = a } in
    let as_many = p.as_many in
    let room : n < length p.leaves = omega arith in
    record {
      leaves = set p.leaves n leaf;
      as_many = length-set p.leaves n leaf ∙ (as_many ∙ sym (length-set edges n e));
      by = λ k l. elim (cases_eq k n) [
        | inl same ↦ rw (same, get_or-set_same edges n e 0 ln, get_or-set_same p.leaves n leaf none room) refl
        | inr other ↦ rw (get_or-set_other edges n k e 0 other, get_or-set_other p.leaves n k leaf none other) (p.by k (omega arith))
      ];
      peeled =
          let long = length-set p.leaves n leaf in
          peeled_next g allowed p.leaves (set p.leaves n leaf) n rest later f a e (omega arith) (get_or-set_same p.leaves n leaf none room)
          (λ k l. get_or-set_other p.leaves n k leaf none (omega arith)) lf ne only less p.peeled;
    }

-- no leaf has been taken off
pub peeled_to_first : (g : Graph) (allowed : ℕ → Bool) → IsPeeledTo g allowed allowed
peeled_to_first g allowed = record {
  leaves = [];
  peeled = record { few = omega arith; leaf = λ k l. absurd (omega arith); rest_is = λ e. refl };
}

-- a leaf more
pub peeled_to_next : (g : Graph) (allowed rest later : ℕ → Bool) (f a e : ℕ) → f < g.nodes → f ≢ 0 → IsOnlyEdge g rest f a e → ((x : ℕ) → later x ≡ (rest x && not (eqb x e))) → IsPeeledTo g allowed rest → IsPeeledTo g allowed later
peeled_to_next g allowed rest later f a e lf ne only less p =
    let none : Leaf = record { face = 0; edge = 0; on = 0 } in
    let leaf : Leaf = record { face = f; edge = e; on = a } in
    let new : List Leaf = p.leaves ++ leaf ∷ [] in
    let long : length new ≡ length p.leaves + 1 = length_push p.leaves leaf in
    record {
      leaves = new;
      peeled = subst (λ n. IsPeeled g allowed new n later) (sym long)
          (peeled_next g allowed p.leaves new (length p.leaves) rest later f a e (omega arith) (get_or_push p.leaves leaf none (length p.leaves) refl)
          (λ k l. get_or_append_left p.leaves (leaf ∷ []) none k l) lf ne only less p.peeled);
    }

-- ---- what is left grows less

-- a flag more is on
pub one_flag_less : (n v : ℕ) (flags : List Bool) → v < n → v < length flags → outside flags v ≡ true → count_below n (outside (set flags v true)) < count_below n (outside flags)
one_flag_less n v flags l lv free =
    let less : count_below n (outside flags) ≡ suc (count_below n (λ u. outside flags u && not (eqb v u))) = count_below-without n v (outside flags) l free in
    let same : count_below n (outside (set flags v true)) ≡ count_below n (λ u. outside flags u && not (eqb v u)) = count_below-same n (outside (set flags v true)) (λ u. outside flags u && not (eqb v u))
    (λ u lu. outside_set flags v u lv ∙ ap (λ b. outside flags u && not b) (flips u v)) in
    omega (arith, less, same)
  where
    flips : (x y : ℕ) → eqb x y ≡ eqb y x
    flips x y = grind (arith, nat_tests)

-- ---- a leaf that is taken off

module _ (g : Graph) (marks new : List Bool) (f a e : ℕ) (taken : (f ≢ 0) × IsOnlyEdge g (outside marks) f a e × (new ≡ set marks e true)) (long : length marks ≡ g.edges) (lf : f < g.nodes) where
  taken_less : (x : ℕ) → outside new x ≡ (outside marks x && not (eqb x e))
  taken_less x = ap (λ (m : List Bool). outside m x) taken.2 ∙ outside_set marks e x (let l = taken.1.edge_in in omega arith)

  pub taken_listed : (allowed : ℕ → Bool) (edges : List ℕ) (n : ℕ) → n < length edges → IsPeeledBy g allowed edges n (outside marks) → IsPeeledBy g allowed (set edges n e) (n + 1) (outside new)
  taken_listed allowed edges n ln before = peeled_more g allowed edges n (outside marks) (outside new) f a e ln lf taken.0 taken.1 taken_less before

  pub taken_peeled : (allowed : ℕ → Bool) → IsPeeledTo g allowed (outside marks) → IsPeeledTo g allowed (outside new)
  taken_peeled allowed before = peeled_to_next g allowed (outside marks) (outside new) f a e lf taken.0 taken.1 taken_less before

  pub taken_smaller : count_below g.edges (outside new) < count_below g.edges (outside marks)
  taken_smaller = subst (λ (m : List Bool). count_below g.edges (outside m) < count_below g.edges (outside marks)) (sym taken.2)
      (one_flag_less g.edges e marks taken.1.edge_in (let l = taken.1.edge_in in omega arith) taken.1.is_left)
