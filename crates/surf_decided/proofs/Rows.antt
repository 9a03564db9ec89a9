-- The conditions on the rows, the lists and the pairs of a certificate are decided.
use Rattle.surf_treecheck.proofs.Common.{◌≡◌, ◌⊎◌, ◌∷◌, ℕ, Bool, true, false, List, [], Option, Some, None, length, get_or, refl, sym, ap, ◌∙◌, subst, inl, inr, cases_Bool, true≢false, false≢true, or_cases, or_left, or_right, All, AllByRecursion, recursion_from_All, Contains, numbers, Spanned, Mesh, among, pair, pair_of, pair_eq, pair_lt, edges, edge_count, ends, list_any_from, among-contains, contains_from_among, pair_eq-true, pair_eq-same, pair_lt-irreflexive, pair_lt-trans, first, last, steps, TreeRows, DualRows, BasisCert, LoopCert, IsClosedList, IsDependent, IsCovered, IsDivided, IsNoShortCut, IsNotHeavier, HasNoShorter, HasTreeRows, HasDualRows, HasTrees, HasCounts, IsParent, IsDualRow, HasParent, HasDistance, HasDual, HasBase, IsBadPair, IsInOne, IsLeastBadPair, IsLoopCount, parent_at, side_at, distance_at, loop_size, tree_at, between, dual_tree, faces_of, is_listed, is_named, HoldsBelow, face_count}
use Rattle.surf_surfaces.proofs.Common.{Decides-is_nothing, is_nothing, All-from_recursion, Decides, spans}
use Rattle.surf_validity.specs.Valid.{AddsUp}
use Rattle.surf_z2.proofs.Greedy.{spans_law}
use Rattle.surf_decided.proofs.Deciding.{Decided, when_same, when_less, when_most, when_true, both, denied, undenied, implied, one_of, as_well, all_below, some_below}

-- ---- lists and sums

each_decided : {X : Type 0} (P : X → Type 0) → ((x : X) → Decided (P x)) → (xs : List X) → Decided (AllByRecursion P xs)
each_decided P decide [] = inl tt
each_decided P decide (x ∷ xs) = both (decide x) (each_decided P decide xs)

pub all_decided : {X : Type 0} (P : X → Type 0) → ((x : X) → Decided (P x)) → (xs : List X) → Decided (All P xs)
all_decided P decide xs = as_well (All-from_recursion P xs) (recursion_from_All P xs) (each_decided P decide xs)

by_test : {P : Type 0} (b : Bool) → Decides b P → Decided P
by_test true is = inl (is.0 refl)
by_test false is = inr (λ p. true≢false (sym (is.1 p)))

pub spanned_decided : (xs : List ℕ) (y : ℕ) → Decided (Spanned numbers xs y)
spanned_decided xs y = by_test (spans numbers is_nothing xs y) (spans_law numbers is_nothing Decides-is_nothing xs y)

pub same_pair : (p q : ℕ × ℕ) → Decided (p ≡ q)
same_pair p q = as_well (pair_eq-true p q) (pair_eq-same p q) (when_true (pair_eq p q))

pub when_false : (b : Bool) → Decided (b ≡ false)
when_false false = inl refl
when_false true = inr true≢false

pub is_edge : (mesh : Mesh) (p : ℕ × ℕ) → Decided (Contains (edges mesh) p)
is_edge mesh p =
    as_well (contains_from_among p (edges mesh)) (among-contains p (edges mesh)) (when_true (among p (edges mesh)))

-- ---- rows

module _ (mesh : Mesh) (lengths : List ℕ) where
  pub tree_rows_decided : (rows : TreeRows) → Decided (HasTreeRows mesh rows)
  tree_rows_decided rows =
      as_well (λ is. record { distances = is.0; parents = is.1 }) (λ is. (is.distances, is.parents))
      (both (when_same (length rows.distance) mesh.vertices) (when_same (length rows.parent) mesh.vertices))

  pub dual_rows_decided : (dual : DualRows) → Decided (HasDualRows mesh dual)
  dual_rows_decided dual =
      as_well (λ is. record { depths = is.0; sides = is.1 }) (λ is. (is.depths, is.sides))
      (both (when_same (length dual.depth) (face_count mesh)) (when_same (length dual.side) (face_count mesh)))

  pub count_decided : (n : ℕ) → Decided (IsLoopCount mesh n)
  count_decided n = when_same _ _

  pub trees_decided : (cert : BasisCert) → Decided (HasTrees mesh cert)
  trees_decided cert =
      as_well (λ is. record { trees = is.0; rows = is.1 }) (λ is. (is.trees, is.rows))
      (both (when_same (length cert.trees) mesh.vertices)
      (all_below mesh.vertices (λ x. HasTreeRows mesh (tree_at cert x)) (λ x _. tree_rows_decided (tree_at cert x))))

  pub counts_decided : (cert : BasisCert) → Decided (HasCounts mesh cert)
  counts_decided cert =
      as_well (λ is. record { left = is.0; cycles = is.1 }) (λ is. (is.left, is.cycles))
      (both (count_decided (length cert.left)) (count_decided (length cert.cycles)))

  pub bases_decided : (cert : BasisCert) → Decided (HoldsBelow mesh.vertices (HasBase cert))
  bases_decided cert = all_below mesh.vertices (HasBase cert) (λ x _. when_same (tree_at cert x).base x)

  pub parent_decided : (rows : TreeRows) (v : ℕ) → Decided (HasParent mesh rows v)
  parent_decided rows v = at (parent_at rows v)
    where
      at : (o : Option ℕ) → Decided (IsParent mesh rows.base v o)
      at None = when_same v rows.base
      at (Some p) = both (denied (when_same v rows.base)) (is_edge mesh (pair p v))

  pub distance_decided : (rows : TreeRows) (v : ℕ) → Decided (HasDistance mesh lengths rows v)
  distance_decided rows v = at (parent_at rows v)
    where
      at : (o : Option ℕ) → Decided (AddsUp mesh lengths rows v o)
      at None = when_same (distance_at rows v) 0
      at (Some p) = when_same (distance_at rows v) _

  pub slack_decided : (rows : TreeRows) (e : ℕ) → Decided (IsNoShortCut mesh lengths rows e)
  slack_decided rows e = both (when_most (distance_at rows (ends mesh e).1) _) (when_most (distance_at rows (ends mesh e).0) _)

  pub dual_decided : (dual : DualRows) (f : ℕ) → Decided (HasDual mesh dual f)
  dual_decided dual f = at (side_at dual f)
    where
      at : (o : Option (ℕ × ℕ)) → Decided (IsDualRow mesh dual f o)
      at None = both (when_same f 0) (when_same _ 0)
      at (Some side) = as_well (λ is. (is.0, is.1.0, is.1.1)) (λ is. (is.0, (is.1, is.2)))
          (both (denied (when_same f 0)) (both (when_true _) (when_same _ _)))

  -- ---- loops

  pub not_heavier_decided : (cert : LoopCert) (l c : ℕ) → Decided (IsNotHeavier mesh lengths cert l c)
  not_heavier_decided cert l c =
      implied (when_true (between (dual_tree mesh cert.dual) (faces_of mesh l).0 (faces_of mesh l).1 c))
      (when_most (loop_size mesh lengths cert.tree l) (loop_size mesh lengths cert.tree c))

  pub no_shorter_decided : (cert : LoopCert) (l : ℕ) → Decided (HasNoShorter mesh lengths cert l)
  no_shorter_decided cert l =
      implied (when_true (is_listed mesh cert.left l))
      (all_below (edge_count mesh) (IsNotHeavier mesh lengths cert l) (λ c _. not_heavier_decided cert l c))

  -- ---- cycles

  pub closed_decided : (walk : List ℕ) → Decided (IsClosedList mesh walk)
  closed_decided walk =
      as_well (λ is. record { begins = is.0; along_edges = is.1.0; returns = is.1.1 })
      (λ is. (is.begins, (is.along_edges, is.returns)))
      (both (when_less 0 (length walk))
      (both (all_decided (λ s. Contains (edges mesh) (pair_of s)) (λ s. is_edge mesh (pair_of s)) (steps walk))
      (when_same (first walk) (last walk))))

  pub dependent_decided : (cert : BasisCert) (k : ℕ) → Decided (IsDependent mesh cert k)
  dependent_decided cert k = spanned_decided _ _

  pub covered_decided : (cert : BasisCert) (x e : ℕ) → Decided (IsCovered mesh lengths cert x e)
  covered_decided cert x e = spanned_decided _ _

-- ---- pairs

-- the least of the bad pairs in a list, or none in it is bad
least_pair : (Bad : ℕ × ℕ → Type 0) → ((p : ℕ × ℕ) → Decided (Bad p)) → (xs : List (ℕ × ℕ)) →
    ((p : ℕ × ℕ) × (Bad p × ((q : ℕ × ℕ) → among q xs ≡ true → Bad q → pair_lt q p ≡ false)))
    ⊎ ((q : ℕ × ℕ) → among q xs ≡ true → Bad q → ⊥)
least_pair Bad decide [] = inr (λ q in' bad. absurd (false≢true in'))
least_pair Bad decide (x ∷ xs) = elim (decide x) [
  | inr good ↦ elim (least_pair Bad decide xs) [
    | inl least ↦ inl (
      least.0,
      (
        least.1.0,
        λ q in' bad. elim (or_cases (pair_eq q x) (among q xs) in') [
          | inl here ↦ absurd (good (subst Bad (pair_eq-true q x here) bad))
          | inr later ↦ least.1.1 q later bad
        ],
      ),
    )
    | inr none ↦ inr (λ q in' bad. elim (or_cases (pair_eq q x) (among q xs) in') [
      | inl here ↦ good (subst Bad (pair_eq-true q x here) bad)
      | inr later ↦ none q later bad
    ])
  ]
  | inl here_bad ↦ elim (least_pair Bad decide xs) [
    | inl least ↦ elim (cases_Bool (pair_lt x least.0)) [
      | inl less ↦ inl (
        x,
        (
          here_bad,
          λ q in' bad. elim (or_cases (pair_eq q x) (among q xs) in') [
            | inl here ↦ itself q x here
            | inr later ↦ undenied (when_false (pair_lt q x)) (λ deny.
                true≢false (sym (pair_lt-trans q x least.0 (undenied (when_true (pair_lt q x)) (λ out. deny (either (pair_lt q x) out))) less)
                ∙ least.1.1 q later bad))
          ],
        ),
      )
      | inr more ↦ inl (
        least.0,
        (
          least.1.0,
          λ q in' bad. elim (or_cases (pair_eq q x) (among q xs) in') [
            | inl here ↦ ap (λ r. pair_lt r least.0) (pair_eq-true q x here) ∙ more
            | inr later ↦ least.1.1 q later bad
          ],
        ),
      )
    ]
    | inr none ↦ inl (
      x,
      (
        here_bad,
        λ q in' bad. elim (or_cases (pair_eq q x) (among q xs) in') [
          | inl here ↦ itself q x here
          | inr later ↦ absurd (none q later bad)
        ],
      ),
    )
  ]
]
  where
    either : (b : Bool) → (b ≡ true → ⊥) → b ≡ false
    either true deny = absurd (deny refl)
    either false deny = refl

    itself : (q x : ℕ × ℕ) → pair_eq q x ≡ true → pair_lt q x ≡ false
    itself q x here = either (pair_lt q x) (λ less. pair_lt-irreflexive q x less (pair_eq-true q x here))

module _ (mesh : Mesh) (rows : TreeRows) (dual : DualRows) (left : List (ℕ × ℕ)) where
  bad_decided : (p : ℕ × ℕ) → Decided (IsBadPair mesh rows dual left p)
  bad_decided p =
      one_of (both (when_true (is_named left p)) (when_false (among p (edges mesh))))
      (as_well (λ is. (is.0, is.1, is.2.0, is.2.1)) (λ is. (is.0, is.1, (is.2, is.3)))
      (some_below (edge_count mesh) (λ e. (ends mesh e ≡ p) × (IsInOne mesh rows dual left e → ⊥))
      (λ e _. both (same_pair (ends mesh e) p) (denied (when_true _)))))

  -- the pairs that are listed, and the edges
  abbrev candidates : List (ℕ × ℕ) → List (ℕ × ℕ)
  candidates [] = edges mesh
  candidates (p ∷ ps) = pair_of p ∷ candidates ps

  named_in : (p : ℕ × ℕ) (ps : List (ℕ × ℕ)) → is_named ps p ≡ true → among p (candidates ps) ≡ true
  named_in p [] is = absurd (false≢true is)
  named_in p (q ∷ ps) is = elim (or_cases (pair_eq p (pair_of q)) (is_named ps p) is) [
    | inl here ↦ or_left (pair_eq p (pair_of q)) (among p (candidates ps)) here
    | inr later ↦ or_right (pair_eq p (pair_of q)) (among p (candidates ps)) (named_in p ps later)
  ]

  edge_in : (p : ℕ × ℕ) (ps : List (ℕ × ℕ)) → among p (edges mesh) ≡ true → among p (candidates ps) ≡ true
  edge_in p [] is = is
  edge_in p (q ∷ ps) is = or_right (pair_eq p (pair_of q)) (among p (candidates ps)) (edge_in p ps is)

  bad_in : (p : ℕ × ℕ) → IsBadPair mesh rows dual left p → among p (candidates left) ≡ true
  bad_in p (inl stray) = named_in p left stray.0
  bad_in p (inr (e, l, same, out)) =
      edge_in p left (list_any_from (pair_eq p) (edges mesh) (0, 0) e l (pair_eq-same p (ends mesh e) (sym same)))

  divided_if : ((p : ℕ × ℕ) → IsBadPair mesh rows dual left p → ⊥) → IsDivided mesh rows dual left
  divided_if none = record {
    are_edges = λ k d l. undenied (is_edge mesh (pair_of (get_or left k d))) (λ deny.
        none (pair_of (get_or left k d)) (inl (
          list_any_from (λ q. pair_eq (pair_of (get_or left k d)) (pair_of q)) left d k l
              (pair_eq-same (pair_of (get_or left k d)) (pair_of (get_or left k d)) refl),
          undenied (when_false (among (pair_of (get_or left k d)) (edges mesh)))
              (λ out. out (no_edge (pair_of (get_or left k d)) deny)),
        )));
    divided = λ e l. undenied (when_true _) (λ deny. none (ends mesh e) (inr (e, l, refl, deny)));
  }
    where
      no_edge : (p : ℕ × ℕ) → (Contains (edges mesh) p → ⊥) → among p (edges mesh) ≡ false
      no_edge p deny = elim (cases_Bool (among p (edges mesh))) [
        | inl on ↦ absurd (deny (contains_from_among p (edges mesh) on))
        | inr out ↦ out
      ]

  -- the trees and the list divide the edges, or some pair keeps them from it
  pub divided_or_bad : IsDivided mesh rows dual left ⊎ ((p : ℕ × ℕ) × IsLeastBadPair mesh rows dual left p)
  divided_or_bad = elim (least_pair (IsBadPair mesh rows dual left) bad_decided (candidates left)) [
    | inl least ↦ inr (
      least.0,
      record {
        bad = least.1.0;
        least = λ q bad. least.1.1 q (bad_in q bad) bad;
      },
    )
    | inr none ↦ inl (divided_if (λ p bad. none p (bad_in p bad) bad))
  ]
