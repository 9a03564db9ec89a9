-- Vertices near one that was searched, which are passed over where the loops found there are all longer than those kept,
-- though the search went by lengths that bar the ways through vertices for which what is kept is enough.
use Rattle.surf_finder.proofs.Common.{◌≡◌, ℕ, suc, ◌<◌, ◌≤◌, ◌⊎◌, Bool, true, false, eqb, leb, le-leb, List, [], ◌∷◌, length, All, Contains, Some, sym, ◌∙◌, subst, arith, inl, inr, set, get_or-set_other, IsTrue, ◌||◌, ◌==◌, replicate, slice_index, AllByRecursion, cases_eq, cases_lt, false≢true, or_cases, or_left, or_right, eq-eqb, eqb-true, nat_tests, get_or_default, get_or_past, get_or-replicate, length-replicate, All-contains, numbers, InSpan, AllInSpan, Tree, Mesh, IsSurface, ArePositive, Place, is_no_later, comes_sooner, with_vertex, choice_exists, shortest_trees, zero_distance, NearTables, IsNear, Candidate, Signed, signatures, is_sought, SurfaceTables, is_among, is_marked, AreMarkedNear}

-- ---- places

-- what comes before a place is no longer
pub no_longer : (a b c d : ℕ) → comes_sooner (a, b) (c, d) ≡ true → c ≤ a
no_longer a b c d h = grind (arith, nat_tests)

-- what is shorter comes before a place
pub shorter_sooner : (a b c d : ℕ) → c < a → comes_sooner (a, b) (c, d) ≡ true
shorter_sooner a b c d h = grind (arith, nat_tests)

-- what comes no later than what is sought is sought
pub sought_before : (c : Candidate) (p q : Place) → is_no_later p q ≡ true → is_sought (Some c) q ≡ true →
    is_sought (Some c) p ≡ true
sought_before c p q before sought = grind (arith, nat_tests)

-- ---- marks

-- what is marked beside a vertex was marked before
pub marked_more : (marks : List Bool) (i z v : ℕ) → i ≡ z → IsTrue (is_marked (set marks i true) v) →
    IsTrue (is_marked marks v) ⊎ (v ≡ z)
marked_more marks i z v same on = elim (cases_eq v i) [
  | inl is ↦ inr (is ∙ same)
  | inr ne ↦ inl (sym (get_or-set_other marks i v true false ne) ∙ on)
]

pub marked_vertex : (marks : List Bool) (i z v : ℕ) → i ≡ z → IsTrue (is_marked (set marks i true) v) →
    IsTrue (with_vertex z (is_marked marks) v)
marked_vertex marks i z v same on = elim (marked_more marks i z v same on) [
  | inl old ↦ or_left (is_marked marks v) (eqb v z) old
  | inr new ↦ or_right (is_marked marks v) (eqb v z) (eq-eqb v z new)
]

-- nothing is marked at first
pub none_marked : (n v : ℕ) → IsTrue (is_marked (replicate n false) v) → ⊥
none_marked n v on = elim (cases_lt v n) [
  | inl less ↦ false≢true (sym (get_or-replicate n v false false less) ∙ on)
  | inr past ↦ false≢true (sym (get_or_past (replicate n false) v false
      (let l = length-replicate n false in omega (arith, l, past))) ∙ on)
]

-- where all of a list are marked, each vertex of it is
pub among_marked : (marks : List Bool) (vs : List ℕ) →
    ((i : ℕ) → i < length vs → IsTrue (is_marked marks (slice_index vs i))) → (v : ℕ) → is_among vs v ≡ true →
    IsTrue (is_marked marks v)
among_marked marks [] all v h = absurd (false≢true h)
among_marked marks (x ∷ xs) all v h = elim (or_cases (x == v) (is_among xs v) h) [
  | inl here ↦ subst (λ y. IsTrue (is_marked marks y)) (eqb-true x v here) (all 0 (omega arith))
  | inr after ↦ among_marked marks xs (λ i l. all (suc i) (omega (arith, l))) v after
]

-- what a search has settled is near its base
pub marked_near : (mesh : Mesh) (lengths : List ℕ) (z far : ℕ) (t : NearTables) → IsNear mesh lengths z far t →
    (old new : List Bool) → ((v : ℕ) → IsTrue (is_marked new v) → IsTrue (is_marked old v) ⊎ Contains t.settled v) →
    All (λ v. IsTrue (is_marked new v)) t.settled → AreMarkedNear mesh lengths z far old new
marked_near mesh lengths z far t near old new only all = record {
  only = λ tree short v on. elim (only v on) [
    | inl was ↦ inl was
    | inr (k, l, e) ↦ inr (subst (λ x. tree.rank x ≤ far) (get_or_default t.settled k 0 v l ∙ e)
        ((near.near tree short).inside k l).1)
  ];
  all = λ tree short v v_in le.
      All-contains (λ u. IsTrue (is_marked new u)) t.settled v all ((near.near tree short).all v v_in le);
}

-- what is marked anew is near
pub all_near : (mesh : Mesh) (lengths : List ℕ) (z far : ℕ) (tree : Tree) (old new : List Bool) →
    ((v : ℕ) → IsTrue (is_marked new v) → IsTrue (is_marked old v) ⊎ (tree.rank v ≤ far)) →
    (v : ℕ) → IsTrue (is_marked new v) → IsTrue (is_marked old v || leb (tree.rank v) far)
all_near mesh lengths z far tree old new only v on = elim (only v on) [
  | inl was ↦ or_left (is_marked old v) (leb (tree.rank v) far) was
  | inr near ↦ or_right (is_marked old v) (leb (tree.rank v) far) (le-leb (tree.rank v) far near)
]

-- ---- sums of those kept

pub all_signed : (xs : List ℕ) (ks : List Signed) → AllByRecursion (λ k. InSpan numbers xs k.signature) ks →
    AllInSpan numbers xs (signatures ks)
all_signed xs [] h = tt
all_signed xs (k ∷ ks) h = (h.0, all_signed xs ks h.1)

-- the base of such a search is marked
pub base_marked : (f : SurfaceTables) (old new : List Bool) (z far : ℕ) → IsSurface f.mesh → ArePositive f.mesh f.lengths →
    z < f.mesh.vertices → AreMarkedNear f.mesh f.lengths z far old new → IsTrue (is_marked new z)
base_marked f old new z far surface positive z_in marked =
    let (others, chosen) = choice_exists f.mesh f.lengths surface positive in
    let too : ℕ → Tree = λ x. (others x).tree in
    let none = zero_distance f.mesh f.lengths too surface positive (shortest_trees f.mesh f.lengths surface positive others chosen)
    z z_in in
    marked.all (too z) (chosen z z_in).shortest z z_in (omega (arith, none))
