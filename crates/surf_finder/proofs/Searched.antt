-- What is kept of the loops at the vertices of a list, vertex by vertex.
use Rattle.surf_finder.proofs.Common.{◌≡◌, ◌≢◌, ℕ, zero, suc, ◌<◌, ◌≤◌, ◌+◌, ◌^◌, ◌⊎◌, true, false, false≢true, eqb, List, [], ◌∷◌, ◌++◌, length, get_or, map, take, All, Contains, IsPermutation, Option, refl, sym, ap, ◌∙◌, subst, arith, inl, inr, eqb-true, IsTrue, ◌==◌, AllByRecursion, or_cases, or_left, or_right, nat_tests, take_more, length-map, greedy, numbers, is_nothing, chosen, Independent, Decides-is_nothing, xor-false, Split, IsSplit, Tree, Mesh, edge_count, IsSurface, ArePositive, parity, IsNull, cells_of, class_of, AreShortestTrees, loop_walk, DependsOn, Contains-permutation, All-permutation, Sorted, AllInSpan, InSpan, count, free_from_independent, Found, IsFoundAt, IsFoundLoop, AreFoundAt, IsFoundChoice, comes_no_later, with_vertex, recursion_from_All, All-from_recursion, All-contains, Contains-get_or, contains-map, choice_exists, null_by_class, least_base_on_way, loop_closed, greedy_is_found_choice, found_closed, all_each, all_mapped, SignTables, Candidate, Signed, independent_of, place_of, is_sought, stands_before, IsShort, all_kept, greedy_mapped, AreSigned, IsFound, AreFoundBy, AreFound, found_of, is_among}
use Rattle.surf_surfaces.proofs.Common.{all_kept as greedy_spans}
use Rattle.surf_finder.proofs.Signed.{class_small}

-- ---- the vertices of a list

pub among_contained : (vs : List ℕ) (v : ℕ) → Contains vs v → is_among vs v ≡ true
among_contained [] v (k, l, e) = absurd (omega arith)
among_contained (x ∷ xs) v (zero, l, e) = or_left (x == v) (is_among xs v) (let same : x ≡ v = e in grind (arith, nat_tests))
among_contained (x ∷ xs) v (suc k, l, e) = or_right (x == v) (is_among xs v) (among_contained xs v (k, omega arith, e))

-- and back
pub among_contains : (vs : List ℕ) (v : ℕ) → is_among vs v ≡ true → Contains vs v
among_contains [] v h = absurd (false≢true h)
among_contains (x ∷ xs) v h = elim (or_cases (x == v) (is_among xs v) h) [
  | inl here ↦ (0, omega arith, eqb-true x v here)
  | inr after ↦ let (k, l, e) = among_contains xs v after in (suc k, omega (arith, l), e)
]

among_push : (xs : List ℕ) (z v : ℕ) → is_among (xs ++ z ∷ []) v ≡ true → (is_among xs v ≡ true) ⊎ (v ≡ z)
among_push [] z v h = elim (or_cases (z == v) false h) [ inl on ↦ inr (grind (arith, nat_tests)) | inr off ↦ absurd (cc) ]
among_push (x ∷ xs) z v h = elim (or_cases (x == v) (is_among (xs ++ z ∷ []) v) h) [
  | inl on ↦ inl (or_left (x == v) (is_among xs v) on)
  | inr after ↦ elim (among_push xs z v after) [
    | inl old ↦ inl (or_right (x == v) (is_among xs v) old)
    | inr new ↦ inr new
  ]
]

-- one more of a list
pub among_more : (vs : List ℕ) (i z v : ℕ) → i < length vs → get_or vs i z ≡ z → is_among (take (i + 1) vs) v ≡ true →
    with_vertex z (is_among (take i vs)) v ≡ true
among_more vs i z v l at h =
    let split = among_push (take i vs) z v
    (subst (λ xs. is_among xs v ≡ true) (take_more vs i z l ∙ ap (λ x. take i vs ++ x ∷ []) at) h) in
    elim split [
      | inl old ↦ or_left (is_among (take i vs) v) (eqb v z) old
      | inr new ↦ or_right (is_among (take i vs) v) (eqb v z) (grind (arith, nat_tests))
    ]

-- what is chosen of some candidates is among them
pub of_choice : (cs : List Signed) (s : Signed) → Contains (independent_of cs) s → Contains cs s
of_choice cs s has = All-contains (Contains cs) (independent_of cs) s
    (all_kept (Contains cs) cs (λ k c l. Contains-get_or cs k c l)) has

-- what is in order of place is so as loops that were found
pub sorted_places : (mesh : Mesh) (trees : ℕ → Tree) (cs : List Signed) → Sorted stands_before cs →
    Sorted comes_no_later (map (found_of mesh trees) cs)
sorted_places mesh trees [] s = tt
sorted_places mesh trees (c ∷ cs) s = (
  all_mapped (λ k. comes_no_later (found_of mesh trees c) k ≡ true) (found_of mesh trees) cs s.0,
  sorted_places mesh trees cs s.1,
)

-- ---- loops that are null depend on any

pub depends_null : (mesh : Mesh) (before : List (List ℕ)) (walk : List ℕ) → IsNull mesh walk → DependsOn mesh before walk
depends_null mesh before walk (faces, is) = ([], (faces, λ e l. xor-false (parity mesh walk e) ∙ is e l))

-- what a search found, in another order
pub found_permuted : (mesh : Mesh) (lengths : List ℕ) (trees : ℕ → Tree) (d : Split) (limit : Option Candidate) (z : ℕ) (found list : List Signed) → IsPermutation found list →
    AreFoundBy mesh lengths trees d limit z found → AreFoundBy mesh lengths trees d limit z list
found_permuted mesh lengths trees d limit z found list same h = record {
  each = All-permutation (IsFound mesh lengths trees d) found list same h.each;
  here = All-permutation (λ c. c.from ≡ z) found list same h.here;
  sooner = All-permutation (λ c. IsTrue (is_sought limit (place_of c.candidate))) found list same h.sooner;
  some = All-permutation (λ c. c.signature ≢ 0) found list same h.some;
  all = λ e e_in some sought.
      (let (c, has, from_is, edge_is) = h.all e e_in some sought in
      (c, Contains-permutation found list c same has, from_is, edge_is));
}

module _ (mesh : Mesh) (lengths : List ℕ) (trees : ℕ → Tree) (surface : IsSurface mesh)
    (positive : ArePositive mesh lengths) (shortest : AreShortestTrees mesh lengths trees) (d : Split)
    (split : IsSplit (cells_of mesh) d) where
  abbrev Right : Signed → Type 0
  Right = IsFound mesh lengths trees d

  found_at : (c : Signed) → Right c → IsFoundAt mesh lengths trees c.from c.candidate.edge (found_of mesh trees c)
  found_at c f = record { size = f.size; through = f.base; walk = refl }

  loop_found : (c : Signed) → Right c → IsFoundLoop mesh lengths trees (found_of mesh trees c)
  loop_found c f = record {
    from = c.from;
    edge = c.candidate.edge;
    from_in = f.from_in;
    edge_in = f.edge_in;
    at = found_at c f;
  }

  pub loops_found : (cs : List Signed) → All Right cs → All (IsFoundLoop mesh lengths trees) (map (found_of mesh trees) cs)
  loops_found cs h = All-from_recursion (IsFoundLoop mesh lengths trees) (map (found_of mesh trees) cs)
      (all_mapped (IsFoundLoop mesh lengths trees) (found_of mesh trees) cs
      (all_each Right (λ c. IsFoundLoop mesh lengths trees (found_of mesh trees c)) cs loop_found (recursion_from_All Right cs h)))

  pub zero_null : (z e : ℕ) → z < mesh.vertices → e < edge_count mesh → class_of mesh d (loop_walk mesh (trees z) e) ≡ 0 →
      IsNull mesh (loop_walk mesh (trees z) e)
  zero_null z e z_in e_in zero_is =
      (null_by_class mesh d surface split (loop_walk mesh (trees z) e)
      (loop_closed mesh lengths trees surface shortest z e z_in e_in)).1 zero_is

  -- the loops at a vertex that a search found
  pub places_found : (limit : Option Candidate) (z : ℕ) (found : List Signed) → z < mesh.vertices →
      AreFoundBy mesh lengths trees d limit z found →
      AreFoundAt mesh lengths trees (is_sought limit) z (map (found_of mesh trees) found)
  places_found limit z found z_in h = record {
    are_loops = loops_found found h.each;
    all = λ e e_in some sought.
        (let (c, has, from_is, edge_is) = h.all e e_in (λ zero_is. some (zero_null z e z_in e_in zero_is)) sought in
        let right : Right c = All-contains Right found c h.each has in (
          found_of mesh trees c,
          contains-map (found_of mesh trees) found c has,
          subst (λ y. IsFoundAt mesh lengths trees y e (found_of mesh trees c)) from_is
              (subst (λ f. IsFoundAt mesh lengths trees c.from f (found_of mesh trees c)) edge_is (found_at c right)),
        ));
  }

  -- the choice among those kept and those found, by their walks
  pub found_choice : (cs next : List Signed) → All Right cs → next ≡ independent_of cs →
      IsFoundChoice mesh (map (found_of mesh trees) cs) (map (found_of mesh trees) next)
  found_choice cs next right is =
      let own : AllByRecursion (λ c. c.signature ≡ class_of mesh d (found_of mesh trees c).walk) cs =
      all_each Right (λ c. c.signature ≡ class_of mesh d (found_of mesh trees c).walk) cs (λ c r. r.signature)
      (recursion_from_All Right cs right) in
      let same : greedy numbers is_nothing (λ (k : Found). class_of mesh d k.walk) (map (found_of mesh trees) cs)
      ≡ map (found_of mesh trees) next =
      greedy_mapped (λ (c : Signed). c.signature) (found_of mesh trees) (λ (k : Found). class_of mesh d k.walk) [] cs own ∙ ap (map (found_of mesh trees)) (sym is) in
      subst (IsFoundChoice mesh (map (found_of mesh trees) cs)) same
      (greedy_is_found_choice mesh d surface split (map (found_of mesh trees) cs)
      (found_closed mesh lengths trees surface shortest (map (found_of mesh trees) cs) (loops_found cs right)))

  -- all independent ones are among as many as were kept
  pub no_fewer : (kept cs next : List Signed) → Independent numbers (map (λ c. c.signature) kept) →
      ((s : Signed) → Contains kept s → Contains cs s) → next ≡ independent_of cs → length kept ≤ length next
  no_fewer kept cs next free sub is =
      let spanned : AllInSpan numbers (map (λ (c : Signed). c.signature) next) (map (λ (c : Signed). c.signature) cs) =
      subst (λ ks. AllInSpan numbers (map (λ (c : Signed). c.signature) ks) (map (λ (c : Signed). c.signature) cs)) (sym is)
      (greedy_spans numbers is_nothing Decides-is_nothing (λ (c : Signed). c.signature) [] cs) in
      let n = count numbers (map (λ (c : Signed). c.signature) next) (map (λ (c : Signed). c.signature) kept)
      (free_from_independent numbers (map (λ (c : Signed). c.signature) kept) free)
      (each kept sub spanned) in
      omega (arith, n, length-map kept (λ (c : Signed). c.signature), length-map next (λ (c : Signed). c.signature))
    where
      member : (cs : List Signed) (vs : List ℕ) → AllInSpan numbers vs (map (λ (c : Signed). c.signature) cs) → (s : Signed) →
          Contains cs s → InSpan numbers vs s.signature
      member [] vs h s (k, l, e) = absurd (omega arith)
      member (c ∷ cs) vs h s (zero, l, e) = subst (λ (x : Signed). InSpan numbers vs x.signature) e h.0
      member (c ∷ cs) vs h s (suc k, l, e) = member cs vs h.1 s (k, omega arith, e)

      each : (ks : List Signed) → ((s : Signed) → Contains ks s → Contains cs s) →
          AllInSpan numbers (map (λ (c : Signed). c.signature) next) (map (λ (c : Signed). c.signature) cs) →
          AllInSpan numbers (map (λ (c : Signed). c.signature) next) (map (λ (c : Signed). c.signature) ks)
      each [] sub h = tt
      each (k ∷ ks) sub h = (
        member cs (map (λ (c : Signed). c.signature) next) h k (sub k (0, omega arith, refl)),
        each ks (λ s has. sub s (suc has.0, omega (arith, has.1), has.2)) h,
      )

  -- base and edge of what was found have 32 bits
  pub found_short : mesh.vertices ≤ 2 ^ 32 → edge_count mesh ≤ 2 ^ 32 → (cs : List Signed) → All Right cs → All IsShort cs
  found_short few_v few_e cs h = λ j c j_in. (let r : Right (get_or cs j c) = h j c j_in in
      let base_in = (least_base_on_way mesh lengths trees surface positive shortest (get_or cs j c).from (get_or cs j c).candidate.edge r.from_in r.edge_in).0 in
      record { base = omega (arith, r.base, base_in, few_v); edge = omega (arith, r.edge_in, few_e) })

-- their signatures are as small as there are left edges
pub found_small : (mesh : Mesh) (lengths : List ℕ) → IsSurface mesh → ArePositive mesh lengths → (s : SignTables) (width : ℕ) →
    AreSigned mesh s width → (limit : Option Candidate) (z : ℕ) (found : List Signed) → AreFound mesh lengths s limit z found →
    All (λ c. c.signature < 2 ^ width) found
found_small mesh lengths surface positive s width signed limit z found h =
    let (trees, chosen) = choice_exists mesh lengths surface positive in
    let each : All (IsFound mesh lengths (λ x. (trees x).tree) signed.split) found = (h trees chosen signed.split signed.signatures).each in
    λ k c l. subst (λ n. n < 2 ^ width) (sym (each k c l).signature)
    (class_small mesh signed.split (loop_walk mesh (trees (get_or found k c).from).tree (get_or found k c).candidate.edge) width signed.count)
