-- How the loops that are enough are found, vertex by vertex.
use Rattle.std.proofs.Common.{◌≡◌, ℕ, zero, suc, ◌<◌, ◌≤◌, ◌⊎◌, ◌&&◌, Bool, true, false, eqb, ltb, eq-eqb, List, [], ◌∷◌, ◌++◌, length, map, filter, take, get_or, All, Contains, IsPermutation, refl, sym, ap, ◌∙◌, subst, arith, inl, inr, eqb-true}
use Rattle.surf_surfaces.proofs.Common.{AllByRecursion, cases_eq, cases_Bool, or_cases, or_left, or_right, and_parts, and_from, ltb-true, lt-ltb, false≢true, nat_tests, map-map, Contains-permutation, All-permutation, greedy, sorted, Decides-is_nothing, InSpan, zero_in, trans_in, in_from_spanned, spanned_from_in, Split, IsSplit, Tree, Mesh, edge_count, IsSurface, IsClosed, IsNull, IsIndependent, cells_of, class_of, AreShortestTrees, loop_walk, loop_length, DependsOn, recursion_from_All, All-from_recursion, All-take, All-append, Contains-append_left, Contains-append_right, Contains-get_or, numbers, is_nothing, no_member, Spanned, Independent, greedy_law, all_kept, Sorted, Comparable, sorted_from_order, order_from_sorted, sorted-permutes, sorted-in_order, member_in, all_passing, all_greedy, all_filtered, ArePassingFirst, filter_of_greedy}
use Rattle.surf_z2.proofs.Kept.{kept_law}
use Rattle.surf_surfaces.specs.FewBases.{Place, is_no_later, place_at, Found, place_of_found, is_within, walks_found, walks_within, IsFoundAt, IsFoundLoop, AreEnoughOf, comes_no_later, least_base, every_place, IsFoundChoice, AreFoundAt, with_vertex, LoopsGrowEnough, EnoughLoopsExist}
use Rattle.surf_surfaces.proofs.classes.ClassLaws.{some_split, null_by_class, independent_by_classes}
use Rattle.surf_surfaces.proofs.bases.FewBasesLaws.{no_later-trans, no_later-same}
use Rattle.surf_surfaces.proofs.bases.FirstFoundLaws.{loop_closed}
use Rattle.surf_surfaces.proofs.bases.GreedyChoiceLaws.{match_same, spanned_from_depends, depends_from_spanned}
use Rattle.surf_surfaces.proofs.classes.LeastLaws.{all_each, all_mapped}

-- ---- the choice by classes

module _ (mesh : Mesh) (d : Split) (surface : IsSurface mesh) (split : IsSplit (cells_of mesh) d) (loops : List Found)
    (closed : AllByRecursion (λ k. IsClosed mesh k.walk) loops) where
  closed_before : (i : ℕ) → AllByRecursion (IsClosed mesh) (walks_found (take i loops))
  closed_before i = all_mapped (IsClosed mesh) (λ k. k.walk) (take i loops)
      (recursion_from_All (λ k. IsClosed mesh k.walk) (take i loops)
      (All-take (λ k. IsClosed mesh k.walk) i loops (All-from_recursion (λ k. IsClosed mesh k.walk) loops closed)))

  closed_at : (i : ℕ) (k : Found) → i < length loops → IsClosed mesh (get_or loops i k).walk
  closed_at i k l = let all : All (λ x. IsClosed mesh x.walk) loops =
      All-from_recursion (λ x. IsClosed mesh x.walk) loops closed in all i k l

  to_spanned : (i : ℕ) (k : Found) → DependsOn mesh (walks_found (take i loops)) (get_or loops i k).walk →
      Spanned numbers (map (λ x. class_of mesh d x.walk) (take i loops)) (class_of mesh d (get_or loops i k).walk)
  to_spanned i k h = subst (λ vs. Spanned numbers vs (class_of mesh d (get_or loops i k).walk))
      (map-map (class_of mesh d) (λ x. x.walk) (take i loops))
      (spanned_from_depends mesh d surface split (walks_found (take i loops)) (get_or loops i k).walk h)

  from_spanned : (i : ℕ) (k : Found) → i < length loops →
      Spanned numbers (map (λ x. class_of mesh d x.walk) (take i loops)) (class_of mesh d (get_or loops i k).walk) →
      DependsOn mesh (walks_found (take i loops)) (get_or loops i k).walk
  from_spanned i k l h =
      depends_from_spanned mesh d surface split (walks_found (take i loops)) (get_or loops i k).walk (closed_before i)
      (closed_at i k l) (subst (λ vs. Spanned numbers vs (class_of mesh d (get_or loops i k).walk))
      (sym (map-map (class_of mesh d) (λ x. x.walk) (take i loops))) h)

  pub found_choice_is_greedy : (kept : List Found) → IsFoundChoice mesh loops kept →
      kept ≡ greedy numbers is_nothing (λ k. class_of mesh d k.walk) loops
  found_choice_is_greedy kept h =
      (kept_law numbers is_nothing Decides-is_nothing (λ k. class_of mesh d k.walk)).kept_is_greedy loops kept
      (record {
        keep = h.keep;
        are_kept = h.are_kept;
        exactly = λ i k l. match_same (get_or h.keep i false) _ _ (to_spanned i k) (from_spanned i k l) (h.exactly i k l);
      })

  pub greedy_is_found_choice : IsFoundChoice mesh loops (greedy numbers is_nothing (λ k. class_of mesh d k.walk) loops)
  greedy_is_found_choice =
      let h = (kept_law numbers is_nothing Decides-is_nothing (λ k. class_of mesh d k.walk)).greedy_is_kept loops in
      record {
        keep = h.keep;
        are_kept = h.are_kept;
        exactly = λ i k l. match_same (get_or h.keep i false) _ _ (from_spanned i k l) (to_spanned i k) (h.exactly i k l);
      }

-- ---- one vertex more

-- in order of place those up to a place stand first
up_to_first : (limit : Place) (ks : List Found) → Sorted comes_no_later ks → ArePassingFirst (is_within limit) ks
up_to_first limit [] s = tt
up_to_first limit (k ∷ ks) s = (
  λ out. all_each (λ other. comes_no_later k other ≡ true) (λ other. is_within limit other ≡ false) ks
      (λ other after. elim (cases_Bool (is_within limit other)) [
        | inr off ↦ off
        | inl fits ↦ absurd (false≢true
            (sym out ∙ no_later-trans (place_of_found k) (place_of_found other) limit after fits))
      ]) s.0,
  up_to_first limit ks s.1,
)

module _ (mesh : Mesh) (lengths : List ℕ) (trees : ℕ → Tree) (surface : IsSurface mesh)
    (shortest : AreShortestTrees mesh lengths trees) where
  pub found_closed : (ks : List Found) → All (IsFoundLoop mesh lengths trees) ks →
      AllByRecursion (λ k. IsClosed mesh k.walk) ks
  found_closed ks loops = all_each (IsFoundLoop mesh lengths trees) (λ k. IsClosed mesh k.walk) ks
      (λ k h. subst (IsClosed mesh) (sym h.at.walk)
      (loop_closed mesh lengths trees surface shortest h.from h.edge h.from_in h.edge_in))
      (recursion_from_All (IsFoundLoop mesh lengths trees) ks loops)

  module _ (d : Split) (split : IsSplit (cells_of mesh) d) where
    -- what the loops up to a place span is what some of them do
    abbrev within : Place → List Found → List ℕ
    within limit ks = map (λ k. class_of mesh d k.walk) (filter (is_within limit) ks)

    depends_within : (ks : List Found) → All (IsFoundLoop mesh lengths trees) ks → (limit : Place) (walk : List ℕ) →
        IsClosed mesh walk → InSpan numbers (within limit ks) (class_of mesh d walk) →
        DependsOn mesh (walks_within limit ks) walk
    depends_within ks loops limit walk closed h =
        depends_from_spanned mesh d surface split (walks_within limit ks) walk
        (all_mapped (IsClosed mesh) (λ k. k.walk) (filter (is_within limit) ks)
        (all_filtered (is_within limit) (λ k. IsClosed mesh k.walk) ks (found_closed ks loops))) closed
        (subst (λ vs. Spanned numbers vs (class_of mesh d walk))
        (sym (map-map (class_of mesh d) (λ k. k.walk) (filter (is_within limit) ks)))
        (spanned_from_in numbers (within limit ks) (class_of mesh d walk) h))

    within_depends : (ks : List Found) (limit : Place) (walk : List ℕ) → DependsOn mesh (walks_within limit ks) walk →
        InSpan numbers (within limit ks) (class_of mesh d walk)
    within_depends ks limit walk h =
        in_from_spanned numbers (within limit ks) (class_of mesh d walk)
        (subst (λ vs. Spanned numbers vs (class_of mesh d walk))
        (map-map (class_of mesh d) (λ k. k.walk) (filter (is_within limit) ks))
        (spanned_from_depends mesh d surface split (walks_within limit ks) walk h))

    module _ (all next : List Found) (loops : All (IsFoundLoop mesh lengths trees) all) (sorted : Sorted comes_no_later all)
        (choice : IsFoundChoice mesh all next) where
      next_is : next ≡ greedy numbers is_nothing (λ k. class_of mesh d k.walk) all
      next_is = found_choice_is_greedy mesh d surface split all (found_closed all loops) next choice

      next_loops : All (IsFoundLoop mesh lengths trees) next
      next_loops = All-from_recursion (IsFoundLoop mesh lengths trees) next
          (subst (AllByRecursion (IsFoundLoop mesh lengths trees)) (sym next_is)
          (all_greedy numbers (λ k. class_of mesh d k.walk) is_nothing Decides-is_nothing (IsFoundLoop mesh lengths trees) []
          all (recursion_from_All (IsFoundLoop mesh lengths trees) all loops)))

      next_independent : IsIndependent mesh (walks_found next)
      next_independent =
          (independent_by_classes mesh d surface split (walks_found next)
          (All-from_recursion (IsClosed mesh) (walks_found next)
          (all_mapped (IsClosed mesh) (λ k. k.walk) next (found_closed next next_loops)))).1
          (subst (Independent numbers) (sym (map-map (class_of mesh d) (λ k. k.walk) next))
          (subst (λ ks. Independent numbers (map (λ k. class_of mesh d k.walk) ks)) (sym next_is)
          ((greedy_law numbers is_nothing Decides-is_nothing (λ k. class_of mesh d k.walk)).independent all)))

      -- each is a sum of those kept that come no later
      covered : (k : Found) (limit : Place) → Contains all k → is_within limit k ≡ true →
          InSpan numbers (within limit next) (class_of mesh d k.walk)
      covered k limit has fits =
          let up_to = filter (is_within limit) all in
          let own = class_of mesh d k.walk in
          let same : greedy numbers is_nothing (λ x. class_of mesh d x.walk) up_to ≡ filter (is_within limit) next =
          sym (filter_of_greedy numbers (λ x. class_of mesh d x.walk) is_nothing Decides-is_nothing (is_within limit) [] all
          (up_to_first limit all sorted)) ∙ ap (filter (is_within limit)) (sym next_is) in
          subst (λ ks. InSpan numbers (map (λ x. class_of mesh d x.walk) ks) own) same
          (trans_in numbers
          (map (λ x. class_of mesh d x.walk) (greedy numbers is_nothing (λ x. class_of mesh d x.walk) up_to))
          (map (λ x. class_of mesh d x.walk) up_to) own
          (all_kept numbers is_nothing Decides-is_nothing (λ x. class_of mesh d x.walk) [] up_to)
          (member_in numbers (λ x. class_of mesh d x.walk) (is_within limit) all k has fits))

      -- what depended on the loops of which these were chosen depends on these
      stays : (kept : List Found) (limit : Place) (walk : List ℕ) → IsClosed mesh walk →
          ((k : Found) → Contains kept k → Contains all k) → DependsOn mesh (walks_within limit kept) walk →
          DependsOn mesh (walks_within limit next) walk
      stays kept limit walk closed sub h =
          depends_within next next_loops limit walk closed
          (trans_in numbers (within limit next) (within limit kept) (class_of mesh d walk)
          (all_passing numbers (λ k. class_of mesh d k.walk) (within limit next) (is_within limit) kept
          (recursion_from_All (λ k. is_within limit k ≡ true → InSpan numbers (within limit next) (class_of mesh d k.walk))
          kept (λ j m l fits. covered (get_or kept j m) limit (sub (get_or kept j m) (Contains-get_or kept j m l)) fits)))
          (within_depends kept limit walk h))

  one_more_vertex : (sought : Place → Bool) (set : ℕ → Bool) (z : ℕ) (kept loops all next : List Found) →
      AreEnoughOf mesh lengths trees sought set kept → z < mesh.vertices → AreFoundAt mesh lengths trees sought z loops →
      IsPermutation (kept ++ loops) all → Sorted comes_no_later all → IsFoundChoice mesh all next →
      AreEnoughOf mesh lengths trees sought (with_vertex z set) next × IsIndependent mesh (walks_found next)
  one_more_vertex sought set z kept loops all next enough z_in found same sorted choice =
      let (d, split) = some_split mesh surface in
      let are : All (IsFoundLoop mesh lengths trees) all =
      All-permutation (IsFoundLoop mesh lengths trees) (kept ++ loops) all same
      (All-append (IsFoundLoop mesh lengths trees) kept loops enough.loops found.are_loops) in (
        record {
          loops = next_loops d split all next are sorted choice;
          depend = λ y e y_in in_set e_in is_sought.
              let walk = loop_walk mesh (trees y) e in
              let place = place_at mesh lengths trees y e in
              let closed = loop_closed mesh lengths trees surface shortest y e y_in e_in in
              elim (or_cases (set y) (eqb y z) in_set) [
                | inl old ↦ stays d split all next are sorted choice kept place walk closed
                    (λ k has. Contains-permutation (kept ++ loops) all k same (Contains-append_left kept loops k has))
                    (enough.depend y e y_in old e_in is_sought)
                | inr new ↦
                    let at : y ≡ z = eqb-true y z new in
                    depends_within d split next (next_loops d split all next are sorted choice) place walk closed
                    (elim (cases_eq (class_of mesh d walk) 0) [
                      | inl zero_is ↦ subst (InSpan numbers (within d split place next)) (sym zero_is)
                          (zero_in numbers (within d split place next))
                      | inr some ↦
                          let (k, has, is) = here y e at e_in
                          (λ null. some ((null_by_class mesh d surface split walk closed).0 null)) is_sought in
                          subst (λ w. InSpan numbers (within d split place next) (class_of mesh d w)) is.walk
                          (covered d split all next are sorted choice k place
                          (Contains-permutation (kept ++ loops) all k same (Contains-append_right kept loops k has))
                          (no_later_at k y e is))
                    ])
              ];
        },
        next_independent d split all next are sorted choice,
      )
    where
      here : (y e : ℕ) → y ≡ z → e < edge_count mesh → (IsNull mesh (loop_walk mesh (trees y) e) → ⊥) →
          sought (place_at mesh lengths trees y e) ≡ true →
          (k : Found) × Contains loops k × IsFoundAt mesh lengths trees y e k
      here y e at e_in =
          subst (λ x. (IsNull mesh (loop_walk mesh (trees x) e) → ⊥) → sought (place_at mesh lengths trees x e) ≡ true →
          (k : Found) × Contains loops k × IsFoundAt mesh lengths trees x e k) (sym at) (found.all e e_in)

      no_later_at : (k : Found) (y e : ℕ) → IsFoundAt mesh lengths trees y e k →
          is_within (place_at mesh lengths trees y e) k ≡ true
      no_later_at k y e is =
          subst (λ p. is_no_later (place_of_found k) p ≡ true)
          (ap (λ a. (a, k.through)) is.size ∙ ap (λ b. (loop_length mesh lengths (trees y) e, b)) is.through)
          (no_later-same (place_of_found k))

pub loops_grow_enough : LoopsGrowEnough
loops_grow_enough mesh lengths trees surface shortest = record {
  none = λ sought. record {
    loops = λ k n l. absurd (omega arith);
    depend = λ z e z_in in_set e_in is_sought. absurd (false≢true in_set);
  };
  more = λ sought set z kept loops all next enough z_in found same by_place choice.
      one_more_vertex mesh lengths trees surface shortest sought set z kept loops all next enough z_in found same
      (sorted_from_order comes_no_later all by_place) choice;
  fewer = λ sought fewer set part kept enough sub within. record {
    loops = enough.loops;
    depend = λ z e z_in in_set e_in is_sought.
        enough.depend z e z_in (within z in_set) e_in (sub (place_at mesh lengths trees z e) is_sought);
  };
  all = λ set kept enough. record {
    loops = enough.loops;
    depend = λ z e z_in in_set e_in. enough.depend z e z_in in_set e_in refl;
  };
}

-- ---- loops that are enough exist

comes_no_later-trans : (a b c : Found) → comes_no_later a b ≡ true → comes_no_later b c ≡ true → comes_no_later a c ≡ true
comes_no_later-trans a b c h k = no_later-trans (place_of_found a) (place_of_found b) (place_of_found c) h k

one_way : (a b c d : ℕ) → is_no_later (a, b) (c, d) ≡ false → is_no_later (c, d) (a, b) ≡ true
one_way a b c d h = grind (arith, nat_tests)

all_comparable : (ks : List Found) → Comparable comes_no_later comes_no_later-trans ks
all_comparable [] = tt
all_comparable (k ∷ ks) = (each ks, all_comparable ks)
  where
    each : (others : List Found) →
        AllByRecursion (λ other. (comes_no_later k other ≡ true) ⊎ (comes_no_later other k ≡ true)) others
    each [] = tt
    each (x ∷ xs) = (
      elim (cases_Bool (comes_no_later k x)) [
        | inl h ↦ inl h
        | inr h ↦ inr (one_way k.size k.through x.size x.through h)
      ],
      each xs,
    )

module _ (mesh : Mesh) (lengths : List ℕ) (trees : ℕ → Tree) (set : ℕ → Bool) (surface : IsSurface mesh)
    (shortest : AreShortestTrees mesh lengths trees) where
  loop_found : ℕ → ℕ → Found
  loop_found z e = record {
    size = loop_length mesh lengths (trees z) e;
    through = least_base mesh trees z e;
    walk = loop_walk mesh (trees z) e;
  }

  -- the loops of the first edges at a vertex
  loops_of : ℕ → ℕ → List Found
  loops_of z zero = []
  loops_of z (suc n) = loop_found z n ∷ loops_of z n

  are_found : (z n : ℕ) → z < mesh.vertices → n ≤ edge_count mesh →
      AllByRecursion (IsFoundLoop mesh lengths trees) (loops_of z n)
  unfolding loops_of loop_found
  are_found z zero z_in le = tt
  are_found z (suc n) z_in le = (
    record {
      from = z;
      edge = n;
      from_in = z_in;
      edge_in = omega arith;
      at = record { size = refl; through = refl; walk = refl };
    },
    are_found z n z_in (omega arith),
  )

  has_loop : (z n e : ℕ) → e < n → Contains (loops_of z n) (loop_found z e)
  unfolding loops_of
  has_loop z zero e l = absurd (omega arith)
  has_loop z (suc n) e l = elim (cases_eq e n) [
    | inl same ↦ (0, omega arith, ap (loop_found z) (sym same))
    | inr ne ↦
        let rest = has_loop z n e (omega arith) in
        (suc rest.0, omega (arith, rest.1), rest.2)
  ]

  found_at : (z : ℕ) → z < mesh.vertices → AreFoundAt mesh lengths trees every_place z (loops_of z (edge_count mesh))
  unfolding loop_found
  found_at z z_in = record {
    are_loops = All-from_recursion (IsFoundLoop mesh lengths trees) (loops_of z (edge_count mesh))
        (are_found z (edge_count mesh) z_in (omega arith));
    all = λ e e_in some is_sought. (
      loop_found z e,
      has_loop z (edge_count mesh) e e_in,
      record { size = refl; through = refl; walk = refl },
    );
  }

  -- those at the vertices of the set that are below a bound
  enough_below : (n : ℕ) → n ≤ mesh.vertices →
      (found : List Found) × AreEnoughOf mesh lengths trees every_place (λ z. set z && ltb z n) found
  enough_below zero le =
      let law = loops_grow_enough mesh lengths trees surface shortest in (
        [],
        law.fewer every_place every_place no_member (λ z. set z && ltb z 0) [] (law.none every_place) (λ place h. h)
            (λ z h. let less = ltb-true z 0 (and_parts (set z) (ltb z 0) h).1 in absurd (omega arith)),
      )
  enough_below (suc n) le =
      let law = loops_grow_enough mesh lengths trees surface shortest in
      let (kept, enough) = enough_below n (omega arith) in
      elim (cases_Bool (set n)) [
        | inl here ↦
            let (d, split) = some_split mesh surface in
            let loops = loops_of n (edge_count mesh) in
            let at = found_at n (omega arith) in
            let all = sorted comes_no_later (kept ++ loops) in
            let same = sorted-permutes comes_no_later (kept ++ loops) in
            let are : All (IsFoundLoop mesh lengths trees) all =
            All-permutation (IsFoundLoop mesh lengths trees) (kept ++ loops) all same
            (All-append (IsFoundLoop mesh lengths trees) kept loops enough.loops at.are_loops) in
            let choice = greedy_is_found_choice mesh d surface split all
            (found_closed mesh lengths trees surface shortest all are) in
            let next = greedy numbers is_nothing (λ k. class_of mesh d k.walk) all in
            let more = law.more every_place (λ z. set z && ltb z n) n kept loops all next enough (omega arith) at same
            (order_from_sorted comes_no_later all
            (sorted-in_order comes_no_later comes_no_later-trans (kept ++ loops) (all_comparable (kept ++ loops)))) choice
            in (
              next,
              law.fewer every_place every_place (with_vertex n (λ z. set z && ltb z n)) (λ z. set z && ltb z (suc n)) next
                  more.0 (λ place h. h) (λ z h.
                  let both = and_parts (set z) (ltb z (suc n)) h in
                  let less = ltb-true z (suc n) both.1 in
                  elim (cases_eq z n) [
                    | inl is ↦ or_right (set z && ltb z n) (eqb z n) (eq-eqb z n is)
                    | inr ne ↦ or_left (set z && ltb z n) (eqb z n)
                        (and_from (set z) (ltb z n) both.0 (lt-ltb z n (omega arith)))
                  ]),
            )
        | inr out ↦ (
          kept,
          law.fewer every_place every_place (λ z. set z && ltb z n) (λ z. set z && ltb z (suc n)) kept enough
              (λ place h. h) (λ z h.
              let both = and_parts (set z) (ltb z (suc n)) h in
              let less = ltb-true z (suc n) both.1 in
              elim (cases_eq z n) [
                | inl is ↦ absurd (false≢true (sym out ∙ ap set (sym is) ∙ both.0))
                | inr ne ↦ and_from (set z) (ltb z n) both.0 (lt-ltb z n (omega arith))
              ]),
        )
      ]

pub enough_loops_exist : EnoughLoopsExist
enough_loops_exist mesh lengths trees set surface shortest =
    let (found, enough) = enough_below mesh lengths trees set surface shortest mesh.vertices (omega arith) in (
      found,
      record {
        loops = enough.loops;
        depend = λ z e z_in in_set e_in.
            enough.depend z e z_in (and_from (set z) (ltb z mesh.vertices) in_set (lt-ltb z mesh.vertices z_in)) e_in refl;
      },
    )
