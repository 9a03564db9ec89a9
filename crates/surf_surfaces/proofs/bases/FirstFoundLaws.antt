-- The first candidate, from few bases, and short searches.
use Rattle.surf_surfaces.proofs.Common.{◌≡◌, ℕ, zero, suc, ◌+◌, ◌<◌, ◌≤◌, Bool, leb, not, true, false, List, [], ◌∷◌, length, map, filter, get_or, All, Contains, refl, sym, ap, ◌∙◌, subst, arith, inl, inr, ◌⊎◌, AllByRecursion, cases_eq, cases_Bool, false≢true, nat_tests, length-map, recursion_from_All, All-from_recursion, All-contains, Contains-permutation, numbers, is_nothing, Spanned, Independent, Decides-is_nothing, InSpan, in_from_spanned, spanned_from_in, Split, IsSplit, Tree, Mesh, edge_count, ends, IsSurface, IsClosed, edge_length, walk_length, ArePositive, IsIndependent, IsLoopCount, cells_of, class_of, AreShortestTrees, loop_walk, Trees, AreChosen, Loop, comes_before, walks, loop_at, loops_at, candidates, DependsOn, up_to_weighed, Sorted, sorted-permutes}
use Rattle.surf_z2.proofs.Greedy.{greedy_law, basis_law}
use Rattle.surf_z2.proofs.Passing.{passing_before, filter_all}
use Rattle.surf_z2.proofs.Ranks.{in_whole}
use Rattle.surf_surfaces.specs.Cotree.{is_left, left_edges}
use Rattle.surf_surfaces.specs.FewBases.{is_no_later, place_at, Found, is_within, IsWithin, walks_found, MeetsAll, IsFoundLoop, IsFirstFound, FirstIsAtLeastBase, EndsAreNear, ShortSearchesSuffice}
use Rattle.surf_surfaces.proofs.bases.CoveredLaws.{contains-map, walk_covered}
use Rattle.surf_surfaces.proofs.bases.BasisLaws.{basis_is, basis_of, basis_is_one}
use Rattle.surf_surfaces.proofs.bases.CandidateLaws.{below-sorted, below_contains}
use Rattle.surf_surfaces.proofs.bases.ChoiceExists.{choice_exists}
use Rattle.surf_surfaces.proofs.classes.CotreeLaws.{passing_found}
use Rattle.surf_surfaces.proofs.classes.ClassLaws.{runs_loop, some_split, null_by_class, independent_by_classes}
use Rattle.surf_surfaces.proofs.bases.FewBasesLaws.{no_later-trans, is_loop_within, walk_in_span, loop_in_candidates}
use Rattle.surf_surfaces.proofs.bases.FirstCycleLaws.{shortest_trees, left_class, first_each}
use Rattle.surf_surfaces.proofs.bases.GreedyChoiceLaws.{depends_from_spanned}
use Rattle.surf_surfaces.proofs.classes.LeastLaws.{all_each, all_mapped}
use Rattle.surf_surfaces.proofs.bases.LoopsAtLaws.{IsLoopAt, comes_before-trans, comes_before-strict, loops-sorted}

-- ---- the order of places

pub one_place : (a b c d : ℕ) → is_no_later (a, b) (c, d) ≡ true → is_no_later (c, d) (a, b) ≡ true → (c ≡ a) × (d ≡ b)
one_place a b c d h k = (grind (arith, nat_tests), grind (arith, nat_tests))

-- what comes no later than a place comes before what doesn't
before_later : (a b : ℕ) (c e : Loop) → is_no_later (e.size, e.base) (a, b) ≡ true →
    is_no_later (c.size, c.base) (a, b) ≡ false → comes_before e c ≡ true
before_later a b c e h k = grind (arith, nat_tests)

same_count : (mesh : Mesh) (m n : ℕ) → IsLoopCount mesh m → IsLoopCount mesh n → m ≡ n
same_count mesh m n a b = omega arith

pub loop_closed : (mesh : Mesh) (lengths : List ℕ) (trees : ℕ → Tree) → IsSurface mesh → AreShortestTrees mesh lengths trees →
    (z e : ℕ) → z < mesh.vertices → e < edge_count mesh → IsClosed mesh (loop_walk mesh (trees z) e)
loop_closed mesh lengths trees surface shortest z e z_in e_in =
    (runs_loop mesh lengths surface (trees z) (shortest.is_tree z z_in) (shortest.shortest z z_in) e e_in).closed.is_closed

-- ---- members of lists of loops

first_or_rest : (c : Loop) (cs : List Loop) (x : Loop) → Contains (c ∷ cs) x → (c ≡ x) ⊎ Contains cs x
first_or_rest c cs x (zero, l, e) = inl e
first_or_rest c cs x (suc k, l, e) = inr (k, omega arith, e)

each_after : (c : Loop) (cs : List Loop) → AllByRecursion (λ x. comes_before c x ≡ true) cs → (x : Loop) → Contains cs x →
    comes_before c x ≡ true
each_after c cs h x has =
    All-contains (λ y. comes_before c y ≡ true) cs x (All-from_recursion (λ y. comes_before c y ≡ true) cs h) has

-- the loop of each left edge is among the loops at the base
left_contains : (mesh : Mesh) (lengths : List ℕ) (base : ℕ) (trees : Trees) (c : Loop) → IsLoopAt mesh lengths base trees c →
    Contains (loops_at mesh lengths base trees) c
left_contains mesh lengths base trees c h =
    let left = left_edges mesh trees.tree trees.cotree in
    let (k, l, e) = passing_found (is_left mesh trees.tree trees.cotree) 0 (edge_count mesh) c.edge (omega arith)
    (omega (arith, h.edge_in)) h.left in
    let has : Contains left c.edge = (k, l, other_default left k l ∙ e) in
    subst (Contains (loops_at mesh lengths base trees)) (sym h.is)
    (Contains-permutation (map (loop_at mesh lengths base trees.tree) left) (loops_at mesh lengths base trees)
    (loop_at mesh lengths base trees.tree c.edge)
    (sorted-permutes comes_before (map (loop_at mesh lengths base trees.tree) left))
    (contains-map (loop_at mesh lengths base trees.tree) left c.edge has))
  where
    other_default : (xs : List ℕ) (k : ℕ) → k < length xs → get_or xs k c.edge ≡ get_or xs k 0
    other_default [] k l = absurd (omega arith)
    other_default (y ∷ ys) zero l = refl
    other_default (y ∷ ys) (suc k) l = other_default ys k (omega arith)

-- the first candidate is the first loop at its base
module _ (mesh : Mesh) (lengths : List ℕ) (trees : ℕ → Trees) (surface : IsSurface mesh)
    (positive : ArePositive mesh lengths) (chosen : AreChosen mesh lengths trees) (first : Loop) (rest : List Loop)
    (is : candidates mesh lengths trees ≡ first ∷ rest) where
  heads_from : (loops : List Loop) → loops_at mesh lengths first.base (trees first.base) ≡ loops →
      Contains loops first → (others : List Loop) × (loops ≡ first ∷ others)
  heads_from [] same has = absurd (omega (arith, has.1))
  heads_from (c ∷ cs) same has =
      let h = first_each mesh lengths surface positive trees chosen first rest is in
      let sorted : Sorted comes_before (first ∷ rest) =
      subst (Sorted comes_before) is (below-sorted mesh lengths trees mesh.vertices) in
      let here : Sorted comes_before (c ∷ cs) =
      subst (Sorted comes_before) same (loops-sorted mesh lengths first.base (trees first.base)) in
      let among : Contains (first ∷ rest) c = subst (λ ds. Contains ds c) is
      (below_contains mesh lengths trees mesh.vertices first.base h.base_in c
      (subst (λ ds. Contains ds c) (sym same) (0, omega arith, refl))) in
      let head : first ≡ c = elim (first_or_rest c cs first has) [
        | inl e ↦ sym e
        | inr later ↦ elim (first_or_rest first rest c among) [
          | inl e ↦ e
          | inr after ↦
              let one = each_after first rest sorted.0 c after in
              let other = each_after c cs here.0 first later in
              absurd (false≢true (sym (comes_before-strict first) ∙ comes_before-trans first c first one other))
        ]
      ] in
      (cs, ap (λ x. x ∷ cs) (sym head))

  heads_at : (others : List Loop) × (loops_at mesh lengths first.base (trees first.base) ≡ first ∷ others)
  heads_at =
      let h = first_each mesh lengths surface positive trees chosen first rest is in
      heads_from (loops_at mesh lengths first.base (trees first.base)) refl
      (left_contains mesh lengths first.base (trees first.base) first h.of)

module _ (mesh : Mesh) (lengths : List ℕ) (searched : ℕ → Tree) (surface : IsSurface mesh)
    (positive : ArePositive mesh lengths) (shortest : AreShortestTrees mesh lengths searched) (trees : ℕ → Trees)
    (chosen : AreChosen mesh lengths trees) (d : Split) (split : IsSplit (cells_of mesh) d) where
  module _ (set : ℕ → Bool) (meets : MeetsAll mesh set) (z e : ℕ) (least : IsFirstFound mesh lengths searched set z e)
      (first : Loop) (rest : List Loop) (is : candidates mesh lengths trees ≡ first ∷ rest) where
    -- the first candidate comes no sooner
    no_sooner : is_no_later (place_at mesh lengths searched z e) (first.size, first.base) ≡ true
    no_sooner = elim (cases_Bool (is_no_later (place_at mesh lengths searched z e) (first.size, first.base))) [
      | inl h ↦ h
      | inr sooner ↦
          let h = first_each mesh lengths surface positive trees chosen first rest is in
          let own = shortest_trees mesh lengths surface positive trees chosen in
          let x = first.base in
          let tree = (trees x).tree in
          let run = runs_loop mesh lengths surface tree (own.is_tree x h.base_in) (own.shortest x h.base_in)
          first.edge h.of.edge_in in
          let size_is : walk_length mesh lengths (loop_walk mesh tree first.edge) ≡ first.size =
          run.size ∙ sym (ap (λ k. k.size) h.of.is) in
          absurd (left_class mesh lengths surface positive d split x (trees x) (chosen x h.base_in) first.edge h.of.edge_in h.of.left
          (walk_in_span mesh lengths searched surface positive shortest d split set meets [] tree.root _ run.closed.is_closed
          (λ y f y_in in_set f_in no_later. elim (cases_eq (class_of mesh d (loop_walk mesh (searched y) f)) 0) [
            | inl zero_is ↦ zero_is
            | inr some ↦
                let low = least.least y f y_in in_set f_in (λ null. some
                ((null_by_class mesh d surface split (loop_walk mesh (searched y) f) (loop_closed mesh lengths searched surface shortest y f y_in f_in)).0
                null)) in
                let at : is_no_later (place_at mesh lengths searched y f) (first.size, first.base) ≡ true =
                subst (λ p. is_no_later (place_at mesh lengths searched y f) p ≡ true)
                (ap (λ a. (a, tree.root)) size_is ∙ ap (λ b. (first.size, b)) (own.root x h.base_in)) no_later in
                absurd (false≢true (sym sooner
                ∙ no_later-trans (place_at mesh lengths searched z e) (place_at mesh lengths searched y f)
                (first.size, first.base) low at))
          ])))
    ]

    -- nor later
    no_later_first : is_no_later (first.size, first.base) (place_at mesh lengths searched z e) ≡ true
    no_later_first = elim (cases_Bool (is_no_later (first.size, first.base) (place_at mesh lengths searched z e))) [
      | inl h ↦ h
      | inr later ↦
          let cs = candidates mesh lengths trees in
          let place = place_at mesh lengths searched z e in
          let walk = loop_walk mesh (searched z) e in
          let head : get_or cs 0 first ≡ first = ap (λ ds. get_or ds 0 first) is in
          let zero_is : class_of mesh d walk ≡ 0 =
          passing_before numbers (λ c. class_of mesh d c.walk) comes_before comes_before-trans comes_before-strict
          (is_loop_within place) cs 0 first (below-sorted mesh lengths trees mesh.vertices) (omega (arith, ap length is))
          (λ c fits. subst (λ f. comes_before c f ≡ true) (sym head) (before_later place.0 place.1 first c fits later))
          (class_of mesh d walk)
          (loop_in_candidates mesh lengths searched surface positive shortest trees chosen d split z e least.from_in least.edge_in) in
          absurd (least.nonnull
          ((null_by_class mesh d surface split walk (loop_closed mesh lengths searched surface shortest z e least.from_in least.edge_in)).1 zero_is))
    ]

  -- ---- short searches

  -- as many independent loops as may be span the class of each closed walk
  full_spans : (found : List Found) → All (IsFoundLoop mesh lengths searched) found → IsIndependent mesh (walks_found found) →
      IsLoopCount mesh (length found) → (walk : List ℕ) → IsClosed mesh walk → DependsOn mesh (walks_found found) walk
  full_spans found loops free full walk closed =
      let (basis, is, one) = basis_is_one mesh lengths trees surface positive chosen in
      let cs = candidates mesh lengths trees in
      let v = class_of mesh d walk in
      let basis_same = basis_is mesh lengths trees surface positive chosen d split basis is in
      let law = greedy_law numbers is_nothing Decides-is_nothing (λ c. class_of mesh d c.walk) in
      let span : (w : List ℕ) → IsClosed mesh w → Spanned numbers (map (λ c. class_of mesh d c.walk) basis) (class_of mesh d w) =
      λ w w_closed.
      let size = walk_length mesh lengths w in
      let below = subst (λ vs. InSpan numbers vs (class_of mesh d w))
      (up_to_weighed numbers is_nothing Decides-is_nothing (λ c. c.size) (λ c. class_of mesh d c.walk) size cs)
      (in_from_spanned numbers _ _ (walk_covered mesh lengths trees surface positive chosen d split w w_closed)) in
      subst (λ ds. Spanned numbers (map (λ c. class_of mesh d c.walk) ds) (class_of mesh d w)) (sym basis_same)
      ((law.same_span cs (class_of mesh d w)).0
      (spanned_from_in numbers (map (λ c. class_of mesh d c.walk) cs) (class_of mesh d w)
      (in_whole numbers (λ c. class_of mesh d c.walk) (λ c. leb c.size size) cs (class_of mesh d w) below))) in
      let each_closed : AllByRecursion (IsClosed mesh) (walks_found found) =
      all_mapped (IsClosed mesh) (λ k. k.walk) found
      (all_each (IsFoundLoop mesh lengths searched) (λ k. IsClosed mesh k.walk) found
      (λ k h. subst (IsClosed mesh) (sym h.at.walk) (loop_closed mesh lengths searched surface shortest h.from h.edge h.from_in h.edge_in))
      (recursion_from_All (IsFoundLoop mesh lengths searched) found loops)) in
      let xs = map (class_of mesh d) (walks_found found) in
      let ys = map (λ c. class_of mesh d c.walk) basis in
      let independent : Independent numbers xs =
      (independent_by_classes mesh d surface split (walks_found found)
      (All-from_recursion (IsClosed mesh) (walks_found found) each_closed)).0 free in
      let all : All (Spanned numbers ys) xs = All-from_recursion (Spanned numbers ys) xs
      (all_mapped (Spanned numbers ys) (class_of mesh d) (walks_found found)
      (all_each (IsClosed mesh) (λ w. Spanned numbers ys (class_of mesh d w)) (walks_found found) span each_closed)) in
      let count = (basis_of mesh lengths trees surface positive chosen d split basis is).count in
      let many : length xs ≡ length ys = length-map (walks_found found) (class_of mesh d) ∙ length-map found (λ k. k.walk)
      ∙ same_count mesh (length found) (length (walks basis)) full count
      ∙ length-map basis (λ c. c.walk) ∙ sym (length-map basis (λ c. class_of mesh d c.walk)) in
      depends_from_spanned mesh d surface split (walks_found found) walk each_closed closed
      ((basis_law numbers is_nothing Decides-is_nothing).complete xs ys independent all many v (span walk closed))

pub first_is_at_least_base : FirstIsAtLeastBase
first_is_at_least_base mesh lengths trees searched set z e first rest surface positive chosen shortest meets least is =
    let (d, split) = some_split mesh surface in
    let place = place_at mesh lengths searched z e in
    let at = one_place place.0 place.1 first.size first.base
    (no_sooner mesh lengths searched surface positive shortest trees chosen d split set meets z e least first rest is)
    (no_later_first mesh lengths searched surface positive shortest trees chosen d split set meets z e least first rest is) in
    record {
      size = at.0;
      base = at.1;
      heads = subst (λ x. (others : List Loop) × (loops_at mesh lengths x (trees x) ≡ first ∷ others)) at.1
          (heads_at mesh lengths trees surface positive chosen first rest is);
    }

pub ends_are_near : EndsAreNear
ends_are_near mesh lengths trees z e shortest z_in e_in =
    let cut = (shortest.shortest z z_in).no_short_cut e e_in in
    let there : (trees z).rank (ends mesh e).1 ≤ (trees z).rank (ends mesh e).0 + edge_length lengths e = cut.0 in
    let back : (trees z).rank (ends mesh e).0 ≤ (trees z).rank (ends mesh e).1 + edge_length lengths e = cut.1 in
    (omega arith, omega arith)

pub short_searches_suffice : ShortSearchesSuffice
short_searches_suffice mesh lengths trees set limit found surface positive shortest independent full within enough = record {
  loops = enough.loops;
  depend = λ z e z_in in_set e_in. elim (cases_Bool (is_no_later limit (place_at mesh lengths trees z e))) [
    | inr before ↦ enough.depend z e z_in in_set e_in (ap not before)
    | inl after ↦
        let (d, split) = some_split mesh surface in
        let (own, chosen) = choice_exists mesh lengths surface positive in
        let place = place_at mesh lengths trees z e in
        let walk = loop_walk mesh (trees z) e in
        let all : filter (is_within place) found ≡ found = filter_all (is_within place) found
        (all_each (IsWithin limit) (λ k. is_within place k ≡ true) found
        (λ k fits. no_later-trans (k.size, k.through) limit place fits after)
        (recursion_from_All (IsWithin limit) found within)) in
        subst (λ ks. DependsOn mesh (walks_found ks) walk) (sym all)
        (full_spans mesh lengths trees surface positive shortest own chosen d split found enough.loops independent full
        walk (loop_closed mesh lengths trees surface shortest z e z_in e_in))
  ];
}
