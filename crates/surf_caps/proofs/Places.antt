-- Loops that are enough have the places of the basis.
use Rattle.std.proofs.Common.{◌≡◌, ℕ, suc, ◌<◌, ◌≤◌, Bool, true, false, cond, ◌&&◌, not, eqb, leb, ltb, List, [], ◌∷◌, length, map, filter, take, get_or, All, Contains, refl, sym, ap, ◌∙◌, subst, arith, inl, inr, eqb-true}
use Rattle.surf_surfaces.proofs.Common.{AllByRecursion, cases_Bool, and_parts, and_from, false≢true, nat_tests, map-map, length-map, recursion_from_All, All-from_recursion, greedy, numbers, is_nothing, Independent, Spanned, Sorted, sorted_from_order, Decides-is_nothing, Split, IsSplit, Tree, Mesh, IsSurface, IsClosed, walk_length, ArePositive, IsIndependent, IsLoopCount, cells_of, class_of, AreShortestTrees, loop_walk, Trees, AreChosen, Loop, comes_before, walks, candidates, IsChosenBasis, up_to_weighed, InSpan, AllInSpan, Free, count, trans_in, in_from_spanned, spanned_from_in, free_from_independent, Place, is_no_later, Found, place_of_found, place_of_loop, is_within, IsWithin, walks_found, HasFound, comes_no_later, comes_sooner, every_place}
use Rattle.surf_z2.proofs.Greedy.{greedy_law, basis_law, all_kept}
use Rattle.surf_z2.proofs.Passing.{some_or_none, filter_all, ArePassingFirst, all_passing, all_greedy, sorted_greedy, filter_of_greedy, passing_before, sorted_filtered}
use Rattle.surf_z2.proofs.Ranks.{in_wider, in_whole, free_filter}
use Rattle.surf_surfaces.proofs.bases.CoveredLaws.{runs, walk_covered}
use Rattle.surf_surfaces.proofs.bases.BasisLaws.{basis_is, basis_of, basis_is_one}
use Rattle.surf_surfaces.proofs.bases.SimpleLaws.{basis_each}
use Rattle.surf_surfaces.proofs.bases.CandidateLaws.{IsLoopBelow, below-sorted, below_each}
use Rattle.surf_surfaces.proofs.classes.ClassLaws.{runs_loop, some_split, independent_by_classes}
use Rattle.surf_surfaces.proofs.bases.FewBasesLaws.{no_later-trans, earlier, is_loop_within}
use Rattle.surf_surfaces.proofs.bases.FoundPlaces.{up_to, same_places, sorted_places, by_place}
use Rattle.surf_surfaces.proofs.bases.FirstCycleLaws.{shortest_trees}
use Rattle.surf_surfaces.proofs.classes.LeastLaws.{all_each, all_mapped}
use Rattle.surf_surfaces.proofs.bases.LoopsAtLaws.{comes_before-trans, comes_before-strict}
use Rattle.surf_firsts.specs.Near.{IsSoughtFromStart}
use Rattle.surf_caps.specs.Heights.{IsSumOfShorter}
use Rattle.surf_caps.specs.Caps.{place_of_walk, ChosenLoopsAreMet, Sought, AreSoughtFromStart, MeetsUpTo, IsFoundBy, AreEnoughFor, places_found, places_chosen, EnoughHavePlaces, FullCountHasPlaces, up_to_length}
use Rattle.surf_caps.specs.Stages.{StagesHavePlaces}
use Rattle.surf_caps.proofs.Starts.{lengths_start, sooner_start}
use Rattle.surf_caps.proofs.Covers.{all_closed_by, found_by_in_candidates, sum_of_shorter, candidate_covered}

-- ---- places of loops

module _ {X : Type 0} (place : X → Place) where
  -- those that pass a test, up to a place
  count_up_to : (target : Place → Bool) (limit : Place) (xs : List X) →
      length (up_to limit (map place (filter (λ x. target (place x)) xs)))
      ≡ length (filter (λ x. is_no_later (place x) limit && target (place x)) xs)
  count_up_to target limit [] = refl
  count_up_to target limit (x ∷ xs) =
      split (target (place x)) (is_no_later (place x) limit) refl (count_up_to target limit xs)
    where
      split : (a b : Bool) → is_no_later (place x) limit ≡ b →
          length (up_to limit (map place (filter (λ x. target (place x)) xs)))
          ≡ length (filter (λ x. is_no_later (place x) limit && target (place x)) xs) →
          length (up_to limit (map place
          (cond a (x ∷ filter (λ x. target (place x)) xs) (filter (λ x. target (place x)) xs))))
          ≡ length (cond (b && a) (x ∷ filter (λ x. is_no_later (place x) limit && target (place x)) xs)
          (filter (λ x. is_no_later (place x) limit && target (place x)) xs))
      split true true is e = rw is (ap suc e)
      split true false is e = rw is e
      split false true is e = e
      split false false is e = e

  sorted_passing : (target : Place → Bool) (xs : List X) → Sorted (λ x y. is_no_later (place x) (place y)) xs →
      Sorted is_no_later (map place (filter (λ x. target (place x)) xs))
  sorted_passing target xs s =
      sorted_places place (filter (λ x. target (place x)) xs)
      (sorted_filtered (λ x y. is_no_later (place x) (place y))
      (λ a b c. no_later-trans (place a) (place b) (place c)) (λ x. target (place x)) xs s)

-- a test that holds of all places that come no later than one of which it holds
first_passing : (p : Place → Bool) → IsSoughtFromStart p → (cs : List Loop) →
    Sorted (λ c d. is_no_later (place_of_loop c) (place_of_loop d)) cs → ArePassingFirst (λ c. p (place_of_loop c)) cs
first_passing p start [] s = tt
first_passing p start (c ∷ cs) s = (
  λ out. all_each (λ d. is_no_later (place_of_loop c) (place_of_loop d) ≡ true) (λ d. p (place_of_loop d) ≡ false) cs
      (λ d after. elim (cases_Bool (p (place_of_loop d))) [
        | inr off ↦ off
        | inl fits ↦ absurd (false≢true (sym out ∙ start (place_of_loop c) (place_of_loop d) after fits))
      ]) s.0,
  first_passing p start cs s.1,
)

-- up to a place, and passing a test
abbrev passes : (Place → Bool) → Place → Place → Bool
passes target limit p = is_no_later p limit && target p

passes-start : (target : Place → Bool) (limit : Place) → IsSoughtFromStart target → IsSoughtFromStart (passes target limit)
passes-start target limit start p q h k =
    let both = and_parts (is_no_later q limit) (target q) k in
    and_from (is_no_later p limit) (target p) (no_later-trans p q limit h both.0) (start p q h both.1)

same_count : (mesh : Mesh) (m n : ℕ) → IsLoopCount mesh m → IsLoopCount mesh n → m ≡ n
same_count mesh m n a b = omega arith

module _ (mesh : Mesh) (lengths : List ℕ) (searched : ℕ → Tree) (surface : IsSurface mesh)
    (positive : ArePositive mesh lengths) (shortest : AreShortestTrees mesh lengths searched) (trees : ℕ → Trees)
    (chosen : AreChosen mesh lengths trees) (d : Split) (split : IsSplit (cells_of mesh) d) (found : List Found)
    (loops : All (IsFoundBy mesh lengths) found) where
  -- the classes of those found that come no later than a place
  abbrev near : Place → List ℕ
  near limit = map (λ k. class_of mesh d k.walk) (filter (is_within limit) found)

  -- each candidate that passes a test is a sum of those found that come no later
  abbrev Covers : (Place → Bool) → Type 0
  Covers target = (c : Loop) → IsLoopBelow mesh lengths trees mesh.vertices c → target (place_of_loop c) ≡ true →
      InSpan numbers (near (place_of_loop c)) (class_of mesh d c.walk)

  module _ (target : Place → Bool) (start : IsSoughtFromStart target) (covers : Covers target) where
    -- a candidate that is no sum of those before it has the place of one that was found
    fresh_found : (i : ℕ) (n : Loop) → i < length (candidates mesh lengths trees) →
        (Spanned numbers (map (λ x. class_of mesh d x.walk) (take i (candidates mesh lengths trees)))
        (class_of mesh d (get_or (candidates mesh lengths trees) i n).walk) → ⊥) →
        target (place_of_loop (get_or (candidates mesh lengths trees) i n)) ≡ true →
        HasFound found (get_or (candidates mesh lengths trees) i n)
    fresh_found i n i_in fresh is_target =
        let cs = candidates mesh lengths trees in
        let c = get_or cs i n in
        let before = map (λ x. class_of mesh d x.walk) (take i cs) in
        let each : All (IsLoopBelow mesh lengths trees mesh.vertices) cs =
        All-from_recursion (IsLoopBelow mesh lengths trees mesh.vertices) cs
        (below_each mesh lengths trees mesh.vertices) in
        elim (some_or_none (λ k. eqb k.size c.size && eqb k.through c.base) found) [
          | inl r ↦
              let both = and_parts (eqb r.0.size c.size) (eqb r.0.through c.base) r.2 in
              (r.0, r.1, eqb-true r.0.size c.size both.0, eqb-true r.0.through c.base both.1)
          | inr none ↦
              let none_at : All (λ k. (eqb k.size c.size && eqb k.through c.base) ≡ false) found =
              All-from_recursion (λ k. (eqb k.size c.size && eqb k.through c.base) ≡ false) found none in
              let all : AllInSpan numbers before (near (c.size, c.base)) =
              all_passing numbers (λ k. class_of mesh d k.walk) before (is_within (c.size, c.base)) found
              (recursion_from_All (λ k. is_within (c.size, c.base) k ≡ true →
              InSpan numbers before (class_of mesh d k.walk)) found (λ j m l fits.
              let k = get_or found j m in
              passing_before numbers (λ x. class_of mesh d x.walk) comes_before comes_before-trans comes_before-strict
              (is_loop_within (k.size, k.through)) cs i n (below-sorted mesh lengths trees mesh.vertices) i_in
              (λ e no_later. earlier k.size k.through c e no_later fits (none_at j m l))
              (class_of mesh d k.walk)
              (found_by_in_candidates mesh lengths searched surface positive shortest trees chosen d split k
              (loops j m l)))) in
              absurd (fresh (spanned_from_in numbers before (class_of mesh d c.walk)
              (trans_in numbers before (near (c.size, c.base)) (class_of mesh d c.walk) all
              (covers c (each i n i_in) is_target))))
        ]

    module _ (basis : List Loop) (is : IsChosenBasis mesh lengths trees basis) where
      pub basis_found : All (λ c. target (place_of_loop c) ≡ true → HasFound found c) basis
      basis_found = All-from_recursion (λ c. target (place_of_loop c) ≡ true → HasFound found c) basis
          (basis_each mesh lengths trees surface positive chosen d split basis is
          (λ c. target (place_of_loop c) ≡ true → HasFound found c) fresh_found)

      module _ (independent : IsIndependent mesh (walks_found found)) where
        same_basis : basis ≡ greedy numbers is_nothing (λ c. class_of mesh d c.walk) (candidates mesh lengths trees)
        same_basis = basis_is mesh lengths trees surface positive chosen d split basis is

        -- those that pass up to a place
        abbrev some_found : Place → List Found
        some_found limit = filter (λ k. passes target limit (place_of_found k)) found

        abbrev some_of_basis : Place → List Loop
        some_of_basis limit = filter (λ c. passes target limit (place_of_loop c)) basis

        free_found : Free numbers (map (λ k. class_of mesh d k.walk) found)
        free_found = free_from_independent numbers (map (λ k. class_of mesh d k.walk) found)
            (subst (Independent numbers) (map-map (class_of mesh d) (λ k. k.walk) found)
            ((independent_by_classes mesh d surface split (walks_found found)
            (All-from_recursion (IsClosed mesh) (walks_found found)
            (all_mapped (IsClosed mesh) (λ k. k.walk) found
            (all_closed_by mesh lengths searched surface positive shortest found loops)))).0 independent))

        free_basis : Free numbers (map (λ c. class_of mesh d c.walk) basis)
        free_basis = free_from_independent numbers (map (λ c. class_of mesh d c.walk) basis)
            (subst (λ cs. Independent numbers (map (λ c. class_of mesh d c.walk) cs)) (sym same_basis)
            ((greedy_law numbers is_nothing Decides-is_nothing (λ c. class_of mesh d c.walk)).independent
            (candidates mesh lengths trees)))

        -- those of the basis span what the candidates do
        basis_spans : (limit : Place) → AllInSpan numbers (map (λ c. class_of mesh d c.walk) (some_of_basis limit))
            (map (λ c. class_of mesh d c.walk)
            (filter (λ c. passes target limit (place_of_loop c)) (candidates mesh lengths trees)))
        basis_spans limit =
            let cs = candidates mesh lengths trees in
            let p = λ (c : Loop). passes target limit (place_of_loop c) in
            let up = filter p cs in
            let same : greedy numbers is_nothing (λ c. class_of mesh d c.walk) up ≡ filter p basis =
            sym (filter_of_greedy numbers (λ c. class_of mesh d c.walk) is_nothing Decides-is_nothing p []
            cs (first_passing (passes target limit) (passes-start target limit start) cs
            (by_place cs (below-sorted mesh lengths trees mesh.vertices))))
            ∙ ap (filter p) (sym same_basis) in
            subst (λ ds. AllInSpan numbers (map (λ c. class_of mesh d c.walk) ds) (map (λ c. class_of mesh d c.walk) up)) same
            (all_kept numbers is_nothing Decides-is_nothing (λ c. class_of mesh d c.walk) [] up)

        no_more_found : (limit : Place) → length (some_found limit) ≤ length (some_of_basis limit)
        no_more_found limit =
            let cs = candidates mesh lengths trees in
            let p = passes target limit in
            let xs = map (λ c. class_of mesh d c.walk) (some_of_basis limit) in
            let ys = map (λ k. class_of mesh d k.walk) (some_found limit) in
            let all : AllInSpan numbers xs ys =
            all_passing numbers (λ k. class_of mesh d k.walk) xs (λ k. p (place_of_found k)) found
            (all_each (IsFoundBy mesh lengths)
            (λ k. p (place_of_found k) ≡ true → InSpan numbers xs (class_of mesh d k.walk)) found
            (λ k loop fits.
            let own = class_of mesh d k.walk in
            trans_in numbers xs
            (map (λ c. class_of mesh d c.walk) (filter (λ c. p (place_of_loop c)) cs)) own (basis_spans limit)
            (in_wider numbers (λ c. class_of mesh d c.walk) (is_loop_within (place_of_found k)) (λ c. p (place_of_loop c))
            (λ c h. passes-start target limit start (place_of_loop c) (place_of_found k) h fits) cs own
            (found_by_in_candidates mesh lengths searched surface positive shortest trees chosen d split k loop)))
            (recursion_from_All (IsFoundBy mesh lengths) found loops)) in
            let bound = count numbers xs ys
            (free_filter numbers (λ k. class_of mesh d k.walk) (λ k. p (place_of_found k)) found free_found) all in
            omega (
              arith,
              bound,
              length-map (some_found limit) (λ k. class_of mesh d k.walk),
              length-map (some_of_basis limit) (λ c. class_of mesh d c.walk),
            )

        no_more_basis : (limit : Place) → length (some_of_basis limit) ≤ length (some_found limit)
        no_more_basis limit =
            let cs = candidates mesh lengths trees in
            let p = passes target limit in
            let xs = map (λ k. class_of mesh d k.walk) (some_found limit) in
            let each : AllByRecursion (λ c. p (place_of_loop c) ≡ true → InSpan numbers xs (class_of mesh d c.walk)) cs =
            all_each (IsLoopBelow mesh lengths trees mesh.vertices)
            (λ c. p (place_of_loop c) ≡ true → InSpan numbers xs (class_of mesh d c.walk)) cs (λ c below fits.
            let both = and_parts (is_no_later (place_of_loop c) limit) (target (place_of_loop c)) fits in
            in_wider numbers (λ k. class_of mesh d k.walk) (is_within (place_of_loop c)) (λ k. p (place_of_found k))
            (λ k h. passes-start target limit start (place_of_found k) (place_of_loop c) h fits) found
            (class_of mesh d c.walk) (covers c below both.1)) (below_each mesh lengths trees mesh.vertices) in
            let all : AllInSpan numbers xs (map (λ c. class_of mesh d c.walk) (some_of_basis limit)) =
            all_passing numbers (λ c. class_of mesh d c.walk) xs (λ c. p (place_of_loop c)) basis
            (subst (AllByRecursion (λ c. p (place_of_loop c) ≡ true → InSpan numbers xs (class_of mesh d c.walk)))
            (sym same_basis)
            (all_greedy numbers (λ c. class_of mesh d c.walk) is_nothing Decides-is_nothing
            (λ c. p (place_of_loop c) ≡ true → InSpan numbers xs (class_of mesh d c.walk)) [] cs each)) in
            let bound = count numbers xs (map (λ c. class_of mesh d c.walk) (some_of_basis limit))
            (free_filter numbers (λ c. class_of mesh d c.walk) (λ c. p (place_of_loop c)) basis free_basis) all in
            omega (
              arith,
              bound,
              length-map (some_found limit) (λ k. class_of mesh d k.walk),
              length-map (some_of_basis limit) (λ c. class_of mesh d c.walk),
            )

        basis_sorted : Sorted (λ c d. is_no_later (place_of_loop c) (place_of_loop d)) basis
        basis_sorted = subst (Sorted (λ c d. is_no_later (place_of_loop c) (place_of_loop d))) (sym same_basis)
            (sorted_greedy numbers (λ c. class_of mesh d c.walk) is_nothing Decides-is_nothing
            (λ c d. is_no_later (place_of_loop c) (place_of_loop d)) [] (candidates mesh lengths trees)
            (by_place (candidates mesh lengths trees) (below-sorted mesh lengths trees mesh.vertices)))

        pub same_as_basis : Sorted comes_no_later found → places_found target found ≡ places_chosen target basis
        same_as_basis ordered =
            same_places (places_found target found) (places_chosen target basis)
            (sorted_passing place_of_found target found ordered)
            (sorted_passing place_of_loop target basis basis_sorted)
            (λ limit.
            let one = no_more_found limit in
            let other = no_more_basis limit in
            omega (
              arith,
              one,
              other,
              count_up_to place_of_found target limit found,
              count_up_to place_of_loop target limit basis,
            ))

-- ---- loops of the basis go over vertices that are searched

-- what is shorter comes before
shorter_before : (c e : Loop) → ltb e.size c.size ≡ true → comes_before e c ≡ true
shorter_before c e h = grind (arith, nat_tests)

pub chosen_loops_are_met : ChosenLoopsAreMet
chosen_loops_are_met mesh lengths trees target sought basis surface positive chosen meets is =
    let (d, split) = some_split mesh surface in
    All-from_recursion Met basis
    (basis_each mesh lengths trees surface positive chosen d split basis is Met (λ i n i_in fresh is_target.
    let cs = candidates mesh lengths trees in
    let c = get_or cs i n in
    let own = shortest_trees mesh lengths surface positive trees chosen in
    let each : All (IsLoopBelow mesh lengths trees mesh.vertices) cs =
    All-from_recursion (IsLoopBelow mesh lengths trees mesh.vertices) cs
    (below_each mesh lengths trees mesh.vertices) in
    let h = each i n i_in in
    let tree = (trees c.base).tree in
    let run = runs_loop mesh lengths surface tree (own.is_tree c.base h.base_in) (own.shortest c.base h.base_in)
    c.edge h.of.edge_in in
    let walk = loop_walk mesh tree c.edge in
    let walk_is : c.walk ≡ walk = ap (λ k. k.walk) h.of.is in
    let size_is : walk_length mesh lengths walk ≡ c.size = run.size ∙ sym (ap (λ k. k.size) h.of.is) in
    let place_is : place_of_walk mesh lengths walk ≡ place_of_loop c =
    ap (λ a. (a, tree.root)) size_is ∙ ap (λ b. (c.size, b)) (chosen c.base h.base_in).shortest.root in
    let v = class_of mesh d walk in
    let no_sum : IsSumOfShorter mesh lengths walk → ⊥ =
    λ sum. fresh (subst (λ w. Spanned numbers (map (λ x. class_of mesh d x.walk) (take i cs)) (class_of mesh d w))
    (sym walk_is)
    (spanned_from_in numbers (map (λ x. class_of mesh d x.walk) (take i cs)) v
    (passing_before numbers (λ x. class_of mesh d x.walk) comes_before comes_before-trans comes_before-strict
    (λ e. ltb e.size c.size) cs i n (below-sorted mesh lengths trees mesh.vertices) i_in
    (λ e. shorter_before c e) v
    (subst (λ m. InSpan numbers (map (λ x. class_of mesh d x.walk) (filter (λ e. ltb e.size m) cs)) v) size_is
    (sum_of_shorter mesh lengths (λ x. (trees x).tree) surface positive own trees chosen d split walk sum))))) in
    let (z, over, is_sought) = meets walk run.closed.is_closed
    (subst (λ p. target p ≡ true) (sym place_is) is_target) no_sum in
    (z, subst (λ w. Contains w z) (sym walk_is) over, subst (λ p. sought z p ≡ true) place_is is_sought)))
  where
    Met : Loop → Type 0
    Met c = target (place_of_loop c) ≡ true → (v : ℕ) × Contains c.walk v × (sought v (place_of_loop c) ≡ true)

pub enough_have_places : EnoughHavePlaces
enough_have_places mesh lengths trees searched target sought found basis surface positive chosen shortest start starts
    meets enough is =
    let (d, split) = some_split mesh surface in
    let covers = candidate_covered mesh lengths searched surface positive shortest trees chosen d split target sought start
    starts meets found enough in
    record {
      some = basis_found mesh lengths searched surface positive shortest trees chosen d split found enough.loops target
          start covers basis is;
      same = λ independent ordered. same_as_basis mesh lengths searched surface positive shortest trees chosen d split found
          enough.loops target start covers basis is independent (sorted_from_order comes_no_later found ordered);
    }

-- ---- as many as may be

module _ (mesh : Mesh) (lengths : List ℕ) (searched : ℕ → Tree) (surface : IsSurface mesh)
    (positive : ArePositive mesh lengths) (shortest : AreShortestTrees mesh lengths searched) (trees : ℕ → Trees)
    (chosen : AreChosen mesh lengths trees) (d : Split) (split : IsSplit (cells_of mesh) d) where
  -- as many independent closed walks as may be span the class of each closed walk
  full_spans : (found : List Found) → AllByRecursion (λ k. IsClosed mesh k.walk) found →
      IsIndependent mesh (walks_found found) → IsLoopCount mesh (length found) → (walk : List ℕ) → IsClosed mesh walk →
      Spanned numbers (map (λ k. class_of mesh d k.walk) found) (class_of mesh d walk)
  full_spans found closed_each free full walk closed =
      let (basis, is, one) = basis_is_one mesh lengths trees surface positive chosen in
      let cs = candidates mesh lengths trees in
      let basis_same = basis_is mesh lengths trees surface positive chosen d split basis is in
      let law = greedy_law numbers is_nothing Decides-is_nothing (λ c. class_of mesh d c.walk) in
      let ys = map (λ c. class_of mesh d c.walk) basis in
      let xs = map (λ k. class_of mesh d k.walk) found in
      let span : (w : List ℕ) → IsClosed mesh w → Spanned numbers ys (class_of mesh d w) =
      λ w w_closed.
      let size = walk_length mesh lengths w in
      let below = subst (λ vs. InSpan numbers vs (class_of mesh d w))
      (up_to_weighed numbers is_nothing Decides-is_nothing (λ c. c.size) (λ c. class_of mesh d c.walk) size cs)
      (in_from_spanned numbers _ _ (walk_covered mesh lengths trees surface positive chosen d split w w_closed)) in
      subst (λ ds. Spanned numbers (map (λ c. class_of mesh d c.walk) ds) (class_of mesh d w)) (sym basis_same)
      ((law.same_span cs (class_of mesh d w)).0
      (spanned_from_in numbers (map (λ c. class_of mesh d c.walk) cs) (class_of mesh d w)
      (in_whole numbers (λ c. class_of mesh d c.walk) (λ c. leb c.size size) cs (class_of mesh d w)
      below))) in
      let each_closed : AllByRecursion (IsClosed mesh) (walks_found found) =
      all_mapped (IsClosed mesh) (λ k. k.walk) found closed_each in
      let independent : Independent numbers xs =
      subst (Independent numbers) (map-map (class_of mesh d) (λ k. k.walk) found)
      ((independent_by_classes mesh d surface split (walks_found found)
      (All-from_recursion (IsClosed mesh) (walks_found found) each_closed)).0 free) in
      let all : All (Spanned numbers ys) xs = All-from_recursion (Spanned numbers ys) xs
      (all_mapped (Spanned numbers ys) (λ k. class_of mesh d k.walk) found
      (all_each (λ k. IsClosed mesh k.walk) (λ k. Spanned numbers ys (class_of mesh d k.walk)) found
      (λ k. span k.walk) closed_each)) in
      let count = (basis_of mesh lengths trees surface positive chosen d split basis is).count in
      let many : length xs ≡ length ys = length-map found (λ k. class_of mesh d k.walk)
      ∙ same_count mesh (length found) (length (walks basis)) full count
      ∙ length-map basis (λ c. c.walk) ∙ sym (length-map basis (λ c. class_of mesh d c.walk)) in
      (basis_law numbers is_nothing Decides-is_nothing).complete xs ys independent all many (class_of mesh d walk)
      (span walk closed)

  -- so each candidate is covered, whether it comes before a place or not
  full_covers : (limit : Place) (sought : Sought) (found : List Found) → AreSoughtFromStart sought →
      MeetsUpTo mesh lengths (comes_sooner limit) sought → AreEnoughFor mesh lengths searched sought found →
      IsIndependent mesh (walks_found found) → IsLoopCount mesh (length found) → All (IsWithin limit) found → (c : Loop) →
      IsLoopBelow mesh lengths trees mesh.vertices c → IsClosed mesh c.walk →
      InSpan numbers (map (λ k. class_of mesh d k.walk) (filter (is_within (place_of_loop c)) found)) (class_of mesh d c.walk)
  full_covers limit sought found starts meets enough free full within c h closed =
      elim (cases_Bool (is_no_later limit (place_of_loop c))) [
        | inr before ↦ candidate_covered mesh lengths searched surface positive shortest trees chosen d split
            (comes_sooner limit) sought (sooner_start limit) starts meets found enough c h (ap not before)
        | inl after ↦
            let place = place_of_loop c in
            let all : filter (is_within place) found ≡ found = filter_all (is_within place) found
            (all_each (IsWithin limit) (λ k. is_within place k ≡ true) found
            (λ k fits. no_later-trans (k.size, k.through) limit place fits after)
            (recursion_from_All (IsWithin limit) found within)) in
            subst (λ ks. InSpan numbers (map (λ k. class_of mesh d k.walk) ks) (class_of mesh d c.walk)) (sym all)
            (in_from_spanned numbers (map (λ k. class_of mesh d k.walk) found) (class_of mesh d c.walk)
            (full_spans found (all_closed_by mesh lengths searched surface positive shortest found enough.loops) free full
            c.walk closed))
      ]

-- a candidate is a closed walk
candidate_closed : (mesh : Mesh) (lengths : List ℕ) (trees : ℕ → Trees) → IsSurface mesh → ArePositive mesh lengths →
    AreChosen mesh lengths trees → (c : Loop) → IsLoopBelow mesh lengths trees mesh.vertices c → IsClosed mesh c.walk
candidate_closed mesh lengths trees surface positive chosen c h =
    (runs mesh lengths trees surface positive chosen mesh.vertices (omega arith) c h).0

pub full_count_has_places : FullCountHasPlaces
full_count_has_places mesh lengths trees searched limit sought found basis surface positive chosen shortest starts meets
    enough independent full within is =
    let (d, split) = some_split mesh surface in
    let covers = λ (c : Loop) (h : IsLoopBelow mesh lengths trees mesh.vertices c) (any : true ≡ true).
    full_covers mesh lengths searched surface positive shortest trees chosen d split limit sought found starts meets enough
    independent full within c h (candidate_closed mesh lengths trees surface positive chosen c h) in
    let start : IsSoughtFromStart every_place = λ p q h k. refl in
    let has = basis_found mesh lengths searched surface positive shortest trees chosen d split found enough.loops every_place
    start covers basis is in
    record {
      some = λ k n l. has k n l refl;
      same = λ ordered.
          sym (ap (map place_of_found) (filter_all (λ k. true) found (all_true found)))
          ∙ same_as_basis mesh lengths searched surface positive shortest trees chosen d split found
          enough.loops every_place start covers basis is independent (sorted_from_order comes_no_later found ordered)
          ∙ ap (map place_of_loop) (filter_all (λ c. true) basis (all_true basis));
    }
  where
    all_true : {X : Type 0} (xs : List X) → AllByRecursion (λ x. true ≡ true) xs
    all_true [] = tt
    all_true (x ∷ xs) = (refl, all_true xs)

-- ---- stages

pub stages_have_places : StagesHavePlaces
stages_have_places mesh lengths trees searched most sought found basis surface positive chosen shortest starts meets
    enough independent ordered is =
    (enough_have_places mesh lengths trees searched (up_to_length most) sought found basis surface positive chosen
    shortest (lengths_start most) starts meets enough is).same independent ordered
