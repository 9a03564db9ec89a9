-- The greedy choice from the loops of edges that are at most so long.
use Rattle.surf_surfaces.proofs.Common.{◌≡◌, ◌≢◌, ℕ, zero, suc, ◌≤◌, Bool, true, false, not, cond, List, [], ◌∷◌, map, filter, Contains, refl, sym, ap, ◌∙◌, subst, arith, inl, inr, AllByRecursion, cases_Bool, false≢true, leb-true, le-leb, nat_tests, map-map, recursion_from_All, All-from_recursion, All-contains, greedy, Sorted, sorted_from_order, Decides-is_nothing, InSpan, Free, zero_in, free_from_independent, Split, IsSplit, Mesh, IsSurface, IsClosed, ArePositive, cells_of, class_of, loop_walk, loop_length, Trees, AreChosenAt, Loop, comes_before, walks, loop_at, loops_at, IsGreedyChoice, Space, numbers, is_nothing, Independent, all_filtered, sorted_filtered, free_filter}
use Rattle.surf_surfaces.proofs.classes.ClassLaws.{some_split, independent_by_classes, null_by_class}
use Rattle.surf_surfaces.proofs.bases.GreedyChoiceLaws.{AreClosed, greedy_is_choice}
use Rattle.surf_surfaces.proofs.classes.LeastLaws.{all_each, all_mapped}
use Rattle.surf_surfaces.proofs.bases.LoopsAtLaws.{IsLoopAt, comes_before-trans, comes_before-strict, loops-sorted, loops_each, loops_are_least}
use Rattle.surf_firsts.specs.Firsts.{is_no_later, is_up_to, loops_up_to, IsLoopUpTo, AreLoopsUpTo, FirstLoopsAreGreedy}
use Rattle.surf_firsts.proofs.Chosen.{Rises, chosen_from}
use Rattle.surf_firsts.proofs.NoLater.{loop_runs_at, at_closed, spanned_no_later}

-- ---- lists

not_true : (b : Bool) → not b ≡ true → b ≡ false
not_true true h = absurd (false≢true h)
not_true false h = refl

pub filter_twice : {X : Type 0} (p q : X → Bool) → ((x : X) → q x ≡ true → p x ≡ true) → (xs : List X) →
    filter q (filter p xs) ≡ filter q xs
filter_twice p q sub [] = refl
filter_twice p q sub (x ∷ xs) = elim (cases_Bool (p x)) [
  | inl is ↦ rw is (ap (λ ys. cond (q x) (x ∷ ys) ys) (filter_twice p q sub xs))
  | inr out ↦ elim (cases_Bool (q x)) [
    | inl on ↦ absurd (false≢true (sym out ∙ sub x on))
    | inr off ↦ rw (out, off) (filter_twice p q sub xs)
  ]
]

-- what is in a filtered list passes
passes : {X : Type 0} (p : X → Bool) (xs : List X) → AllByRecursion (λ x. p x ≡ true) (filter p xs)
passes p [] = tt
passes p (x ∷ xs) = split (p x) refl (passes p xs)
  where
    split : (b : Bool) → p x ≡ b → AllByRecursion (λ y. p y ≡ true) (filter p xs) →
        AllByRecursion (λ y. p y ≡ true) (cond b (x ∷ filter p xs) (filter p xs))
    split true is rest = (is, rest)
    split false is rest = rest

pub each_in : {X : Type 0} (P : X → Type 0) (xs : List X) (x : X) → AllByRecursion P xs → Contains xs x → P x
each_in P xs x all has = All-contains P xs x (All-from_recursion P xs all) has

-- an independent vector isn't zero
some_free : {V : Type 0} (S : Space V) {C : Type 0} (vector : C → V) (cs : List C) (c : C) → Free S (map vector cs) →
    Contains cs c → vector c ≢ S.zero
some_free S vector [] c f (k, l, e) is = absurd (omega (arith, l))
some_free S vector (x ∷ xs) c f (zero, l, e) is =
    f.0 (subst (InSpan S (map vector xs)) (sym (ap vector e ∙ is)) (zero_in S (map vector xs)))
some_free S vector (x ∷ xs) c f (suc k, l, e) is = some_free S vector xs c f.1 (k, omega arith, e) is

rises_from : (xs : List Loop) → Sorted is_no_later xs →
    Rises numbers is_nothing Decides-is_nothing (λ (c : Loop). c.size) comes_before comes_before-trans comes_before-strict xs
rises_from [] s = tt
rises_from (x ∷ xs) s =
    (λ y has. not_true (comes_before y x) (each_in (λ d. is_no_later x d ≡ true) xs y s.0 has), rises_from xs s.1)

-- ---- loops

same_edge : (x b : Loop) → x.base ≡ b.base → comes_before x b ≡ false → comes_before b x ≡ false → x.edge ≡ b.edge
same_edge x b base h k = grind (arith, nat_tests)

no_longer : (x b : Loop) → not (comes_before x b) ≡ true → b.size ≤ x.size
no_longer x b h = grind (arith, nat_tests)

module _ (mesh : Mesh) (lengths : List ℕ) (base most : ℕ) (trees : Trees) (surface : IsSurface mesh)
    (positive : ArePositive mesh lengths) (chosen : AreChosenAt mesh lengths base trees) (loops : List Loop)
    (are : AreLoopsUpTo mesh lengths base most trees.tree loops) where
  abbrev at : ℕ → Loop
  at = loop_at mesh lengths base trees.tree

  is_one : (x : Loop) → Contains loops x → IsLoopUpTo mesh lengths base most trees.tree x
  is_one x has = All-contains (IsLoopUpTo mesh lengths base most trees.tree) loops x are.each has

  is_first : (b : Loop) → Contains (loops_up_to mesh lengths base trees most) b →
      IsLoopAt mesh lengths base trees b × (is_up_to most b ≡ true)
  is_first b has =
      let loops = loops_at mesh lengths base trees in (
        each_in (IsLoopAt mesh lengths base trees) (filter (is_up_to most) loops) b
            (all_filtered (is_up_to most) (IsLoopAt mesh lengths base trees) loops (loops_each mesh lengths base trees)) has,
        each_in (λ c. is_up_to most c ≡ true) (filter (is_up_to most) loops) b (passes (is_up_to most) loops) has,
      )

  loops_closed : AreClosed mesh loops
  loops_closed = all_each (IsLoopUpTo mesh lengths base most trees.tree) (λ c. IsClosed mesh c.walk) loops
      (λ c h. subst (IsClosed mesh) (sym (ap (λ k. k.walk) h.is))
      (loop_runs_at mesh lengths base trees surface positive chosen c.edge h.edge_in).closed.is_closed)
      (recursion_from_All (IsLoopUpTo mesh lengths base most trees.tree) loops are.each)

  module _ (d : Split) (ok : IsSplit (cells_of mesh) d) where
    abbrev vector : Loop → ℕ
    vector c = class_of mesh d c.walk

    free_at : Free numbers (map vector (loops_at mesh lengths base trees))
    free_at =
        let all = loops_at mesh lengths base trees in
        let least = (loops_are_least mesh lengths base trees surface positive chosen).least in
        free_from_independent numbers (map vector all)
        (subst (Independent numbers) (map-map (class_of mesh d) (λ c. c.walk) all)
        ((independent_by_classes mesh d surface ok (walks all)
        (All-from_recursion (IsClosed mesh) (walks all)
        (all_mapped (IsClosed mesh) (λ c. c.walk) all (at_closed mesh lengths base trees surface positive chosen)))).0
        least.is_system.independent))

    free_first : Free numbers (map vector (loops_up_to mesh lengths base trees most))
    free_first = free_filter numbers vector (is_up_to most) (loops_at mesh lengths base trees) free_at

    -- those that are chosen and at most so long are among them
    first_among : (b : Loop) → Contains (loops_up_to mesh lengths base trees most) b → Contains loops b
    first_among b has =
        let (one, within) = is_first b has in
        let some : class_of mesh d b.walk ≢ 0 = some_free numbers vector (loops_up_to mesh lengths base trees most) b free_first has in
        let closed = (loop_runs_at mesh lengths base trees surface positive chosen b.edge one.edge_in).closed.is_closed in
        let walk_is : b.walk ≡ loop_walk mesh trees.tree b.edge = ap (λ c. c.walk) one.is in
        let size_is : b.size ≡ loop_length mesh lengths trees.tree b.edge = ap (λ c. c.size) one.is in
        let size_in : b.size ≤ most = leb-true b.size most within in
        subst (Contains loops) (sym one.is)
        (are.all b.edge one.edge_in
        (λ null. some (ap (class_of mesh d) walk_is ∙ (null_by_class mesh d surface ok (loop_walk mesh trees.tree b.edge) closed).0 null))
        (omega (arith, size_is, size_in)))

    first_spanned : (x : Loop) → Contains loops x →
        InSpan numbers (map vector (filter (λ b. not (comes_before x b)) (loops_up_to mesh lengths base trees most))) (vector x)
    first_spanned x has =
        let one = is_one x has in
        let all = loops_at mesh lengths base trees in
        let span = spanned_no_later mesh lengths base trees surface positive chosen d ok x.edge one.edge_in in
        let here : InSpan numbers (map vector (filter (λ b. not (comes_before x b)) all)) (vector x) =
        subst (λ c. InSpan numbers (map vector (filter (λ b. not (comes_before c b)) all)) (vector c)) (sym one.is) span in
        subst (λ cs. InSpan numbers (map vector cs) (vector x))
        (sym (filter_twice (is_up_to most) (λ b. not (comes_before x b)) (λ b on.
        let low = no_longer x b on in let high = one.within in le-leb b.size most (omega (arith, low, high))) all)) here

    pub first_loops : greedy numbers is_nothing (λ c. class_of mesh d c.walk) loops ≡ loops_up_to mesh lengths base trees most
    first_loops =
        chosen_from numbers is_nothing Decides-is_nothing vector comes_before comes_before-trans comes_before-strict []
        (loops_up_to mesh lengths base trees most) loops (record {
          rises = rises_from loops (sorted_from_order is_no_later loops are.order);
          sorted = sorted_filtered comes_before comes_before-trans (is_up_to most) (loops_at mesh lengths base trees)
              (loops-sorted mesh lengths base trees);
          among = first_among;
          same = λ x b x_in b_in h k.
              (let one = is_one x x_in in
              let other = (is_first b b_in).0 in
              let base : x.base ≡ b.base = ap (λ c. c.base) one.is ∙ sym (ap (λ c. c.base) other.is) in
              one.is ∙ ap at (same_edge x b base h k) ∙ sym other.is);
          free = free_first;
          spanned = first_spanned;
        })

pub first_loops_are_greedy : FirstLoopsAreGreedy
first_loops_are_greedy mesh lengths base most trees loops surface positive chosen are =
    let (d, ok) = some_split mesh surface in
    subst (IsGreedyChoice mesh loops) (first_loops mesh lengths base most trees surface positive chosen loops are d ok)
    (greedy_is_choice mesh d surface ok loops (loops_closed mesh lengths base most trees surface positive chosen loops are))
