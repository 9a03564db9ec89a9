-- The choice from some bases.
use Rattle.std.proofs.Common.{◌≡◌, ℕ, zero, suc, ◌+◌, ◌-◌, ◌<◌, ◌≤◌, Bool, true, false, eqb, List, [], ◌∷◌, length, filter, get_or, Contains, refl, sym, ap, ◌∙◌, subst, arith, inl, inr, eqb-true, eq-eqb}
use Rattle.surf_surfaces.proofs.Common.{AllByRecursion, cases_lt, false_from_ne_true, recursion_from_All, greedy, merge, any_below, numbers, is_nothing, Decides-is_nothing, any_below-found, any_below-from, Split, IsSplit, Mesh, IsSurface, IsClosed, ArePositive, cells_of, class_of, two_step_law, Trees, AreChosen, Loop, comes_before, loops_at, loops_below, candidates, IsGreedyChoice, IsChosenBasis}
use Rattle.surf_z2.proofs.Merge.{Sorted, order_from_sorted, all_merged}
use Rattle.surf_z2.proofs.Passing.{all_filtered, greedy_filtered, filter_merge_out, filter_merge_in, sorted_filtered}
use Rattle.surf_surfaces.specs.FewBases.{IsKeptAmong, none_yet, passed_over, taken, HasBase, BasisIsKeptAmong, IsKeptOver, none_of_them, one_of_them, AreBases, BasisIsKeptOver, BasisIsKeptOverFew}
use Rattle.surf_surfaces.proofs.bases.CoveredLaws.{below_closed}
use Rattle.surf_surfaces.proofs.bases.BasisLaws.{basis_is, greedy_closed, at_closed, basis_is_one}
use Rattle.surf_surfaces.proofs.bases.CandidateLaws.{below-sorted, below_more}
use Rattle.surf_surfaces.proofs.classes.ClassLaws.{some_split}
use Rattle.surf_surfaces.proofs.bases.FewBasesLaws.{few_bases_suffice}
use Rattle.surf_surfaces.proofs.bases.GreedyChoiceLaws.{AreClosed, choice_is_greedy, greedy_is_choice}
use Rattle.surf_surfaces.proofs.classes.LeastLaws.{all_each}
use Rattle.surf_surfaces.proofs.bases.LoopsAtLaws.{IsLoopAt, comes_before-trans, loops_each}

module _ (mesh : Mesh) (lengths : List ℕ) (trees : ℕ → Trees) (here : ℕ → Bool) where
  -- bases that are not in the set are passed over
  pass_by : (k n : ℕ) (kept : List Loop) → IsKeptAmong mesh lengths trees here n kept →
      ((x : ℕ) → n ≤ x → x < n + k → here x ≡ false) → IsKeptAmong mesh lengths trees here (n + k) kept
  pass_by zero n kept h out = subst (λ m. IsKeptAmong mesh lengths trees here m kept) (omega arith) h
  pass_by (suc k) n kept h out =
      let rest = pass_by k n kept h (λ x from to. out x from (omega arith)) in
      subst (λ m. IsKeptAmong mesh lengths trees here m kept) (omega arith)
      (passed_over rest (out (n + k) (omega arith) (omega arith)))

  pub pass_to : (n m : ℕ) (kept : List Loop) → IsKeptAmong mesh lengths trees here n kept → n ≤ m →
      ((x : ℕ) → n ≤ x → x < m → here x ≡ false) → IsKeptAmong mesh lengths trees here m kept
  pass_to n m kept h le out =
      subst (λ x. IsKeptAmong mesh lengths trees here x kept) (omega arith)
      (pass_by (m - n) n kept h (λ x from to. out x from (omega arith)))

  -- the loops at a base are all in the set or all outside
  all_here : (n : ℕ) (b : Bool) → here n ≡ b →
      AllByRecursion (λ c. here c.base ≡ b) (loops_at mesh lengths n (trees n))
  all_here n b is = all_each (IsLoopAt mesh lengths n (trees n)) (λ c. here c.base ≡ b)
      (loops_at mesh lengths n (trees n)) (λ c h. ap (λ x. here x.base) h.is ∙ is) (loops_each mesh lengths n (trees n))

  -- the loops at those of the first bases that are in the set
  abbrev pub loops_here : ℕ → List Loop
  loops_here n = filter (λ c. here c.base) (loops_below mesh lengths trees n)

  -- they are in order
  pub here-sorted : (n : ℕ) → Sorted comes_before (loops_here n)
  here-sorted n = sorted_filtered comes_before comes_before-trans (λ c. here c.base) (loops_below mesh lengths trees n)
      (below-sorted mesh lengths trees n)

  module _ (surface : IsSurface mesh) (positive : ArePositive mesh lengths) (chosen : AreChosen mesh lengths trees)
      (d : Split) (split : IsSplit (cells_of mesh) d) where
    -- one more base of the set
    step : (n : ℕ) (kept next : List Loop) → n < mesh.vertices → here n ≡ true →
        kept ≡ greedy numbers is_nothing (λ c. class_of mesh d c.walk) (loops_here n) →
        IsGreedyChoice mesh (merge comes_before kept (loops_at mesh lengths n (trees n))) next →
        next ≡ greedy numbers is_nothing (λ c. class_of mesh d c.walk) (loops_here (suc n))
    step n kept next l is kept_is choice =
        let now = loops_here n in
        let before = loops_below mesh lengths trees n in
        let at = loops_at mesh lengths n (trees n) in
        let sorted = below-sorted mesh lengths trees n in
        let now_closed : AreClosed mesh now =
        all_filtered (λ c. here c.base) (λ c. IsClosed mesh c.walk) before
        (below_closed mesh lengths trees surface positive chosen n (omega arith)) in
        let closed : AreClosed mesh (merge comes_before kept at) =
        all_merged comes_before comes_before-trans (λ c. IsClosed mesh c.walk) kept at
        (subst (AreClosed mesh) (sym kept_is)
        (greedy_closed mesh lengths trees surface positive chosen d split now now_closed))
        (at_closed mesh lengths trees surface positive chosen d split n l) in
        choice_is_greedy mesh d surface split (merge comes_before kept at) closed next choice
        ∙ ap (λ ks. greedy numbers is_nothing (λ c. class_of mesh d c.walk) (merge comes_before ks at)) kept_is
        ∙ two_step_law numbers is_nothing Decides-is_nothing (λ c. class_of mesh d c.walk) comes_before
        comes_before-trans now at
        (order_from_sorted comes_before now (here-sorted n))
        ∙ ap (greedy numbers is_nothing (λ c. class_of mesh d c.walk))
        (sym (filter_merge_in comes_before comes_before-trans (λ c. here c.base) before at sorted (all_here n true is))
        ∙ ap (filter (λ c. here c.base)) (sym (below_more mesh lengths trees n)))

    passed : (n : ℕ) → here n ≡ false → loops_here (suc n) ≡ loops_here n
    passed n out =
        ap (filter (λ c. here c.base)) (below_more mesh lengths trees n)
        ∙ filter_merge_out comes_before comes_before-trans (λ c. here c.base) (loops_below mesh lengths trees n)
        (loops_at mesh lengths n (trees n))
        (all_here n false out)

    pub among_is_greedy : {n : ℕ} {kept : List Loop} → IsKeptAmong mesh lengths trees here n kept → n ≤ mesh.vertices →
        kept ≡ greedy numbers is_nothing (λ c. class_of mesh d c.walk) (loops_here n)
    among_is_greedy none_yet le = refl
    among_is_greedy (passed_over {bases} {kept} before out) le =
        among_is_greedy before (omega arith)
        ∙ ap (greedy numbers is_nothing (λ c. class_of mesh d c.walk)) (sym (passed bases out))
    among_is_greedy (taken {bases} {kept} {next} before is choice) le =
        step bases kept next (omega arith) is (among_is_greedy before (omega arith)) choice

pub basis_is_kept_among : BasisIsKeptAmong
basis_is_kept_among mesh lengths trees here basis kept surface positive chosen is has h =
    let (d, split) = some_split mesh surface in
    let cs = candidates mesh lengths trees in
    let same = basis_is mesh lengths trees surface positive chosen d split basis is in
    let all : AllByRecursion (λ c. here c.base ≡ true) (greedy numbers is_nothing (λ c. class_of mesh d c.walk) cs) =
    subst (AllByRecursion (λ c. here c.base ≡ true)) same (recursion_from_All (HasBase here) basis has) in
    subst (IsChosenBasis mesh lengths trees)
    (sym (among_is_greedy mesh lengths trees here surface positive chosen d split h (omega arith)
    ∙ greedy_filtered numbers (λ c. class_of mesh d c.walk) is_nothing Decides-is_nothing (λ c. here c.base) [] cs all))
    (greedy_is_choice mesh d surface split cs
    (below_closed mesh lengths trees surface positive chosen mesh.vertices (omega arith)))

-- ---- from a list of bases

-- whether a number is in a list
is_in : List ℕ → ℕ → Bool
is_in xs x = any_below (length xs) (λ k. eqb (get_or xs k 0) x)

in_from : (xs : List ℕ) (k : ℕ) → k < length xs → is_in xs (get_or xs k 0) ≡ true
unfolding is_in
in_from xs k l = any_below-from (length xs) (λ j. eqb (get_or xs j 0) (get_or xs k 0)) k l (eq-eqb (get_or xs k 0) (get_or xs k 0) refl)

in_found : (xs : List ℕ) (x : ℕ) → is_in xs x ≡ true → (k : ℕ) × (k < length xs) × (get_or xs k 0 ≡ x)
unfolding is_in
in_found xs x h = let r = any_below-found (length xs) (λ k. eqb (get_or xs k 0) x) h in (r.0, r.1, eqb-true (get_or xs r.0 0) x r.2)

in_contained : (xs : List ℕ) (x : ℕ) → Contains xs x → is_in xs x ≡ true
in_contained xs x (k, l, e) = subst (λ y. is_in xs y ≡ true) (other_default xs k l ∙ e) (in_from xs k l)
  where
    other_default : (xs : List ℕ) (k : ℕ) → k < length xs → get_or xs k 0 ≡ get_or xs k x
    other_default [] k l = absurd (omega arith)
    other_default (y ∷ ys) zero l = refl
    other_default (y ∷ ys) (suc k) l = other_default ys k (omega arith)

-- the number after the last of the first members
after : List ℕ → ℕ → ℕ
after bases zero = 0
after bases (suc k) = suc (get_or bases k 0)

module _ (mesh : Mesh) (lengths : List ℕ) (trees : ℕ → Trees) (bases : List ℕ) (are : AreBases mesh bases) where
  -- no member lies between two neighbours
  gap : (done x : ℕ) → done ≤ length bases → after bases done ≤ x → ((k : ℕ) → done ≤ k → k < length bases → x < get_or bases k 0) →
      is_in bases x ≡ false
  unfolding after
  gap done x le from to = false_from_ne_true (is_in bases x) (λ h. below done le from to (in_found bases x h))
    where
      below : (done : ℕ) → done ≤ length bases → after bases done ≤ x → ((k : ℕ) → done ≤ k → k < length bases → x < get_or bases k 0) →
          (k : ℕ) × (k < length bases) × (get_or bases k 0 ≡ x) → ⊥
      below zero le from to (k, l, e) = let over = to k (omega arith) l in omega (arith, over, e)
      below (suc m) le from to (k, l, e) = elim (cases_lt m k) [
        | inl more ↦ let over = to k (omega arith) l in omega (arith, over, e)
        | inr no_more ↦ elim (cases_lt k m) [
          | inl less ↦ let rise = are.rise k m less (omega arith) in omega (arith, rise, e, from)
          | inr no_less ↦ let same : k ≡ m = omega arith in let at = ap (λ j. get_or bases j 0) same in omega (arith, at, e, from)
        ]
      ]

  over_among : {done : ℕ} {kept : List Loop} → IsKeptOver mesh lengths trees bases done kept → done ≤ length bases →
      IsKeptAmong mesh lengths trees (is_in bases) (after bases done) kept
  unfolding after
  over_among none_of_them le = none_yet
  over_among (one_of_them {done} {kept} {next} before l choice) le =
      let base = get_or bases done 0 in
      let up : (k : ℕ) → done ≤ k → k < length bases → base ≤ get_or bases k 0 = λ k from in'. elim (cases_lt done k) [
        | inl less ↦ let rise = are.rise done k less in' in omega (arith, rise)
        | inr no_less ↦ let same : done ≡ k = omega arith in let at = ap (λ j. get_or bases j 0) same in omega (arith, at)
      ] in
      let at_base = pass_to mesh lengths trees (is_in bases) (after bases done) base kept
      (over_among before (omega arith)) (reached done l)
      (λ x from to. gap done x (omega arith) from (λ k k_from k_in. let far = up k k_from k_in in omega (arith, far))) in
      taken at_base (in_from bases done l) choice
    where
      reached : (done : ℕ) → done < length bases → after bases done ≤ get_or bases done 0
      reached zero l = omega arith
      reached (suc k) l = let rise = are.rise k (suc k) (omega arith) l in omega (arith, rise)

  all_among : (kept : List Loop) → IsKeptOver mesh lengths trees bases (length bases) kept →
      IsKeptAmong mesh lengths trees (is_in bases) mesh.vertices kept
  unfolding after
  all_among kept h = pass_to mesh lengths trees (is_in bases) (after bases (length bases)) mesh.vertices kept
      (over_among h (omega arith)) (reached (length bases) (omega arith))
      (λ x from to. gap (length bases) x (omega arith) from (λ k k_from k_in. absurd (omega arith)))
    where
      reached : (done : ℕ) → done ≤ length bases → after bases done ≤ mesh.vertices
      reached zero l = omega arith
      reached (suc k) l = let inside = are.inside k (omega arith) in omega (arith, inside)

pub basis_is_kept_over : BasisIsKeptOver
basis_is_kept_over mesh lengths trees bases basis kept surface positive chosen are is has h =
    basis_is_kept_among mesh lengths trees (is_in bases) basis kept surface positive chosen is
    (λ k n l. in_contained bases (get_or basis k n).base (has k n l)) (all_among mesh lengths trees bases are kept h)

pub basis_is_kept_over_few : BasisIsKeptOverFew
basis_is_kept_over_few mesh lengths trees searched set found bases kept surface positive chosen shortest meets enough are
    has h =
    let (basis, is, one) = basis_is_one mesh lengths trees surface positive chosen in
    let each = few_bases_suffice mesh lengths trees searched set found basis surface positive chosen shortest meets enough
    is in
    basis_is_kept_over mesh lengths trees bases basis kept surface positive chosen are is
    (λ k n l. let (f, in_found, size, base) = each k n l in subst (Contains bases) base (has f in_found)) h
