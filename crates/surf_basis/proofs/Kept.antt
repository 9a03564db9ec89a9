-- What is kept base by base is the basis that is chosen.
use Rattle.surf_basis.proofs.Common.{greedy_filtered, Cycle, IsOffered, loop_in, loops_in, IsSigned, IsCycleOf, AreCyclesOf, cycles_with, as_loop, as_loops, placed_below, AreKept, HasBases, ◌≡◌, ℕ, zero, suc, ◌<◌, ◌≤◌, ◌-◌, Bool, true, false, cond, List, [], ◌∷◌, ◌++◌, ◌+◌, length, filter, All, refl, sym, ap, ◌∙◌, subst, arith, inl, inr, slice_index, AllByRecursion, cases_lt, recursion_from_All, numbers, is_nothing, order_from_sorted, Decides-is_nothing, Split, IsSplit, Mesh, IsSurface, ArePositive, cells_of, class_of, comes_before, loops_at, IsChosenBasis, greedy, greedy_after, spans, two_step_law, AreBases, all_each, greedy_is_choice, below_closed, IsLoopAt, comes_before-trans, loops_each, Signed, signed_earlier, independent_of, all_merged, all_kept, AreWalksOf, HavePlacesOfBasis, lengths_at, has_length}
use Rattle.surf_search.proofs.Common.{Trees, AreChosen, Loop, candidates, merge_from}
use Rattle.surf_z2.specs.Order.{merge}
use Rattle.surf_basis.proofs.Places.{is_placed_loop, no_lengths, placed_more, placed_past, placed-sorted}

-- merged candidates as loops
module _ (mesh : Mesh) (trees : ℕ → Trees) where
  merged_from : (c : Signed) (rest : List Signed → List Signed) (others : List Loop → List Loop) →
      ((ds : List Signed) → others (loops_in mesh trees ds) ≡ loops_in mesh trees (rest ds)) → (ds : List Signed) →
      merge_from comes_before (loop_in mesh trees c.candidate) others (loops_in mesh trees ds)
      ≡ loops_in mesh trees (merge_from signed_earlier c rest ds)
  merged_from c rest others same [] = ap (λ cs. loop_in mesh trees c.candidate ∷ cs) (same [])
  merged_from c rest others same (d ∷ ds) = split (signed_earlier c d) (same (d ∷ ds)) (merged_from c rest others same ds)
    where
      split : (b : Bool) → others (loops_in mesh trees (d ∷ ds)) ≡ loops_in mesh trees (rest (d ∷ ds)) →
          merge_from comes_before (loop_in mesh trees c.candidate) others (loops_in mesh trees ds) ≡ loops_in mesh trees (merge_from signed_earlier c rest ds) →
          cond b (loop_in mesh trees c.candidate ∷ others (loops_in mesh trees (d ∷ ds)))
          (loop_in mesh trees d.candidate ∷ merge_from comes_before (loop_in mesh trees c.candidate) others (loops_in mesh trees ds))
          ≡ loops_in mesh trees (cond b (c ∷ rest (d ∷ ds)) (d ∷ merge_from signed_earlier c rest ds))
      split true h k = ap (λ cs. loop_in mesh trees c.candidate ∷ cs) h
      split false h k = ap (λ cs. loop_in mesh trees d.candidate ∷ cs) k

  pub merged_loops : (cs ds : List Signed) → merge comes_before (loops_in mesh trees cs) (loops_in mesh trees ds)
      ≡ loops_in mesh trees (merge signed_earlier cs ds)
  merged_loops [] ds = refl
  merged_loops (c ∷ cs) ds = merged_from c (merge signed_earlier cs) (merge comes_before (loops_in mesh trees cs)) (merged_loops cs) ds

  -- and so are those that are independent, where signatures are those of the walks
  module _ (d : Split) where
    abbrev class_in : Loop → ℕ
    class_in c = class_of mesh d c.walk

    abbrev own : Signed → ℕ
    own c = c.signature

    pub kept_after : (before : List ℕ) (cs : List Signed) → AllByRecursion (λ c. c.signature ≡ class_of mesh d (loop_in mesh trees c.candidate).walk) cs →
        greedy_after numbers is_nothing class_in before (loops_in mesh trees cs)
        ≡ loops_in mesh trees (greedy_after numbers is_nothing own before cs)
    kept_after before [] h = refl
    kept_after before (c ∷ cs) h =
        let v = class_of mesh d (loop_in mesh trees c.candidate).walk in
        subst (λ n. cond (spans numbers is_nothing before v) (greedy_after numbers is_nothing class_in before (loops_in mesh trees cs))
        (loop_in mesh trees c.candidate ∷ greedy_after numbers is_nothing class_in (before ++ v ∷ []) (loops_in mesh trees cs))
        ≡ loops_in mesh trees (cond (spans numbers is_nothing before n) (greedy_after numbers is_nothing own before cs)
        (c ∷ greedy_after numbers is_nothing own (before ++ n ∷ []) cs))) (sym h.0)
        (split (spans numbers is_nothing before v) (kept_after before cs h.1) (kept_after (before ++ v ∷ []) cs h.1))
      where
        split : (b : Bool) → greedy_after numbers is_nothing class_in before (loops_in mesh trees cs)
            ≡ loops_in mesh trees (greedy_after numbers is_nothing own before cs) →
            greedy_after numbers is_nothing class_in (before ++ class_of mesh d (loop_in mesh trees c.candidate).walk ∷ []) (loops_in mesh trees cs)
            ≡ loops_in mesh trees (greedy_after numbers is_nothing own (before ++ class_of mesh d (loop_in mesh trees c.candidate).walk ∷ []) cs) →
            cond b (greedy_after numbers is_nothing class_in before (loops_in mesh trees cs))
            (loop_in mesh trees c.candidate ∷ greedy_after numbers is_nothing class_in (before ++ class_of mesh d (loop_in mesh trees c.candidate).walk ∷ []) (loops_in mesh trees cs))
            ≡ loops_in mesh trees (cond b (greedy_after numbers is_nothing own before cs)
            (c ∷ greedy_after numbers is_nothing own (before ++ class_of mesh d (loop_in mesh trees c.candidate).walk ∷ []) cs))
        split true h k = h
        split false h k = ap (λ xs. loop_in mesh trees c.candidate ∷ xs) k

-- tests that agree on the members of a list keep the same
filter_each : {X : Type 0} (p q : X → Bool) (xs : List X) → AllByRecursion (λ x. p x ≡ q x) xs → filter p xs ≡ filter q xs
filter_each p q [] h = refl
filter_each p q (x ∷ xs) h = rw h.0 (ap (λ ys. cond (q x) (x ∷ ys) ys) (filter_each p q xs h.1))

-- a vertex between two bases, or after the last, is no base
between : (bases : List ℕ) (done below x : ℕ) → ((k : ℕ) → k < done → slice_index bases k < below) → below ≤ x →
    ((k : ℕ) → done ≤ k → k < length bases → x < slice_index bases k) → (k : ℕ) → k < length bases → slice_index bases k ≡ x → ⊥
between bases done below x past from ahead k l is = elim (cases_lt k done) [
  | inl less ↦ let before = past k less in omega (arith, before, is)
  | inr more ↦ let after = ahead k (omega arith) l in omega (arith, after, is)
]

module _ (mesh : Mesh) (lengths : List ℕ) (trees : ℕ → Trees) (surface : IsSurface mesh)
    (positive : ArePositive mesh lengths) (chosen : AreChosen mesh lengths trees) (d : Split)
    (split : IsSplit (cells_of mesh) d) (found : List Signed) where
  -- nothing is kept before the first base
  pub none_kept : (bases : List ℕ) (kept : List Signed) → kept ≡ [] → AreKept mesh lengths trees d found bases 0 kept
  none_kept bases kept is = subst (AreKept mesh lengths trees d found bases 0) (sym is) (record {
    below = 0;
    below_in = omega arith;
    past = λ k l. absurd (omega arith);
    ahead = λ k from l. omega arith;
    choice = refl;
    signed = λ k c l. absurd (omega arith);
  })

  -- no loop at the vertices from a number to another one has a place that was found
  placed_to : (n m : ℕ) → n ≤ m → ((x : ℕ) → n ≤ x → x < m → lengths_at found x ≡ []) →
      placed_below mesh lengths trees found m ≡ placed_below mesh lengths trees found n
  placed_to n m le none =
      let same : m ≡ n + (m - n) = omega arith in
      ap (placed_below mesh lengths trees found) same
      ∙ placed_past mesh lengths trees found (m - n) n (λ x from to. none x from (omega arith))

  offered_placed : (base : ℕ) (offered : List Signed) → IsOffered mesh lengths trees d (lengths_at found base) base offered →
      loops_in mesh trees offered ≡ filter (is_placed_loop found) (loops_at mesh lengths base (trees base))
  offered_placed base offered is =
      is.loops_are
      ∙ filter_each (λ c. has_length (lengths_at found base) c.size) (is_placed_loop found) (loops_at mesh lengths base (trees base))
      (all_each (IsLoopAt mesh lengths base (trees base)) (λ c. has_length (lengths_at found base) c.size ≡ is_placed_loop found c)
      (loops_at mesh lengths base (trees base))
      (λ c h. ap (λ b. has_length (lengths_at found b) c.size) (sym (ap (λ (k : Loop). k.base) h.is)))
      (loops_each mesh lengths base (trees base)))

  -- the choice among them
  next_choice : (below base : ℕ) (offered kept : List Signed) → IsOffered mesh lengths trees d (lengths_at found base) base offered →
      loops_in mesh trees kept
      ≡ greedy numbers is_nothing (λ (c : Loop). class_of mesh d c.walk) (placed_below mesh lengths trees found below) →
      placed_below mesh lengths trees found base ≡ placed_below mesh lengths trees found below →
      greedy numbers is_nothing (λ (c : Loop). class_of mesh d c.walk) (loops_in mesh trees (merge signed_earlier kept offered))
      ≡ greedy numbers is_nothing (λ (c : Loop). class_of mesh d c.walk) (placed_below mesh lengths trees found (suc base))
  next_choice below base offered kept right choice same =
      let class : Loop → ℕ = λ c. class_of mesh d c.walk in
      let now = placed_below mesh lengths trees found base in
      let at = filter (is_placed_loop found) (loops_at mesh lengths base (trees base)) in
      ap (greedy numbers is_nothing class) (sym (merged_loops mesh trees kept offered)
      ∙ ap (merge comes_before (loops_in mesh trees kept)) (offered_placed base offered right)
      ∙ ap (λ ks. merge comes_before ks at) (choice ∙ ap (greedy numbers is_nothing class) (sym same)))
      ∙ two_step_law numbers is_nothing Decides-is_nothing class comes_before comes_before-trans now at
      (order_from_sorted comes_before now (placed-sorted mesh lengths trees found base))
      ∙ ap (greedy numbers is_nothing class) (sym (placed_more mesh lengths trees found base))

  -- the loops at one more base
  pub kept_more : (bases : List ℕ) (done base : ℕ) (offered kept next : List Signed) → AreBases mesh bases →
      HasBases bases found → done < length bases → slice_index bases done ≡ base →
      IsOffered mesh lengths trees d (lengths_at found base) base offered →
      AreKept mesh lengths trees d found bases done kept →
      next ≡ independent_of (merge signed_earlier kept offered) →
      AreKept mesh lengths trees d found bases (done + 1) next
  kept_more bases done base offered kept next are has l at o k is =
      let merged = merge signed_earlier kept offered in
      let Right = IsSigned mesh lengths trees d in
      let inside = are.inside done l in
      let base_in : base < mesh.vertices = omega (arith, at, inside) in
      let reached = k.ahead done (omega arith) l in
      let from : k.below ≤ base = omega (arith, at, reached) in
      let right = all_merged signed_earlier Right kept offered k.signed o.signed in
      let later : (j : ℕ) → done < j → j < length bases → base < slice_index bases j = λ j after to.
      (let rise = are.rise done j after to in omega (arith, rise, at)) in
      let none : (x : ℕ) → k.below ≤ x → x < base → lengths_at found x ≡ [] = λ x low high.
      no_lengths bases found x has (between bases done k.below x k.past low (λ j after to. elim (cases_lt done j) [
        | inl less ↦ let far = later j less to in omega (arith, far, high)
        | inr not ↦ let same : done ≡ j = omega arith in let here = ap (slice_index bases) same in omega (arith, here, at, high)
      ])) in
      record {
        below = suc base;
        below_in = omega (arith, base_in);
        past = λ j to. elim (cases_lt j done) [
          | inl less ↦ let before = k.past j less in omega (arith, before, from)
          | inr not ↦ let same : j ≡ done = omega arith in let here = ap (slice_index bases) same in omega (arith, here, at)
        ];
        ahead = λ j after to. (let far = later j (omega arith) to in omega (arith, far));
        choice =
            ap (loops_in mesh trees) is
            ∙ sym (kept_after mesh trees d [] merged
            (all_each Right (λ c. c.signature ≡ class_of mesh d (loop_in mesh trees c.candidate).walk) merged (λ c s. s.signature)
            (recursion_from_All Right merged right)))
            ∙ next_choice k.below base offered kept o k.choice (placed_to k.below base from none);
        signed = subst (All Right) (sym is) (all_kept Right merged right);
      }

  -- the basis
  basis_chosen : IsChosenBasis mesh lengths trees
      (greedy numbers is_nothing (λ (c : Loop). class_of mesh d c.walk) (candidates mesh lengths trees))
  basis_chosen = greedy_is_choice mesh d surface split (candidates mesh lengths trees)
      (below_closed mesh lengths trees surface positive chosen mesh.vertices (omega arith))

  -- the cycles of what is kept are its loops
  cycle_loop : (c : Signed) (cycle : Cycle) → IsSigned mesh lengths trees d c →
      IsCycleOf mesh lengths c.candidate cycle → as_loop cycle ≡ loop_in mesh trees c.candidate
  cycle_loop c cycle s is =
      let walk = is.walk (trees c.candidate.base) (chosen c.candidate.base s.base_in) s.left in
      λ i. record { size = is.size i; base = is.base i; edge = is.edge i; walk = walk i }

  all_cycles : (cs : List Signed) (cycles : List Cycle) → AllByRecursion (IsSigned mesh lengths trees d) cs →
      AreCyclesOf mesh lengths cs cycles → as_loops cycles ≡ loops_in mesh trees cs
  all_cycles [] [] h are = refl
  all_cycles [] (y ∷ ys) h are = absurd are
  all_cycles (c ∷ cs) [] h are = absurd are
  all_cycles (c ∷ cs) (y ∷ ys) h are =
      ap (λ (k : Loop). k ∷ as_loops ys) (cycle_loop c y h.0 are.0)
      ∙ ap (λ ks. loop_in mesh trees c.candidate ∷ ks) (all_cycles cs ys h.1 are.1)

  -- what is kept in the end is the choice from the loops at all vertices
  kept_whole : (bases : List ℕ) (kept : List Signed) → HasBases bases found → HavePlacesOfBasis mesh lengths found →
      AreKept mesh lengths trees d found bases (length bases) kept →
      loops_in mesh trees kept
      ≡ greedy numbers is_nothing (λ (c : Loop). class_of mesh d c.walk) (candidates mesh lengths trees)
  kept_whole bases kept has have k =
      let class : Loop → ℕ = λ c. class_of mesh d c.walk in
      let all = candidates mesh lengths trees in
      let basis = greedy numbers is_nothing class all in
      let none : (x : ℕ) → k.below ≤ x → x < mesh.vertices → lengths_at found x ≡ [] = λ x low high.
      no_lengths bases found x has (between bases (length bases) k.below x k.past low (λ j after to. absurd (omega arith))) in
      let placed = have trees chosen basis basis_chosen in
      k.choice ∙ ap (greedy numbers is_nothing class) (sym (placed_to k.below mesh.vertices k.below_in none))
      ∙ greedy_filtered numbers class is_nothing Decides-is_nothing (is_placed_loop found) [] all
      (recursion_from_All (λ c. is_placed_loop found c ≡ true) basis placed)

  pub cycles_basis : (bases : List ℕ) (kept : List Signed) (cycles : List Cycle) → HasBases bases found →
      HavePlacesOfBasis mesh lengths found → AreKept mesh lengths trees d found bases (length bases) kept →
      AreCyclesOf mesh lengths kept cycles → IsChosenBasis mesh lengths trees (as_loops cycles)
  cycles_basis bases kept cycles has have k are =
      subst (IsChosenBasis mesh lengths trees)
      (sym (all_cycles kept cycles (recursion_from_All (IsSigned mesh lengths trees d) kept k.signed) are
      ∙ kept_whole bases kept has have k)) basis_chosen

-- candidates with the walks of their loops are their cycles
pub cycles_are : (mesh : Mesh) (lengths : List ℕ) (cs : List Signed) (walks : List (List ℕ)) → AreWalksOf mesh lengths cs walks →
    AreCyclesOf mesh lengths cs (cycles_with cs walks)
cycles_are mesh lengths [] walks are = tt
cycles_are mesh lengths (c ∷ cs) [] are = absurd (let none : zero ≡ suc (length cs) = are.count in omega (arith, none))
cycles_are mesh lengths (c ∷ cs) (w ∷ ws) are = (
  record {
    size = refl;
    base = refl;
    edge = refl;
    walk = λ trees at left. are.each 0 c (omega arith) trees.tree at.shortest;
  },
  cycles_are mesh lengths cs ws (record {
    count = let more : suc (length ws) ≡ suc (length cs) = are.count in omega (arith, more);
    each = λ k s l. are.each (suc k) s (omega (arith, l));
  }),
)
