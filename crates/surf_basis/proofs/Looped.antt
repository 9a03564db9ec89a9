-- The loops of a desk at a base, as loops of the choice.
use Rattle.surf_basis.proofs.Common.{LoopTables, trees_of, loop_of, IsGreedy, LoopHead, candidate_of, loop_in, ◌≡◌, ℕ, ◌<◌, ◌+◌, true, List, [], ◌∷◌, length, map, Contains, refl, sym, ap, ◌∙◌, subst, arith, AllByRecursion, length-map, get_or-map, All-from_recursion, All-contains, Contains-permutation, Mesh, edge_count, face_count, IsSurface, ArePositive, IsLoopCount, loop_walk, AreChosenAt, comes_before, loop_at, loops_at, IsChosenBasis, sorted-permutes, is_left, left_edges, IsLoopAt, loops_each, candidates_below_two}
use Rattle.surf_search.proofs.Common.{Trees, AreChosen, Loop, candidates, IsGreedyChoice}
use Rattle.surf_surfaces.proofs.classes.CotreeLaws.{passing_found}
use Rattle.surf_surfaces.proofs.bases.LoopsOne.{loops_are_one}

-- the loop of a left edge is the same through all trees that are chosen at the base
pub loop_is_one : (mesh : Mesh) (lengths : List ℕ) (base : ℕ) (a b : Trees) → IsSurface mesh → ArePositive mesh lengths →
    AreChosenAt mesh lengths base a → AreChosenAt mesh lengths base b → (e : ℕ) → e < edge_count mesh →
    is_left mesh a.tree a.cotree e ≡ true → loop_walk mesh a.tree e ≡ loop_walk mesh b.tree e
loop_is_one mesh lengths base a b surface positive x y e l left =
    let c = loop_at mesh lengths base a.tree e in
    let edges = left_edges mesh a.tree a.cotree in
    let found = passing_found (is_left mesh a.tree a.cotree) 0 (edge_count mesh) e (omega arith) (omega arith) left in
    let among : Contains (map (loop_at mesh lengths base a.tree) edges) c = (
      found.0,
      omega (arith, length-map edges (loop_at mesh lengths base a.tree), found.1),
      get_or-map (loop_at mesh lengths base a.tree) edges found.0 0 c found.1 ∙ ap (loop_at mesh lengths base a.tree) found.2,
    ) in
    let here : Contains (loops_at mesh lengths base a) c =
    Contains-permutation (map (loop_at mesh lengths base a.tree) edges) (loops_at mesh lengths base a) c
    (sorted-permutes comes_before (map (loop_at mesh lengths base a.tree) edges)) among in
    let there : Contains (loops_at mesh lengths base b) c =
    subst (λ cs. Contains cs c) (loops_are_one mesh lengths base a b surface positive x y) here in
    let is = All-contains (IsLoopAt mesh lengths base b) (loops_at mesh lengths base b) c
    (All-from_recursion (IsLoopAt mesh lengths base b) (loops_at mesh lengths base b) (loops_each mesh lengths base b)) there in
    ap (λ (k : Loop). k.walk) is.is

module _ (mesh : Mesh) (lengths : List ℕ) (trees : ℕ → Trees) (surface : IsSurface mesh)
    (positive : ArePositive mesh lengths) (chosen : AreChosen mesh lengths trees) where
  -- the loops of a desk are those that are chosen, whichever trees show the choice
  pub heads_chosen : (base : ℕ) (t : LoopTables) → base < mesh.vertices → IsGreedy mesh lengths base t →
      map (loop_of mesh t) t.heads ≡ loops_at mesh lengths base (trees base)
  heads_chosen base t l g =
      g.heads ∙ loops_are_one mesh lengths base (trees_of t) (trees base) surface positive g.chosen (chosen base l)

  -- each is the loop of a left edge
  heads_each : (base : ℕ) (t : LoopTables) → base < mesh.vertices → IsGreedy mesh lengths base t →
      (hs : List LoopHead) → AllByRecursion (IsLoopAt mesh lengths base (trees base)) (map (loop_of mesh t) hs) →
      AllByRecursion (λ h. IsLoopAt mesh lengths t.tree.base (trees t.tree.base) (loop_of mesh t h)) hs
  heads_each base t l g [] h = tt
  heads_each base t l g (x ∷ hs) h = (
    subst (λ b. IsLoopAt mesh lengths b (trees b) (loop_of mesh t x)) (sym g.tree.base_is) h.0,
    heads_each base t l g hs h.1,
  )

  pub each_head : (base : ℕ) (t : LoopTables) → base < mesh.vertices → IsGreedy mesh lengths base t →
      AllByRecursion (λ h. IsLoopAt mesh lengths t.tree.base (trees t.tree.base) (loop_of mesh t h)) t.heads
  each_head base t l g = heads_each base t l g t.heads
      (subst (AllByRecursion (IsLoopAt mesh lengths base (trees base))) (sym (heads_chosen base t l g))
      (loops_each mesh lengths base (trees base)))

  -- a loop of a desk through the trees at all bases
  pub head_in : (t : LoopTables) (h : LoopHead) → IsLoopAt mesh lengths t.tree.base (trees t.tree.base) (loop_of mesh t h) →
      loop_of mesh t h ≡ loop_in mesh trees (candidate_of t.tree h)
  head_in t h is =
      let walk = ap (λ (c : Loop). c.walk) is.is in
      λ i. record { size = h.length; base = t.tree.base; edge = h.edge; walk = walk i }

  -- where χ is 2 there is no candidate
  pub none_on_sphere : IsLoopCount mesh 0 → candidates mesh lengths trees ≡ []
  none_on_sphere full = empty (candidates mesh lengths trees) (λ some.
      let less : mesh.vertices + face_count mesh < edge_count mesh + 2 = (candidates_below_two mesh lengths trees surface positive chosen).0 some in
      omega (arith, less, full))
    where
      empty : (cs : List Loop) → (0 < length cs → ⊥) → cs ≡ []
      empty [] h = refl
      empty (c ∷ cs) h = absurd (h (omega arith))

  pub empty_basis : IsLoopCount mesh 0 → IsChosenBasis mesh lengths trees []
  empty_basis full = subst (λ cs. IsGreedyChoice mesh cs []) (sym (none_on_sphere full)) (record {
    keep = [];
    are_kept = refl;
    exactly = λ i c l. absurd (omega arith);
  })
