-- The first candidate, base by base.
use Rattle.surf_basis.proofs.Common.{LoopTables, IsGreedy, LoopHead, Cycle, candidate_of, first_head, loop_in, IsInside, IsCycleOf, first_of, as_loop, IsFirstCandidate, IsShortestCycle, AllSeparate, ◌≡◌, ℕ, ◌<◌, ◌+◌, ◌↔◌, List, [], ◌∷◌, length, map, Option, Some, None, refl, sym, ap, ◌∙◌, subst, arith, inl, inr, AllByRecursion, option_map, IfSome, cases_lt, Mesh, face_count, edge_count, IsSurface, ArePositive, IsLoopCount, loops_at, some_vertex, choice_exists, first_is_shortest, candidates_below_two, simple_cycles_separate, IsLoopAt, loops_are_least, IsLoopBelow, below_each, Candidate}
use Rattle.surf_search.proofs.Common.{Trees, AreChosen, Loop, candidates}
use Rattle.surf_loops.specs.Loops.{loop_of as head_loop}
use Rattle.surf_basis.proofs.Looped.{heads_chosen, each_head, head_in, none_on_sphere}

-- a list with its first loop
pub first_listed : (c : Loop) (cs : List Loop) → Some c ≡ first_of cs → (rest : List Loop) × (cs ≡ c ∷ rest)
first_listed c [] e = cc
first_listed c (d ∷ ds) e = let same : c ≡ d = of_some c d e in (ds, ap (λ k. k ∷ ds) (sym same))
  where
    of_some : (a b : Loop) → Some a ≡ Some b → a ≡ b
    of_some a b e = cc

module _ (mesh : Mesh) (lengths : List ℕ) (trees : ℕ → Trees) (surface : IsSurface mesh)
    (positive : ArePositive mesh lengths) (chosen : AreChosen mesh lengths trees) where
  -- the first head of a desk is the first of the loops at its base
  pub first_heads : (base : ℕ) (t : LoopTables) → base < mesh.vertices → IsGreedy mesh lengths base t →
      option_map (loop_in mesh trees) (first_head t) ≡ first_of (loops_at mesh lengths base (trees base))
  first_heads base t l g = of t.heads refl
    where
      of : (hs : List LoopHead) → hs ≡ t.heads → option_map (loop_in mesh trees) (option_map (candidate_of t.tree) (first_of hs))
          ≡ first_of (loops_at mesh lengths base (trees base))
      of [] e = ap (λ ks. first_of (map (head_loop mesh t) ks)) e
          ∙ ap first_of (heads_chosen mesh lengths trees surface positive chosen base t l g)
      of (h ∷ hs) e =
          let each : AllByRecursion (λ x. IsLoopAt mesh lengths t.tree.base (trees t.tree.base) (head_loop mesh t x)) (h ∷ hs) =
          subst (AllByRecursion (λ x. IsLoopAt mesh lengths t.tree.base (trees t.tree.base) (head_loop mesh t x))) (sym e)
          (each_head mesh lengths trees surface positive chosen base t l g) in
          ap Some (sym (head_in mesh lengths trees surface positive chosen t h each.0))
          ∙ ap (λ ks. first_of (map (head_loop mesh t) ks)) e
          ∙ ap first_of (heads_chosen mesh lengths trees surface positive chosen base t l g)

  -- ---- what the first candidate is

  pub first_placed : (c : Candidate) → Some (loop_in mesh trees c) ≡ first_of (candidates mesh lengths trees) →
      IsLoopBelow mesh lengths trees mesh.vertices (loop_in mesh trees c)
  first_placed c e =
      let (rest, is) = first_listed (loop_in mesh trees c) (candidates mesh lengths trees) e in
      let each : AllByRecursion (IsLoopBelow mesh lengths trees mesh.vertices) (loop_in mesh trees c ∷ rest) =
      subst (AllByRecursion (IsLoopBelow mesh lengths trees mesh.vertices)) is (below_each mesh lengths trees mesh.vertices) in
      each.0

  pub first_cycle : (c : Candidate) (cycle : Cycle) → Some (loop_in mesh trees c) ≡ first_of (candidates mesh lengths trees) →
      IsCycleOf mesh lengths c cycle → as_loop cycle ≡ loop_in mesh trees c
  first_cycle c cycle e is =
      let placed = first_placed c e in
      let walk = is.walk (trees c.base) (chosen c.base placed.base_in) placed.of.left in
      λ i. record { size = is.size i; base = is.base i; edge = is.edge i; walk = walk i }

  pub no_first : None ≡ first_of (candidates mesh lengths trees) → IsLoopCount mesh 0
  no_first e =
      let base_in : 0 < mesh.vertices = some_vertex mesh surface in
      let count = (loops_are_least mesh lengths 0 (trees 0) surface positive (chosen 0 base_in)).least.is_system.count in
      let law = candidates_below_two mesh lengths trees surface positive chosen in
      elim (cases_lt (mesh.vertices + face_count mesh) (edge_count mesh + 2)) [
        | inl less ↦ absurd (no_member (candidates mesh lengths trees) e (law.1 less))
        | inr more ↦ omega (arith, more, count)
      ]
    where
      no_member : (cs : List Loop) → None ≡ first_of cs → 0 < length cs → ⊥
      no_member [] e l = omega arith
      no_member (c ∷ cs) e l = cc

-- the first candidate, if there is one, by any trees
abbrev pub IsFound : Mesh → List ℕ → Option Candidate → Type 0
IsFound mesh lengths found = (trees : ℕ → Trees) → AreChosen mesh lengths trees →
    option_map (loop_in mesh trees) found ≡ first_of (candidates mesh lengths trees)

module _ (mesh : Mesh) (lengths : List ℕ) (surface : IsSurface mesh) (positive : ArePositive mesh lengths) where
  pub found_inside : (c : Candidate) → IsFound mesh lengths (Some c) → IsInside mesh c
  found_inside c found =
      let (trees, chosen) = choice_exists mesh lengths surface positive in
      let placed = first_placed mesh lengths trees surface positive chosen c (found trees chosen) in
      record { base = placed.base_in; edge = placed.of.edge_in }

  pub found_first : (c : Candidate) (cycle : Cycle) → IsFound mesh lengths (Some c) → IsCycleOf mesh lengths c cycle →
      IsFirstCandidate mesh lengths (Some cycle)
  found_first c cycle found is trees chosen =
      ap Some (first_cycle mesh lengths trees surface positive chosen c cycle (found trees chosen) is) ∙ found trees chosen

  -- the first candidate is a shortest cycle
  pub first_shortest : (found : Option Cycle) → IsFirstCandidate mesh lengths found →
      IfSome found (λ cycle. IsShortestCycle mesh lengths cycle)
  first_shortest None is = tt
  first_shortest (Some cycle) is =
      let (trees, chosen) = choice_exists mesh lengths surface positive in
      let (rest, listed) = first_listed (as_loop cycle) (candidates mesh lengths trees) (is trees chosen) in
      let good = first_is_shortest mesh lengths trees (as_loop cycle) rest surface positive chosen listed in
      record { shortest = good.0; size = good.1 }

  pub found_some : (c : Candidate) → IsFound mesh lengths (Some c) → IsLoopCount mesh 0 → ⊥
  found_some c found full =
      let (trees, chosen) = choice_exists mesh lengths surface positive in
      let e : Some (loop_in mesh trees c) ≡ None = found trees chosen ∙ ap first_of (none_on_sphere mesh lengths trees surface positive chosen full) in
      cc

  pub found_none : IsFound mesh lengths None → IsLoopCount mesh 0
  found_none found =
      let (trees, chosen) = choice_exists mesh lengths surface positive in
      no_first mesh lengths trees surface positive chosen (found trees chosen)

  -- nothing is found exactly on a sphere, where every simple cycle separates
  pub none_exactly : (found : Option Cycle) → (found ≡ None → IsLoopCount mesh 0) → (IsLoopCount mesh 0 → found ≡ None) →
      ((found ≡ None) ↔ IsLoopCount mesh 0) × ((found ≡ None) ↔ AllSeparate mesh)
  none_exactly found to from =
      let law = simple_cycles_separate mesh surface in
      ((to, from), (λ none. law.1 (to none), λ all. from (law.0 all)))

  pub none_found : (found : Option Cycle) → found ≡ None → IsFound mesh lengths None →
      ((found ≡ None) ↔ IsLoopCount mesh 0) × ((found ≡ None) ↔ AllSeparate mesh)
  none_found found is none = none_exactly found (λ e. found_none none) (λ full. is)

  pub some_found : (c : Candidate) (cycle : Cycle) → IsFound mesh lengths (Some c) →
      ((Some cycle ≡ None) ↔ IsLoopCount mesh 0) × ((Some cycle ≡ None) ↔ AllSeparate mesh)
  some_found c cycle found = none_exactly (Some cycle) (λ e. cc) (λ full. absurd (found_some c found full))
