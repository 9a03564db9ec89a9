-- The first candidate, and whether there is one.
use Rattle.surf_surfaces.proofs.Common.{◌≡◌, ℕ, ◌+◌, ◌<◌, ◌≤◌, Bool, true, List, [], ◌∷◌, length, map, replicate, get_or, refl, sym, ap, ◌∙◌, subst, arith, inl, inr, Contains, AllByRecursion, cases_lt, eq-eqb, false≢true, length-map, get_or-replicate, numbers, is_nothing, SpannedUpToWeight, Decides-is_nothing, in_from_spanned, primal, signature, Split, IsSplit, IsEven, loop, left_edges as left_edges_count, Mesh, face_count, edge_count, IsSurface, edge_length, parity, ArePositive, IsLoopCount, cells_of, class_of, AreShortestTrees, loop_walk, loop_length, Trees, AreChosenAt, AreChosen, Loop, loops_at, candidates, length_permutation, weighed, signature_of, signed, loop_chain, even_same, signature_of-same, zero_null}
use Rattle.surf_z2.proofs.Least.{lighter_before}
use Rattle.surf_graphs.proofs.CellLaws.{null_signature}
use Rattle.surf_graphs.proofs.Lengths.{loop_signature, left_signature}
use Rattle.surf_surfaces.specs.Cycle.{IsSimpleCycle, Separation, IsShortestNonseparating}
use Rattle.surf_surfaces.specs.CycleLaws.{IsEssential}
use Rattle.surf_surfaces.specs.Cotree.{is_left, left_edges, split_of}
use Rattle.surf_surfaces.specs.ChoiceLaws.{FirstIsShortest, CandidatesBelowTwo, SimpleCyclesSeparate}
use Rattle.surf_surfaces.proofs.meshes.CellLaws.{surfaces_are_cells}
use Rattle.surf_surfaces.proofs.walks.GraphWalkLaws.{closed_parity_even}
use Rattle.surf_surfaces.proofs.classes.ClassLaws.{runs_loop, some_vertex, some_split}
use Rattle.surf_surfaces.proofs.classes.LeastCycleLaws.{least_loops_are_shortest_cycles, cycles_separate_on_sphere}
use Rattle.surf_surfaces.proofs.classes.CotreeLaws.{passing_found}
use Rattle.surf_surfaces.proofs.bases.LoopsAtLaws.{edges_permute, tree_is, tree_short, split_is}
use Rattle.surf_surfaces.proofs.bases.CandidateLaws.{IsLoopBelow, below_each, below_contains}
use Rattle.surf_surfaces.proofs.bases.ChoiceExists.{choice_exists}
use Rattle.surf_surfaces.proofs.bases.CoveredLaws.{runs, below_sized, weighed_loops, loops_covered, candidates_rise}

module _ (mesh : Mesh) (lengths : List ℕ) (surface : IsSurface mesh) (positive : ArePositive mesh lengths) where
  -- the place of a left edge among the left edges
  left_place : (trees : Trees) (e : ℕ) → e < edge_count mesh → is_left mesh trees.tree trees.cotree e ≡ true →
      (k : ℕ) × (k < length (left_edges mesh trees.tree trees.cotree))
      × (get_or (left_edges mesh trees.tree trees.cotree) k 0 ≡ e)
  left_place trees e e_in left = passing_found (is_left mesh trees.tree trees.cotree) 0 (edge_count mesh) e
      (omega arith) (omega arith) left

  -- the loop of a left edge is no boundary
  pub left_essential : (base : ℕ) (trees : Trees) → AreChosenAt mesh lengths base trees → (e : ℕ) →
      e < edge_count mesh → is_left mesh trees.tree trees.cotree e ≡ true → IsEssential mesh trees.tree e
  left_essential base trees chosen e e_in left null =
      let s = cells_of mesh in
      let d = split_of mesh trees.tree trees.cotree in
      let split = split_is mesh lengths base trees surface positive chosen in
      let cells = (surfaces_are_cells mesh surface).complex in
      let (k, l, is) = left_place trees e e_in left in
      let here = null_signature s d cells split (loop (primal s) trees.tree e) null k l in
      let bit = loop_signature s d cells split e k e_in in
      let one = left_signature s d split k k l l in
      let same = ap (λ h. signature_at h k) is in
      false≢true (sym here ∙ bit ∙ sym same ∙ one ∙ eq-eqb k k refl)
    where
      signature_at : ℕ → ℕ → Bool
      signature_at h k = signature (cells_of mesh) (split_of mesh trees.tree trees.cotree) h k

  -- so its class isn't zero
  pub left_class : (d : Split) → IsSplit (cells_of mesh) d → (base : ℕ) (trees : Trees) → AreChosenAt mesh lengths base trees →
      (e : ℕ) → e < edge_count mesh → is_left mesh trees.tree trees.cotree e ≡ true →
      class_of mesh d (loop_walk mesh trees.tree e) ≡ 0 → ⊥
  left_class d split base trees chosen e e_in left zero_is =
      let s = cells_of mesh in
      let walk = loop_walk mesh trees.tree e in
      let chain = loop (primal s) trees.tree e in
      let run = runs_loop mesh lengths surface trees.tree (tree_is mesh lengths base trees surface positive chosen)
      (tree_short mesh lengths base trees surface positive chosen) e e_in in
      let even : IsEven (primal s) chain = even_same (primal s) chain (parity mesh walk)
      (λ f l. sym (run.parities f l)) (closed_parity_even mesh surface walk run.closed.is_closed) in
      let none : signature_of s d chain ≡ 0 =
      signature_of-same s d chain (parity mesh walk) (λ f l. sym (run.parities f l)) ∙ zero_is in
      left_essential base trees chosen e e_in left (zero_null s d (surfaces_are_cells mesh surface).complex split chain even none)

  -- 2 − χ edges are left
  left_count : (base : ℕ) (trees : Trees) → AreChosenAt mesh lengths base trees →
      length (left_edges mesh trees.tree trees.cotree) + (mesh.vertices + face_count mesh) ≡ edge_count mesh + 2
  left_count base trees chosen = left_edges_count (cells_of mesh) (split_of mesh trees.tree trees.cotree)
      (split_is mesh lengths base trees surface positive chosen)

  module _ (trees : ℕ → Trees) (chosen : AreChosen mesh lengths trees) where
    pub shortest_trees : AreShortestTrees mesh lengths (λ x. (trees x).tree)
    shortest_trees = record {
      root = λ x l. (chosen x l).shortest.root;
      is_tree = λ x l. tree_is mesh lengths x (trees x) surface positive (chosen x l);
      shortest = λ x l. tree_short mesh lengths x (trees x) surface positive (chosen x l);
    }

    -- no loop that is no boundary is shorter than the first candidate
    first_least : (first : Loop) (rest : List Loop) → candidates mesh lengths trees ≡ first ∷ rest → (y e : ℕ) →
        y < mesh.vertices → e < edge_count mesh → IsEssential mesh (trees y).tree e →
        first.size ≤ loop_length mesh lengths (trees y).tree e
    first_least first rest is y e y_in e_in essential =
        elim (cases_lt (loop_length mesh lengths (trees y).tree e) first.size) [
          | inr no_less ↦ no_less
          | inl shorter ↦
              let s = cells_of mesh in
              let tree = (trees y).tree in
              let (d, split) = some_split mesh surface in
              let v = signature_of s d (loop (primal s) tree e) in
              let covered : SpannedUpToWeight numbers
              (weighed (λ c. c.size) (λ c. class_of mesh d c.walk) (candidates mesh lengths trees))
              (signed s d (loop_chain (primal s) (edge_length lengths) tree e)) =
              subst (λ xs. SpannedUpToWeight numbers xs (signed s d (loop_chain (primal s) (edge_length lengths) tree e)))
              (weighed_loops mesh lengths trees surface positive chosen d split (candidates mesh lengths trees)
              (below_sized mesh lengths trees surface positive chosen mesh.vertices (omega arith)))
              (loops_covered mesh lengths trees surface positive chosen d split y e y_in e_in) in
              let some : 0 < length (candidates mesh lengths trees) = omega (arith, ap length is) in
              let heavier : loop_length mesh lengths tree e < (get_or (candidates mesh lengths trees) 0 first).size =
              omega (arith, shorter, ap (λ cs. (get_or cs 0 first).size) is) in
              let zero_is : v ≡ 0 = lighter_before numbers is_nothing Decides-is_nothing (λ c. c.size)
              (λ c. class_of mesh d c.walk) (loop_length mesh lengths tree e) (candidates mesh lengths trees) 0 first
              (candidates_rise mesh lengths trees surface positive chosen d split) some heavier v
              (in_from_spanned numbers _ _ covered) in
              let run = runs_loop mesh lengths surface tree
              (tree_is mesh lengths y (trees y) surface positive (chosen y y_in))
              (tree_short mesh lengths y (trees y) surface positive (chosen y y_in)) e e_in in
              let even : IsEven (primal s) (loop (primal s) tree e) =
              even_same (primal s) (loop (primal s) tree e) (parity mesh (loop_walk mesh tree e))
              (λ h l. sym (run.parities h l)) (closed_parity_even mesh surface (loop_walk mesh tree e) run.closed.is_closed)
              in
              absurd (essential (zero_null s d (surfaces_are_cells mesh surface).complex split
              (loop (primal s) tree e) even zero_is))
        ]

    pub first_each : (first : Loop) (rest : List Loop) → candidates mesh lengths trees ≡ first ∷ rest →
        IsLoopBelow mesh lengths trees mesh.vertices first
    first_each first rest is = let h : AllByRecursion (IsLoopBelow mesh lengths trees mesh.vertices) (first ∷ rest) =
        subst (AllByRecursion (IsLoopBelow mesh lengths trees mesh.vertices)) is
        (below_each mesh lengths trees mesh.vertices) in h.0

    pub first_shortest : (first : Loop) (rest : List Loop) → candidates mesh lengths trees ≡ first ∷ rest →
        IsShortestNonseparating mesh lengths first.walk
    first_shortest first rest is =
        let here = first_each first rest is in
        let x = first.base in
        let size : first.size ≡ loop_length mesh lengths (trees x).tree first.edge = ap (λ c. c.size) here.of.is in
        let one = least_loops_are_shortest_cycles mesh lengths (λ y. (trees y).tree) x first.edge surface positive
        shortest_trees here.base_in here.of.edge_in
        (left_essential x (trees x) (chosen x here.base_in) first.edge here.of.edge_in here.of.left)
        (λ y e y_in e_in essential. subst (λ n. n ≤ loop_length mesh lengths (trees y).tree e) size
        (first_least first rest is y e y_in e_in essential)) in
        subst (IsShortestNonseparating mesh lengths) (sym (ap (λ c. c.walk) here.of.is)) one

    some_candidate : (cs : List Loop) → candidates mesh lengths trees ≡ cs → 0 < length cs →
        mesh.vertices + face_count mesh < edge_count mesh + 2
    some_candidate [] is some = absurd (omega arith)
    some_candidate (first ∷ rest) is some =
        let here = first_each first rest is in
        let (k, l, e) = left_place (trees first.base) first.edge here.of.edge_in here.of.left in
        let count = left_count first.base (trees first.base) (chosen first.base here.base_in) in
        omega (arith, l, count)

    pub below_two : mesh.vertices + face_count mesh < edge_count mesh + 2 → 0 < length (candidates mesh lengths trees)
    below_two less =
        let base_in : 0 < mesh.vertices = some_vertex mesh surface in
        let count = left_count 0 (trees 0) (chosen 0 base_in) in
        let loops = loops_at mesh lengths 0 (trees 0) in
        let many : length (map (λ c. c.edge) loops) ≡ length (left_edges mesh (trees 0).tree (trees 0).cotree) =
        length_permutation (left_edges mesh (trees 0).tree (trees 0).cotree) (map (λ c. c.edge) loops)
        (edges_permute mesh lengths 0 (trees 0)) in
        let some : 0 < length loops = omega (arith, many, count, less, length-map loops (λ c. c.edge)) in
        has_some loops some (λ c h. below_contains mesh lengths trees mesh.vertices 0 base_in c h)
      where
        has_some : (loops : List Loop) → 0 < length loops →
            ((c : Loop) → Contains loops c → Contains (candidates mesh lengths trees) c) →
            0 < length (candidates mesh lengths trees)
        has_some [] some sub = absurd (omega arith)
        has_some (c ∷ cs) some sub = let at = sub c (0, omega arith, refl) in omega (arith, at.1)

    pub above_two : 0 < length (candidates mesh lengths trees) → mesh.vertices + face_count mesh < edge_count mesh + 2
    above_two some = some_candidate (candidates mesh lengths trees) refl some

    -- where there is a candidate, some simple cycle doesn't separate
    some_nonseparating : (cs : List Loop) → candidates mesh lengths trees ≡ cs → 0 < length cs →
        ((walk : List ℕ) → IsSimpleCycle mesh walk → Separation mesh walk) → ⊥
    some_nonseparating [] is some all = omega arith
    some_nonseparating (first ∷ rest) is some all =
        let good = (first_shortest first rest is).nonseparating in
        good.separates_not (all first.walk good.simple)

    pub all_separate : ((walk : List ℕ) → IsSimpleCycle mesh walk → Separation mesh walk) → IsLoopCount mesh 0
    all_separate all =
        let count = left_count 0 (trees 0) (chosen 0 (some_vertex mesh surface)) in
        elim (cases_lt (mesh.vertices + face_count mesh) (edge_count mesh + 2)) [
          | inl less ↦ absurd (some_nonseparating (candidates mesh lengths trees) refl (below_two less) all)
          | inr no_less ↦ omega arith
        ]

pub first_is_shortest : FirstIsShortest
first_is_shortest mesh lengths trees first rest surface positive chosen is = (
  first_shortest mesh lengths surface positive trees chosen first rest is,
  (runs mesh lengths trees surface positive chosen mesh.vertices (omega arith) first
      (first_each mesh lengths surface positive trees chosen first rest is)).1,
)

pub candidates_below_two : CandidatesBelowTwo
candidates_below_two mesh lengths trees surface positive chosen =
    (above_two mesh lengths surface positive trees chosen, below_two mesh lengths surface positive trees chosen)

-- the length 1 for each edge
units_positive : (mesh : Mesh) → ArePositive mesh (replicate (edge_count mesh) 1)
units_positive mesh e l = omega (arith, get_or-replicate {A = ℕ} (edge_count mesh) e 1 0 l)

pub simple_cycles_separate : SimpleCyclesSeparate
simple_cycles_separate mesh surface =
    let units = replicate (edge_count mesh) 1 in
    let (trees, chosen) = choice_exists mesh units surface (units_positive mesh) in (
      all_separate mesh units surface (units_positive mesh) trees chosen,
      λ full walk cycle. cycles_separate_on_sphere mesh surface full walk cycle,
    )
