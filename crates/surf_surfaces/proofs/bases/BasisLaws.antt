-- The basis that is chosen from the loops at all bases.
use Rattle.surf_surfaces.proofs.Common.{◌≡◌, ℕ, suc, ◌<◌, ◌≤◌, List, [], ◌∷◌, length, map, sum, All, refl, sym, ap, ◌∙◌, subst, arith, AllByRecursion, map-map, length-map, recursion_from_All, All-from_recursion, All-contains, greedy, merge, Decides-is_nothing, Split, IsSplit, signature_of, signed, Mesh, IsSurface, IsClosed, walk_length, ArePositive, cells_of, class_of, weighed_walk, weighed, numbers, is_nothing, Independent, weights, vectors, SpannedUpToWeight, greedy_law, two_step_law, IsSimpleCycle, Trees, AreChosen, Loop, comes_before, walks, loops_at, loops_below, candidates, AreNoLonger}
use Rattle.surf_z2.proofs.Least.{least_law}
use Rattle.surf_z2.proofs.Merge.{order_from_sorted, all_merged}
use Rattle.surf_surfaces.specs.Homology.{IsIndependent, IsBasis, total}
use Rattle.surf_surfaces.specs.Choice.{IsGreedyChoice, IsChosenBasis, IsKeptFrom, nothing, one_more}
use Rattle.surf_surfaces.specs.ChoiceLaws.{BasisIsLeast, BasisIsOne, BasisIsKeptBaseByBase}
use Rattle.surf_surfaces.proofs.classes.ClassLaws.{runs_loop, some_vertex, some_split, independent_by_classes}
use Rattle.surf_surfaces.proofs.classes.ClassLaws.{independent_walks_are_few}
use Rattle.surf_surfaces.proofs.classes.LeastLaws.{map-same, all_each, all_mapped}
use Rattle.surf_surfaces.proofs.classes.ShortSums.{spanned_no_longer}
use Rattle.surf_surfaces.proofs.bases.LoopsAtLaws.{IsLoopAt, comes_before-trans, loops_each, tree_is, tree_short}
use Rattle.surf_surfaces.proofs.bases.LoopsAtLaws.{loops_are_least}
use Rattle.surf_surfaces.proofs.bases.CandidateLaws.{below-sorted, below_more}
use Rattle.surf_surfaces.proofs.bases.GreedyChoiceLaws.{AreClosed, choice_is_greedy, greedy_is_choice}
use Rattle.surf_surfaces.proofs.bases.CoveredLaws.{all_chosen, below_closed, below_sized, weighed_loops, walk_covered}
use Rattle.surf_surfaces.proofs.bases.CoveredLaws.{candidates_rise}
use Rattle.surf_surfaces.proofs.bases.SimpleLaws.{basis_simple}

module _ (mesh : Mesh) (lengths : List ℕ) (trees : ℕ → Trees) (surface : IsSurface mesh)
    (positive : ArePositive mesh lengths) (chosen_trees : AreChosen mesh lengths trees) where
  module _ (d : Split) (split : IsSplit (cells_of mesh) d) where
    all_covered : (ws : List (List ℕ)) → AllByRecursion (IsClosed mesh) ws →
        All (SpannedUpToWeight numbers
        (weighed (λ c. c.size) (λ c. class_of mesh d c.walk) (candidates mesh lengths trees)))
        (map (signed (cells_of mesh) d) (map (weighed_walk mesh lengths) ws))
    all_covered ws closed =
        let s = cells_of mesh in
        let cs = weighed (λ c. c.size) (λ c. class_of mesh d c.walk) (candidates mesh lengths trees) in
        All-from_recursion (SpannedUpToWeight numbers cs) (map (signed s d) (map (weighed_walk mesh lengths) ws))
        (all_mapped (SpannedUpToWeight numbers cs) (signed s d) (map (weighed_walk mesh lengths) ws)
        (all_mapped (λ w. SpannedUpToWeight numbers cs (signed s d w)) (weighed_walk mesh lengths) ws
        (all_each (IsClosed mesh) (λ w. SpannedUpToWeight numbers cs (signed s d (weighed_walk mesh lengths w))) ws
        (walk_covered mesh lengths trees surface positive chosen_trees d split) closed)))

    classes : (ws : List (List ℕ)) → vectors (map (signed (cells_of mesh) d) (map (weighed_walk mesh lengths) ws))
        ≡ map (class_of mesh d) ws
    classes ws = map-map (λ x. x.vector) (signed (cells_of mesh) d) (map (weighed_walk mesh lengths) ws) ∙ map-map
        (λ w. signature_of (cells_of mesh) d w.vector) (weighed_walk mesh lengths) ws

    sizes_of : (ws : List (List ℕ)) → weights (map (signed (cells_of mesh) d) (map (weighed_walk mesh lengths) ws))
        ≡ map (walk_length mesh lengths) ws
    sizes_of ws = map-map (λ x. x.weight) (signed (cells_of mesh) d) (map (weighed_walk mesh lengths) ws) ∙ map-map
        (λ w. w.weight) (weighed_walk mesh lengths) ws

    count_of : (ws : List (List ℕ)) → length (map (signed (cells_of mesh) d) (map (weighed_walk mesh lengths) ws))
        ≡ length ws
    count_of ws = length-map (map (weighed_walk mesh lengths) ws) (signed (cells_of mesh) d) ∙ length-map ws
        (weighed_walk mesh lengths)

    module _ (basis : List Loop) (is : IsChosenBasis mesh lengths trees basis) where
      pub basis_is : basis ≡ greedy numbers is_nothing (λ c. class_of mesh d c.walk) (candidates mesh lengths trees)
      basis_is = choice_is_greedy mesh d surface split (candidates mesh lengths trees)
          (below_closed mesh lengths trees surface positive chosen_trees mesh.vertices (omega arith)) basis is

      basis_closed : AllByRecursion (IsClosed mesh) (walks basis)
      basis_closed = all_mapped (IsClosed mesh) (λ c. c.walk) basis
          (subst (AreClosed mesh) (sym is.are_kept)
          (all_chosen (λ c. IsClosed mesh c.walk) is.keep (candidates mesh lengths trees)
          (below_closed mesh lengths trees surface positive chosen_trees mesh.vertices (omega arith))))

      pub basis_sized : AllByRecursion (λ c. walk_length mesh lengths c.walk ≡ c.size) basis
      basis_sized = subst (AllByRecursion (λ c. walk_length mesh lengths c.walk ≡ c.size)) (sym is.are_kept)
          (all_chosen (λ c. walk_length mesh lengths c.walk ≡ c.size) is.keep (candidates mesh lengths trees)
          (below_sized mesh lengths trees surface positive chosen_trees mesh.vertices (omega arith)))

      basis_independent : IsIndependent mesh (walks basis)
      basis_independent =
          let law = greedy_law numbers is_nothing Decides-is_nothing (λ c. class_of mesh d c.walk) in
          let free : Independent numbers (map (λ c. class_of mesh d c.walk) basis) =
          subst (λ cs. Independent numbers (map (λ c. class_of mesh d c.walk) cs)) (sym basis_is)
          (law.independent (candidates mesh lengths trees)) in
          (independent_by_classes mesh d surface split (walks basis)
          (All-from_recursion (IsClosed mesh) (walks basis) basis_closed)).1
          (subst (Independent numbers) (sym (map-map (class_of mesh d) (λ c. c.walk) basis)) free)

      -- no independent closed walks are more than the basis has loops
      pub basis_is_full : (ws : List (List ℕ)) → AllByRecursion (IsClosed mesh) ws → IsIndependent mesh ws →
          length ws ≤ length basis
      basis_is_full ws closed free =
          let law = least_law numbers is_nothing Decides-is_nothing (λ c. c.size) (λ c. class_of mesh d c.walk) in
          let ys = map (signed (cells_of mesh) d) (map (weighed_walk mesh lengths) ws) in
          let bound : length ys ≤ length
          (greedy numbers is_nothing (λ c. class_of mesh d c.walk) (candidates mesh lengths trees)) =
          law.as_many (candidates mesh lengths trees) ys
          (candidates_rise mesh lengths trees surface positive chosen_trees d split)
          (subst (Independent numbers) (sym (classes ws))
          ((independent_by_classes mesh d surface split ws (All-from_recursion (IsClosed mesh) ws closed)).0 free))
          (all_covered ws closed) in
          omega (arith, bound, count_of ws, ap length basis_is)

      pub basis_of : IsBasis mesh (walks basis)
      basis_of = record {
        closed = All-from_recursion (IsClosed mesh) (walks basis) basis_closed;
        count =
            let zero_in : 0 < mesh.vertices = some_vertex mesh surface in
            let loops = loops_are_least mesh lengths 0 (trees 0) surface positive (chosen_trees 0 zero_in) in
            let system = loops.least.is_system in
            let ws = walks (loops_at mesh lengths 0 (trees 0)) in
            let full = basis_is_full ws
            (recursion_from_All (IsClosed mesh) ws (λ k n l. (system.at_base k n l).is_closed)) system.independent in
            let few = independent_walks_are_few mesh surface (walks basis)
            (All-from_recursion (IsClosed mesh) (walks basis) basis_closed) basis_independent in
            let n = length-map basis (λ c. c.walk) in
            let count = system.count in
            omega arith;
        independent = basis_independent;
      }

      pub basis_least : (others : List (List ℕ)) → IsBasis mesh others →
          total mesh lengths (walks basis) ≤ total mesh lengths others
      basis_least others other =
          let law = least_law numbers is_nothing Decides-is_nothing (λ c. c.size) (λ c. class_of mesh d c.walk) in
          let ys = map (signed (cells_of mesh) d) (map (weighed_walk mesh lengths) others) in
          let a = basis_of.count in
          let b = other.count in
          let n = length-map basis (λ c. c.walk) in
          let bound = law.in_total (candidates mesh lengths trees) ys
          (candidates_rise mesh lengths trees surface positive chosen_trees d split)
          (subst (Independent numbers) (sym (classes others))
          ((independent_by_classes mesh d surface split others other.closed).0 other.independent))
          (all_covered others (recursion_from_All (IsClosed mesh) others other.closed))
          (omega (arith, count_of others, ap length basis_is)) in
          let ours : sum (map (λ c. c.size)
          (greedy numbers is_nothing (λ c. class_of mesh d c.walk) (candidates mesh lengths trees)))
          ≡ total mesh lengths (walks basis) =
          ap (λ cs. sum (map (λ c. c.size) cs)) (sym basis_is) ∙ ap sum
          (sym (map-map (walk_length mesh lengths) (λ c. c.walk) basis ∙ map-same (λ c. walk_length mesh lengths c.walk)
          (λ c. c.size) basis basis_sized)) in
          let theirs : sum (weights ys) ≡ total mesh lengths others = ap sum (sizes_of others) in
          omega (arith, bound, ours, theirs)

      -- place by place no independent closed walks are shorter
      pub basis_no_longer : (others : List (List ℕ)) → All (IsClosed mesh) others → IsIndependent mesh others →
          AreNoLonger mesh lengths (walks basis) others
      basis_no_longer others closed free =
          let s = cells_of mesh in
          let size : Loop → ℕ = λ c. c.size in
          let class : Loop → ℕ = λ c. class_of mesh d c.walk in
          let cs = candidates mesh lengths trees in
          let law = least_law numbers is_nothing Decides-is_nothing size class in
          let same : weighed size class (greedy numbers is_nothing class cs)
          ≡ map (signed s d) (map (weighed_walk mesh lengths) (walks basis)) =
          ap (weighed size class) (sym basis_is)
          ∙ sym (weighed_loops mesh lengths trees surface positive chosen_trees d split basis basis_sized) in
          spanned_no_longer mesh lengths d surface split (walks basis) others closed free (λ w at.
          let y = signed s d (weighed_walk mesh lengths w) in
          subst (λ xs. SpannedUpToWeight numbers xs y) same
          (law.suffices cs (y ∷ []) (candidates_rise mesh lengths trees surface positive chosen_trees d split)
          (All-from_recursion (SpannedUpToWeight numbers (weighed size class cs)) (y ∷ []) (
            walk_covered mesh lengths trees surface positive chosen_trees d split w
                (All-contains (IsClosed mesh) others w closed at),
            tt,
          )) 0 y (omega arith)))

    -- ---- base by base

    pub greedy_closed : (loops : List Loop) → AreClosed mesh loops →
        AreClosed mesh (greedy numbers is_nothing (λ c. class_of mesh d c.walk) loops)
    greedy_closed loops closed =
        let some = (greedy_law numbers is_nothing Decides-is_nothing (λ c. class_of mesh d c.walk)).some loops in
        subst (AreClosed mesh) (sym some.1) (all_chosen (λ c. IsClosed mesh c.walk) some.0 loops closed)

    pub at_closed : (n : ℕ) → n < mesh.vertices → AreClosed mesh (loops_at mesh lengths n (trees n))
    at_closed n l = all_each (IsLoopAt mesh lengths n (trees n)) (λ c. IsClosed mesh c.walk)
        (loops_at mesh lengths n (trees n)) (λ c h.
        let at = chosen_trees n l in
        let run = runs_loop mesh lengths surface (trees n).tree (tree_is mesh lengths n (trees n) surface positive at)
        (tree_short mesh lengths n (trees n) surface positive at) c.edge h.edge_in in
        subst (IsClosed mesh) (sym (ap (λ k. k.walk) h.is)) run.closed.is_closed) (loops_each mesh lengths n (trees n))

    -- one more base
    step : (n : ℕ) (kept next : List Loop) → n < mesh.vertices →
        kept ≡ greedy numbers is_nothing (λ c. class_of mesh d c.walk) (loops_below mesh lengths trees n) →
        IsGreedyChoice mesh (merge comes_before kept (loops_at mesh lengths n (trees n))) next →
        next ≡ greedy numbers is_nothing (λ c. class_of mesh d c.walk) (loops_below mesh lengths trees (suc n))
    step n kept next l kept_is choice =
        let now = loops_below mesh lengths trees n in
        let at = loops_at mesh lengths n (trees n) in
        let closed : AreClosed mesh (merge comes_before kept at) =
        all_merged comes_before comes_before-trans (λ c. IsClosed mesh c.walk) kept at
        (subst (AreClosed mesh) (sym kept_is)
        (greedy_closed now (below_closed mesh lengths trees surface positive chosen_trees n (omega arith))))
        (at_closed n l) in
        choice_is_greedy mesh d surface split (merge comes_before kept at) closed next choice
        ∙ ap (λ ks. greedy numbers is_nothing (λ c. class_of mesh d c.walk) (merge comes_before ks at)) kept_is
        ∙ two_step_law numbers is_nothing Decides-is_nothing (λ c. class_of mesh d c.walk) comes_before
        comes_before-trans now at (order_from_sorted comes_before now (below-sorted mesh lengths trees n))
        ∙ ap (greedy numbers is_nothing (λ c. class_of mesh d c.walk)) (sym (below_more mesh lengths trees n))

    pub kept_is_greedy : {n : ℕ} {kept : List Loop} → IsKeptFrom mesh lengths trees n kept → n ≤ mesh.vertices →
        kept ≡ greedy numbers is_nothing (λ c. class_of mesh d c.walk) (loops_below mesh lengths trees n)
    kept_is_greedy nothing le = refl
    kept_is_greedy (one_more {bases} {kept} {next} before choice) le =
        step bases kept next (omega arith) (kept_is_greedy before (omega arith)) choice

pub basis_is_least : BasisIsLeast
basis_is_least mesh lengths trees basis surface positive chosen_trees is =
    let (d, split) = some_split mesh surface in
    record {
      least = record {
        is_basis = basis_of mesh lengths trees surface positive chosen_trees d split basis is;
        least =
            basis_least mesh lengths trees surface positive chosen_trees d split basis is;
      };
      least_in_order = record {
        is_basis = basis_of mesh lengths trees surface positive chosen_trees d split basis is;
        least = basis_no_longer mesh lengths trees surface positive chosen_trees d split basis is;
      };
      simple = All-from_recursion (IsSimpleCycle mesh) (walks basis)
          (basis_simple mesh lengths trees surface positive chosen_trees d split basis is);
      sizes = All-from_recursion (λ c. walk_length mesh lengths c.walk ≡ c.size) basis
          (basis_sized mesh lengths trees surface positive chosen_trees d split basis is);
    }

pub basis_is_one : BasisIsOne
basis_is_one mesh lengths trees surface positive chosen_trees =
    let (d, split) = some_split mesh surface in
    let closed = below_closed mesh lengths trees surface positive chosen_trees mesh.vertices (omega arith) in (
      greedy numbers is_nothing (λ c. class_of mesh d c.walk) (candidates mesh lengths trees),
      greedy_is_choice mesh d surface split (candidates mesh lengths trees) closed,
      λ other h. choice_is_greedy mesh d surface split (candidates mesh lengths trees) closed other h,
    )

pub basis_is_kept_base_by_base : BasisIsKeptBaseByBase
basis_is_kept_base_by_base mesh lengths trees kept surface positive chosen_trees h =
    let (d, split) = some_split mesh surface in
    let is = kept_is_greedy mesh lengths trees surface positive chosen_trees d split h (omega arith) in
    subst (IsChosenBasis mesh lengths trees) (sym is)
    (greedy_is_choice mesh d surface split (candidates mesh lengths trees)
    (below_closed mesh lengths trees surface positive chosen_trees mesh.vertices (omega arith)))
