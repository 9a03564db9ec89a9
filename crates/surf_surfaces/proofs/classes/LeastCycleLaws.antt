-- The least loop that is no boundary is a shortest nonseparating cycle.
use Rattle.surf_surfaces.proofs.Common.{◌≡◌, ◌≢◌, ℕ, zero, suc, ◌<◌, ◌≤◌, Bool, false, List, [], ◌∷◌, length, get_or, refl, sym, ap, ◌∙◌, arith, inl, inr, AllPairs, cases_Bool, xor, any_below, Graph, IsGraphWalk, edge_between, walk_chain, graph_walk_length, edge_between_is, left_edges, joined_below, Mesh, IsClosed, parity, edge_length, first, walk_length, cells_of, loop_walk, loop_length, number_of, xor_pairs, any_below-found, any_below-none, IsSimple}
use Rattle.surf_graphs.specs.Cycles.{IsOff, IsDistinct, IsSimpleGraphCycle}
use Rattle.surf_graphs.specs.Cells.{Cells, primal, chain_signature, IsNullChain}
use Rattle.surf_graphs.proofs.Splitting.{nonnull_loop, simple_or_two}
use Rattle.surf_surfaces.specs.Cycle.{IsSimpleCycle, IsNonseparating, tail}
use Rattle.surf_surfaces.specs.CycleLaws.{CyclesBelowLoopsAreShortest, LeastLoopsAreShortestCycles, CyclesSeparateOnSphere}
use Rattle.surf_surfaces.proofs.meshes.CellLaws.{surfaces_are_cells}
use Rattle.surf_surfaces.proofs.walks.GraphWalkLaws.{graph_walk}
use Rattle.surf_surfaces.proofs.classes.ClassLaws.{runs_loop, some_split, null_by_class}
use Rattle.surf_surfaces.proofs.walks.CycleLaws.{null_to_graph, null_from_graph, null_cycles_separate, length-steps}

-- chains that are the sum of null chains are null
null_sum : (s : Cells) (c a b : ℕ → Bool) → ((e : ℕ) → c e ≡ xor (a e) (b e)) → IsNullChain s a → IsNullChain s b →
    IsNullChain s c
null_sum s c a b is x y = (
  (λ f. xor (x.0 f) (y.0 f)),
  (λ e in'. is e ∙ ap (λ t. xor t (b e)) (x.1 e in') ∙ ap (xor (xor (x.0 (s.near e)) (x.0 (s.far e))))
      (y.1 e in') ∙ xor_pairs (x.0 (s.near e)) (x.0 (s.far e)) (y.0 (s.near e)) (y.0 (s.far e))),
)

pub walk_positive : (g : Graph) (len : ℕ → ℕ) → ((e : ℕ) → e < g.edges → 1 ≤ len e) → (a b : ℕ) (w : List ℕ) →
    IsGraphWalk g a w b → 1 ≤ length w → 1 ≤ graph_walk_length g len a w
walk_positive g len positive a b [] walk some = absurd (omega arith)
walk_positive g len positive a b (c ∷ w) walk some =
    let at = edge_between_is g a c walk.0 in
    let one = positive (edge_between g a c) at.0 in
    omega (arith, one)

-- a least one of the closed walks that are not null is simple
pub least_simple : (s : Cells) (len : ℕ → ℕ) → IsSimple (primal s) → ((e : ℕ) → e < s.edges → s.tail e ≢ s.head e) →
    ((e : ℕ) → e < s.edges → 1 ≤ len e) →
    (a : ℕ) (w : List ℕ) → IsGraphWalk (primal s) a w a → (IsNullChain s (walk_chain (primal s) a w) → ⊥) →
    ((b : ℕ) (v : List ℕ) → IsGraphWalk (primal s) b v b → (IsNullChain s (walk_chain (primal s) b v) → ⊥) →
    graph_walk_length (primal s) len a w ≤ graph_walk_length (primal s) len b v) →
    IsSimpleGraphCycle (primal s) a w
least_simple s len one_edge differ positive a w walk some least =
    elim (cases_Bool (any_below s.edges (walk_chain (primal s) a w))) [
      | inl yes_edge ↦
          let r = any_below-found s.edges (walk_chain (primal s) a w) yes_edge in
          elim (simple_or_two (primal s) one_edge differ a w walk r.0 r.2) [
            | inl cycle ↦ cycle
            | inr two ↦
                let first_long = walk_positive (primal s) len positive a a two.first two.first_walk two.first_some in
                let second_long = walk_positive (primal s) len positive two.base two.base two.second two.second_walk
                two.second_some in
                let adds = two.long len in
                let first_null : (IsNullChain s (walk_chain (primal s) a two.first) → ⊥) → ⊥ = λ not_null. let no_less =
                least a two.first two.first_walk not_null in omega arith in
                let second_null : (IsNullChain s (walk_chain (primal s) two.base two.second) → ⊥) → ⊥ =
                λ not_null. let no_less = least two.base two.second two.second_walk not_null in omega arith in
                absurd (first_null (λ x. second_null
                (λ y. some (null_sum s (walk_chain (primal s) a w) (walk_chain (primal s) a two.first)
                (walk_chain (primal s) two.base two.second) two.edges x y))))
          ]
      | inr no_edge ↦ absurd
          (some ((λ f. false), (λ e in'. any_below-none s.edges (walk_chain (primal s) a w) no_edge e in')))
    ]

off_at : (m : ℕ) (xs : List ℕ) (k d : ℕ) → IsOff m xs → k < length xs → m ≢ get_or xs k d
off_at m [] k d h in' = absurd (omega arith)
off_at m (x ∷ xs) zero d h in' = h.0
off_at m (x ∷ xs) (suc k) d h in' = off_at m xs k d h.1 (omega arith)

distinct_pairs : (xs : List ℕ) → IsDistinct xs → AllPairs (λ u v. u ≢ v) xs
distinct_pairs [] h i j d lt in' = absurd (omega arith)
distinct_pairs (x ∷ xs) h i zero d lt in' = absurd (omega arith)
distinct_pairs (x ∷ xs) h zero (suc j) d lt in' = off_at x xs j d h.0 (omega arith)
distinct_pairs (x ∷ xs) h (suc i) (suc j) d lt in' = distinct_pairs xs h.1 i j d (omega arith) (omega arith)

-- a closed walk whose graph walk is simple is a simple cycle
pub simple_from_graph : (mesh : Mesh) (walk : List ℕ) → IsClosed mesh walk →
    IsSimpleGraphCycle (primal (cells_of mesh)) (first walk) (tail walk) → IsSimpleCycle mesh walk
simple_from_graph mesh [] closed cycle = absurd (omega (arith, closed.is_walk.begins))
simple_from_graph mesh (u ∷ rest) closed cycle =
    let many = length-steps u rest in
    record { closed = closed; three_steps = omega (arith, cycle.1, many); distinct = distinct_pairs rest cycle.2 }

pub cycles_below_loops_are_shortest : CyclesBelowLoopsAreShortest
cycles_below_loops_are_shortest mesh lengths trees walk surface short good below =
    record { nonseparating = good; shortest = shortest }
  where
    shortest : (other : List ℕ) → IsNonseparating mesh other →
        walk_length mesh lengths walk ≤ walk_length mesh lengths other
    shortest [] other = absurd (let c = other.simple.three_steps in omega arith)
    shortest (b ∷ rest) other =
        let s = cells_of mesh in
        let (d, split) = some_split mesh surface in
        let closed : IsClosed mesh (b ∷ rest) = other.simple.closed in
        let w = graph_walk mesh surface lengths (b ∷ rest) closed in
        let at_base : (trees b).rank b ≡ 0 =
        ap (λ x. (trees b).rank x) (sym (short.root b w.start_in)) ∙ (short.shortest b w.start_in).none_at_root in
        let some : IsNullChain s (walk_chain (primal s) b rest) → ⊥ =
        λ null. other.separates_not
        ((null_cycles_separate mesh surface (b ∷ rest) other.simple).0
        (null_from_graph mesh surface b rest closed null)) in
        let r = nonnull_loop s (edge_length lengths) d (surfaces_are_cells mesh surface).complex split (trees b)
        (short.shortest b w.start_in) b at_base rest w.closed some in
        let no_longer = below b r.0 w.start_in r.1 r.3 in
        omega (arith, r.2, w.size, no_longer)

pub least_loops_are_shortest_cycles : LeastLoopsAreShortestCycles
least_loops_are_shortest_cycles mesh lengths trees x l surface positive short x_in l_in some least =
    let s = cells_of mesh in
    let t = trees x in
    let cells = surfaces_are_cells mesh surface in
    let walk = loop_walk mesh t l in
    let runs = runs_loop mesh lengths surface t (short.is_tree x x_in) (short.shortest x x_in) l l_in in
    let closed : IsClosed mesh walk = runs.closed.is_closed in
    let w = graph_walk mesh surface lengths walk closed in
    let some_walk : IsNullChain s (walk_chain (primal s) t.root (tail walk)) → ⊥ =
    λ null. some (null.0, (λ e in'. sym (runs.parities e in') ∙ w.chain e in' ∙ null.1 e in')) in
    let cycle = least_simple s (edge_length lengths) cells.one_edge cells.ends_differ positive t.root
    (tail walk) w.closed some_walk (no_less (sym w.size ∙ runs.size)) in
    let is_simple : IsSimpleCycle mesh walk = simple_from_graph mesh walk closed cycle in
    let good : IsNonseparating mesh walk = record {
      simple = is_simple;
      separates_not = λ parted. some_walk
          (null_to_graph mesh surface t.root (tail walk) closed
          ((null_cycles_separate mesh surface walk is_simple).1 parted));
    } in
    cycles_below_loops_are_shortest mesh lengths trees walk surface short good (λ y e y_in e_in not_null.
    let at_most = least y e y_in e_in not_null in
    omega (arith, runs.size, at_most))
  where
    no_less : graph_walk_length (primal (cells_of mesh)) (edge_length lengths) (trees x).root
        (tail (loop_walk mesh (trees x) l)) ≡ loop_length mesh lengths (trees x) l →
        (b : ℕ) (v : List ℕ) → IsGraphWalk (primal (cells_of mesh)) b v b →
        (IsNullChain (cells_of mesh) (walk_chain (primal (cells_of mesh)) b v) → ⊥) →
        graph_walk_length (primal (cells_of mesh)) (edge_length lengths) (trees x).root (tail (loop_walk mesh (trees x) l)) ≤
        graph_walk_length (primal (cells_of mesh)) (edge_length lengths) b v
    no_less sized b [] walk not_null = absurd (not_null ((λ f. false), (λ e in'. refl)))
    no_less sized b (c ∷ v) walk not_null =
        let s = cells_of mesh in
        let (d, split) = some_split mesh surface in
        let cells = (surfaces_are_cells mesh surface).complex in
        let b_in = joined_below (primal s) cells.primal_ends b c walk.0 in
        let at_base : (trees b).rank b ≡ 0 =
        ap (λ n. (trees b).rank n) (sym (short.root b b_in)) ∙ (short.shortest b b_in).none_at_root in
        let r = nonnull_loop s (edge_length lengths) d cells split (trees b) (short.shortest b b_in) b at_base
        (c ∷ v) walk not_null in
        let at_most = least b r.0 b_in r.1 r.3 in
        omega (arith, sized, at_most, r.2)

pub cycles_separate_on_sphere : CyclesSeparateOnSphere
cycles_separate_on_sphere mesh surface full walk cycle =
    let (d, split) = some_split mesh surface in
    let count = left_edges (cells_of mesh) d split in
    let none : length d.left ≡ 0 = omega arith in
    (null_cycles_separate mesh surface walk cycle).0
    ((null_by_class mesh d surface split walk cycle.closed).1
    (ap (λ n. number_of n (chain_signature (cells_of mesh) d (parity mesh walk))) none))
