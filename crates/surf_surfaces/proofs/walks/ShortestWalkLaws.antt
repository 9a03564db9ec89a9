-- The shortest of what is least is a shortest closed walk that is not null.
use Rattle.surf_surfaces.proofs.Common.{◌≡◌, ℕ, zero, suc, ◌<◌, ◌≤◌, Bool, true, false, leb, List, [], ◌∷◌, length, map, get_or, Contains, refl, sym, ap, ◌∙◌, subst, arith, AllByRecursion, map-map, recursion_from_All, All-from_recursion, All-contains, chosen, sorted, Sorted, xor-false, IsGraphWalk, walk_chain, graph_walk_length, joined_below, Mesh, IsSurface, cells_of, Loop, comes_before, walks as walks_of, loops_at, candidates, primal, IsNullChain, IsClosed, IsClosedAt, edge_length, parity, walk_length, ArePositive, IsNull, IsIndependent, IsLeastLoopSystem, total_parity}
use Rattle.surf_z2.proofs.Counts.{Up}
use Rattle.surf_surfaces.specs.Cycle.{IsSimpleCycle, IsNonseparating, IsShortestNonseparating}
use Rattle.surf_surfaces.specs.Places.{lengths_in_order, IsShortestOf, IsShortestNotNull}
use Rattle.surf_surfaces.specs.PlaceLaws.{ChosenLoopsAreInOrder, ChosenLoopsAreLeastInOrder, ChosenBasisIsInOrder, ChosenBasisIsLeastInOrder, ShortestLoopsAreShortestNotNull, ShortestOfBasesAreShortestNotNull, ShortestNotNullIsNonseparating, LeastBasesMeasureShortest, BasesHaveShortest, FirstLoopIsShortestNotNull, FirstOfBasisIsShortestNotNull}
use Rattle.surf_surfaces.proofs.meshes.CellLaws.{surfaces_are_cells}
use Rattle.surf_surfaces.proofs.walks.GraphWalkLaws.{graph_walk, walks_are_graph_walks}
use Rattle.surf_surfaces.proofs.walks.CycleLaws.{null_to_graph, null_from_graph, null_cycles_separate}
use Rattle.surf_surfaces.proofs.classes.LeastCycleLaws.{least_simple, simple_from_graph}
use Rattle.surf_surfaces.proofs.classes.LeastLaws.{map-same, all_each, all_mapped}
use Rattle.surf_surfaces.proofs.bases.LoopsAtLaws.{loops_are_least, comes_before-size, loops-sorted, loops_sized}
use Rattle.surf_surfaces.proofs.bases.CandidateLaws.{below-sorted}
use Rattle.surf_surfaces.proofs.bases.CoveredLaws.{all_chosen, below_sized}
use Rattle.surf_surfaces.proofs.bases.BasisLaws.{basis_is_least, basis_is_one}
use Rattle.surf_surfaces.proofs.bases.ChoiceExists.{choice_exists}
use Rattle.surf_surfaces.proofs.classes.NoLongerLaws.{no_longer, shortest_is_first_in_order}
use Rattle.surf_surfaces.proofs.classes.OrderedNumbers.{sorted_is, placed_same, least_of}
use Rattle.surf_surfaces.proofs.classes.PlaceLaws.{loop_systems_are_least_in_order, bases_are_least_in_order}

-- ---- one walk

-- the choice of one place
choice_at : ℕ → List Bool
choice_at zero = true ∷ []
choice_at (suc k) = false ∷ choice_at k

chosen_at : {X : Type 0} (xs : List X) (k : ℕ) (x : X) → k < length xs → chosen (choice_at k) xs ≡ get_or xs k x ∷ []
unfolding choice_at
chosen_at [] k x l = absurd (omega arith)
chosen_at (y ∷ ys) zero x l = refl
chosen_at (y ∷ ys) (suc k) x l = chosen_at ys k x (omega arith)

-- no independent walk is null
pub independent_not_null : (mesh : Mesh) (ws : List (List ℕ)) → IsIndependent mesh ws → (w : List ℕ) →
    Contains ws w → IsNull mesh w → ⊥
independent_not_null mesh ws free w at null =
    let one : chosen (choice_at at.0) ws ≡ w ∷ [] = chosen_at ws at.0 w at.1 ∙ ap (λ v. v ∷ []) at.2 in
    let none = free (choice_at at.0)
    (null.0, λ e l. ap (λ vs. total_parity mesh vs e) one ∙ xor-false (parity mesh w e) ∙ null.1 e l) in
    let bad = ap length (sym one ∙ none) in
    omega (arith, bad)

-- a walk that is not null is independent by itself
pub not_null_independent : (mesh : Mesh) (w : List ℕ) → (IsNull mesh w → ⊥) → IsIndependent mesh (w ∷ [])
not_null_independent mesh w some [] null = refl
not_null_independent mesh w some (false ∷ []) null = refl
not_null_independent mesh w some (false ∷ b ∷ bs) null = refl
not_null_independent mesh w some (true ∷ []) null =
    absurd (some (null.0, λ e l. sym (xor-false (parity mesh w e)) ∙ null.1 e l))
not_null_independent mesh w some (true ∷ b ∷ bs) null =
    absurd (some (null.0, λ e l. sym (xor-false (parity mesh w e)) ∙ null.1 e l))

-- ---- the shortest of what is least

pub shortest_loops_are_shortest_not_null : ShortestLoopsAreShortestNotNull
shortest_loops_are_shortest_not_null mesh lengths base ws walk surface positive least is =
    let system = least.is_system in
    record {
      closed = All-contains (IsClosedAt mesh base) ws walk system.at_base is.is_one;
      not_null = independent_not_null mesh ws system.independent walk is.is_one;
      shortest = λ other closed some.
          let no_more = ((loop_systems_are_least_in_order mesh lengths base ws surface positive).0 least).least (other ∷ [])
          (All-from_recursion (IsClosedAt mesh base) (other ∷ []) (closed, tt)) (not_null_independent mesh other some) in
          let (w, at, low) = (no_longer mesh lengths ws (other ∷ [])).shortest no_more other (0, omega arith, refl) in
          let first = All-contains (λ v. walk_length mesh lengths walk ≤ walk_length mesh lengths v) ws w is.shortest at in
          omega (arith, low, first);
    }

pub shortest_of_bases_are_shortest_not_null : ShortestOfBasesAreShortestNotNull
shortest_of_bases_are_shortest_not_null mesh lengths ws walk surface positive least is =
    let basis = least.is_basis in
    record {
      closed = All-contains (IsClosed mesh) ws walk basis.closed is.is_one;
      not_null = independent_not_null mesh ws basis.independent walk is.is_one;
      shortest = λ other closed some.
          let no_more = ((bases_are_least_in_order mesh lengths ws surface positive).0 least).least (other ∷ [])
          (All-from_recursion (IsClosed mesh) (other ∷ []) (closed, tt)) (not_null_independent mesh other some) in
          let (w, at, low) = (no_longer mesh lengths ws (other ∷ [])).shortest no_more other (0, omega arith, refl) in
          let first = All-contains (λ v. walk_length mesh lengths walk ≤ walk_length mesh lengths v) ws w is.shortest at in
          omega (arith, low, first);
    }

-- a list of walks that is not empty has a shortest
pub some_shortest : (mesh : Mesh) (lengths : List ℕ) (ws : List (List ℕ)) → 0 < length ws →
    (walk : List ℕ) × IsShortestOf mesh lengths ws walk
some_shortest mesh lengths [] some = absurd (omega arith)
some_shortest mesh lengths (w ∷ ws) some =
    let (least, at, low) = least_of (walk_length mesh lengths) w ws in (
      least,
      record {
        is_one = at;
        shortest = All-from_recursion (λ v. walk_length mesh lengths least ≤ walk_length mesh lengths v) (w ∷ ws) low;
      },
    )

pub bases_have_shortest : BasesHaveShortest
bases_have_shortest mesh lengths ws basis below =
    let count = basis.count in
    some_shortest mesh lengths ws (omega arith)

-- ---- shortest nonseparating cycles

-- a nonseparating cycle is not null
nonseparating_not_null : (mesh : Mesh) → IsSurface mesh → (walk : List ℕ) → IsNonseparating mesh walk →
    IsNull mesh walk → ⊥
nonseparating_not_null mesh surface walk good null =
    good.separates_not ((null_cycles_separate mesh surface walk good.simple).0 null)

module _ (mesh : Mesh) (lengths : List ℕ) (surface : IsSurface mesh) (positive : ArePositive mesh lengths) where
  -- a shortest walk that is not null is a simple cycle
  shortest_simple : (u : ℕ) (rest : List ℕ) → IsShortestNotNull mesh lengths (u ∷ rest) → IsSimpleCycle mesh (u ∷ rest)
  shortest_simple u rest is =
      let s = cells_of mesh in
      let cells = surfaces_are_cells mesh surface in
      let w = graph_walk mesh surface lengths (u ∷ rest) is.closed in
      simple_from_graph mesh (u ∷ rest) is.closed
      (least_simple s (edge_length lengths) cells.one_edge cells.ends_differ positive u rest w.closed
      (λ null. is.not_null (null_from_graph mesh surface u rest is.closed null)) (no_less w.size))
    where
      no_less : walk_length mesh lengths (u ∷ rest)
          ≡ graph_walk_length (primal (cells_of mesh)) (edge_length lengths) u rest →
          (b : ℕ) (v : List ℕ) → IsGraphWalk (primal (cells_of mesh)) b v b →
          (IsNullChain (cells_of mesh) (walk_chain (primal (cells_of mesh)) b v) → ⊥) →
          graph_walk_length (primal (cells_of mesh)) (edge_length lengths) u rest ≤
          graph_walk_length (primal (cells_of mesh)) (edge_length lengths) b v
      no_less sized b [] walk not_null = absurd (not_null ((λ f. false), (λ e in'. refl)))
      no_less sized b (c ∷ v) walk not_null =
          let walks = walks_are_graph_walks mesh surface in
          let b_in = joined_below (primal (cells_of mesh)) (surfaces_are_cells mesh surface).complex.primal_ends b c
          walk.0 in
          let back = walks.from_walk b b (c ∷ v) b_in walk in
          let closed : IsClosed mesh (b ∷ c ∷ v) = record { is_walk = back.0; returns = sym back.1 } in
          let bound = is.shortest (b ∷ c ∷ v) closed
          (λ null. not_null (null_to_graph mesh surface b (c ∷ v) closed null)) in
          omega (arith, bound, sized, walks.sizes lengths b (c ∷ v) back.0)

  to_nonseparating : (walk : List ℕ) → IsShortestNotNull mesh lengths walk → IsShortestNonseparating mesh lengths walk
  to_nonseparating [] is = absurd (omega (arith, is.closed.is_walk.begins))
  to_nonseparating (u ∷ rest) is =
      let simple = shortest_simple u rest is in
      record {
        nonseparating = record {
          simple = simple;
          separates_not = λ parted. is.not_null ((null_cycles_separate mesh surface (u ∷ rest) simple).1 parted);
        };
        shortest = λ other good. is.shortest other good.simple.closed
            (nonseparating_not_null mesh surface other good);
      }

  from_nonseparating : (walk : List ℕ) → IsShortestNonseparating mesh lengths walk → IsShortestNotNull mesh lengths walk
  from_nonseparating walk is =
      let good = is.nonseparating in
      record {
        closed = good.simple.closed;
        not_null = nonseparating_not_null mesh surface walk good;
        shortest = λ other closed some.
            let (trees, chosen_trees) = choice_exists mesh lengths surface positive in
            let (basis, chosen_basis, unique) = basis_is_one mesh lengths trees surface positive chosen_trees in
            let least = (basis_is_least mesh lengths trees basis surface positive chosen_trees chosen_basis).least in
            let ws = walks_of basis in
            let no_more = ((bases_are_least_in_order mesh lengths ws surface positive).0 least).least (other ∷ [])
            (All-from_recursion (IsClosed mesh) (other ∷ []) (closed, tt)) (not_null_independent mesh other some) in
            let as_many = ((no_longer mesh lengths ws (other ∷ [])).in_order.0 no_more).as_many in
            let (first, is_first) = some_shortest mesh lengths ws (omega (arith, as_many)) in
            let shortest = shortest_of_bases_are_shortest_not_null mesh lengths ws first surface positive least is_first in
            let low = is.shortest first (to_nonseparating first shortest).nonseparating in
            let high = shortest.shortest other closed some in
            omega (arith, low, high);
      }

pub shortest_not_null_is_nonseparating : ShortestNotNullIsNonseparating
shortest_not_null_is_nonseparating mesh lengths walk surface positive =
    (to_nonseparating mesh lengths surface positive walk, from_nonseparating mesh lengths surface positive walk)

pub least_bases_measure_shortest : LeastBasesMeasureShortest
least_bases_measure_shortest mesh lengths ws surface positive least cycle is =
    let short = from_nonseparating mesh lengths surface positive cycle is in
    let no_more = ((bases_are_least_in_order mesh lengths ws surface positive).0 least).least (cycle ∷ [])
    (All-from_recursion (IsClosed mesh) (cycle ∷ []) (short.closed, tt))
    (not_null_independent mesh cycle short.not_null) in
    let as_many = ((no_longer mesh lengths ws (cycle ∷ [])).in_order.0 no_more).as_many in
    let (walk, at) = some_shortest mesh lengths ws (omega (arith, as_many)) in
    let shortest = shortest_of_bases_are_shortest_not_null mesh lengths ws walk surface positive least at in
    let low = shortest.shortest cycle short.closed short.not_null in
    let high = is.shortest walk (to_nonseparating mesh lengths surface positive walk shortest).nonseparating in
    let first = shortest_is_first_in_order mesh lengths ws walk at in
    omega (arith, low, high, first)

-- ---- what is chosen stands in order

-- of loops in order, the first is the shortest
first_shortest : (mesh : Mesh) (lengths : List ℕ) (first : Loop) (rest : List Loop) →
    AllByRecursion (λ c. comes_before first c ≡ true) rest →
    AllByRecursion (λ c. walk_length mesh lengths c.walk ≡ c.size) (first ∷ rest) →
    IsShortestOf mesh lengths (walks_of (first ∷ rest)) first.walk
first_shortest mesh lengths first rest before sized = record {
  is_one = (0, omega arith, refl);
  shortest = All-from_recursion (λ w. walk_length mesh lengths first.walk ≤ walk_length mesh lengths w)
      (walks_of (first ∷ rest)) (
        omega arith,
        all_mapped (λ w. walk_length mesh lengths first.walk ≤ walk_length mesh lengths w) (λ c. c.walk) rest
            (each rest before sized.1),
      );
}
  where
    each : (cs : List Loop) → AllByRecursion (λ c. comes_before first c ≡ true) cs →
        AllByRecursion (λ c. walk_length mesh lengths c.walk ≡ c.size) cs →
        AllByRecursion (λ c. walk_length mesh lengths first.walk ≤ walk_length mesh lengths c.walk) cs
    each [] h k = tt
    each (c ∷ cs) h k = (omega (arith, sized.0, k.0, comes_before-size first c h.0), each cs h.1 k.1)

pub first_loop_is_shortest_not_null : FirstLoopIsShortestNotNull
first_loop_is_shortest_not_null mesh lengths base trees first rest surface positive chosen_trees is =
    let order : Sorted comes_before (first ∷ rest) = subst (Sorted comes_before) is
    (loops-sorted mesh lengths base trees) in
    shortest_loops_are_shortest_not_null mesh lengths base (walks_of (first ∷ rest)) first.walk surface positive
    (subst (λ cs. IsLeastLoopSystem mesh lengths base (walks_of cs)) is
    (loops_are_least mesh lengths base trees surface positive chosen_trees).least)
    (first_shortest mesh lengths first rest order.0
    (subst (AllByRecursion (λ c. walk_length mesh lengths c.walk ≡ c.size)) is
    (loops_sized mesh lengths base trees surface positive chosen_trees)))

-- some of a list in order are in order
sorted_chosen : (keep : List Bool) (cs : List Loop) → Sorted comes_before cs → Sorted comes_before (chosen keep cs)
sorted_chosen [] cs h = tt
sorted_chosen (b ∷ bs) [] h = tt
sorted_chosen (true ∷ bs) (c ∷ cs) h =
    (all_chosen (λ d. comes_before c d ≡ true) bs cs h.0, sorted_chosen bs cs h.1)
sorted_chosen (false ∷ bs) (c ∷ cs) h = sorted_chosen bs cs h.1

-- loops in order stand in the order of their lengths
lengths_of_sorted : (mesh : Mesh) (lengths : List ℕ) (cs : List Loop) → Sorted comes_before cs →
    AllByRecursion (λ c. walk_length mesh lengths c.walk ≡ c.size) cs →
    lengths_in_order mesh lengths (walks_of cs) ≡ map (λ c. c.size) cs
lengths_of_sorted mesh lengths cs order sized =
    let same : map (walk_length mesh lengths) (walks_of cs) ≡ map (λ c. c.size) cs =
    map-map (walk_length mesh lengths) (λ c. c.walk) cs
    ∙ map-same (λ c. walk_length mesh lengths c.walk) (λ c. c.size) cs sized in
    ap (sorted leb) same ∙ sorted_is (map (λ c. c.size) cs) ∙ placed_same (map (λ c. c.size) cs) (up cs order)
  where
    up : (cs : List Loop) → Sorted comes_before cs → Up (map (λ c. c.size) cs)
    up [] h = tt
    up (c ∷ cs) h = (
      all_mapped (λ n. c.size ≤ n) (λ d. d.size) cs
          (all_each (λ d. comes_before c d ≡ true) (λ d. c.size ≤ d.size) cs (λ d b. comes_before-size c d b) h.0),
      up cs h.1,
    )

pub chosen_loops_are_in_order : ChosenLoopsAreInOrder
chosen_loops_are_in_order mesh lengths base trees surface positive chosen_trees =
    lengths_of_sorted mesh lengths (loops_at mesh lengths base trees) (loops-sorted mesh lengths base trees)
    (loops_sized mesh lengths base trees surface positive chosen_trees)

pub chosen_basis_is_in_order : ChosenBasisIsInOrder
chosen_basis_is_in_order mesh lengths trees basis surface positive chosen_trees is =
    lengths_of_sorted mesh lengths basis
    (subst (Sorted comes_before) (sym is.are_kept)
    (sorted_chosen is.keep (candidates mesh lengths trees) (below-sorted mesh lengths trees mesh.vertices)))
    (subst (AllByRecursion (λ c. walk_length mesh lengths c.walk ≡ c.size)) (sym is.are_kept)
    (all_chosen (λ c. walk_length mesh lengths c.walk ≡ c.size) is.keep (candidates mesh lengths trees)
    (below_sized mesh lengths trees surface positive chosen_trees mesh.vertices (omega arith))))

pub chosen_loops_are_least_in_order : ChosenLoopsAreLeastInOrder
chosen_loops_are_least_in_order mesh lengths base trees others surface positive chosen_trees closed free k l =
    let least = (loops_are_least mesh lengths base trees surface positive chosen_trees).least_in_order in
    let places = (no_longer mesh lengths (walks_of (loops_at mesh lengths base trees)) others).in_order.0
    (least.least others closed free) in
    rw (chosen_loops_are_in_order mesh lengths base trees surface positive chosen_trees) at (places.each k l)

pub chosen_basis_is_least_in_order : ChosenBasisIsLeastInOrder
chosen_basis_is_least_in_order mesh lengths trees basis others surface positive chosen_trees is closed free k l =
    let least = (basis_is_least mesh lengths trees basis surface positive chosen_trees is).least_in_order in
    let places = (no_longer mesh lengths (walks_of basis) others).in_order.0 (least.least others closed free) in
    rw (chosen_basis_is_in_order mesh lengths trees basis surface positive chosen_trees is) at (places.each k l)

pub first_of_basis_is_shortest_not_null : FirstOfBasisIsShortestNotNull
first_of_basis_is_shortest_not_null mesh lengths trees first rest surface positive chosen_trees is =
    let order : Sorted comes_before (first ∷ rest) = subst (Sorted comes_before) (sym is.are_kept)
    (sorted_chosen is.keep (candidates mesh lengths trees) (below-sorted mesh lengths trees mesh.vertices)) in
    let least = basis_is_least mesh lengths trees (first ∷ rest) surface positive chosen_trees is in
    shortest_of_bases_are_shortest_not_null mesh lengths (walks_of (first ∷ rest)) first.walk surface positive
    least.least
    (first_shortest mesh lengths first rest order.0
    (recursion_from_All (λ c. walk_length mesh lengths c.walk ≡ c.size) (first ∷ rest) least.sizes))
