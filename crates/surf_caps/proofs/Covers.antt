-- What the loops that were found span, where each vertex is searched up to places of its own.
use Rattle.surf_surfaces.proofs.Common.{◌≡◌, ℕ, zero, suc, ◌<◌, ◌≤◌, Bool, true, leb, ltb, List, [], ◌∷◌, map, filter, All, Contains, bit_xor, sym, ap, ◌∙◌, subst, arith, inl, inr, AllByRecursion, cases_Bool, leb-true, lt-ltb, ltb-true, recursion_from_All, All-contains, numbers, is_nothing, difference, Decides-is_nothing, InSpan, AllInSpan, add_in, trans_in, in_from_spanned, primal, Split, IsSplit, Graph, IsGraphWalk, walk_chain, graph_walk_length, edge_between, signature_of, Tree, loop, edge_between_is, signature_of-same, signature_of-linear, Mesh, edge_count, IsSurface, tail, first, IsClosed, edge_length, parity, walk_length, ArePositive, cells_of, class_of, AreShortestTrees, loop_walk, loop_length, Trees, AreChosen, Loop, candidates, DependsOn, spans, up_to_weighed, all_passing, in_wider, least_base, Place, is_no_later, place_at, Found, place_of_found, place_of_loop, is_within, walks_within, DependsAtPlace}
use Rattle.surf_z2.proofs.Greedy.{in_from_spans, not_in_from_spans}
use Rattle.surf_graphs.proofs.Through.{two_parts}
use Rattle.surf_surfaces.proofs.bases.CoveredLaws.{walk_covered}
use Rattle.surf_surfaces.proofs.bases.CandidateLaws.{IsLoopBelow, below_each}
use Rattle.surf_surfaces.proofs.meshes.CellLaws.{surfaces_are_cells}
use Rattle.surf_surfaces.proofs.bases.ChoiceExists.{choice_exists}
use Rattle.surf_surfaces.proofs.classes.ClassLaws.{some_split, runs_loop}
use Rattle.surf_surfaces.proofs.bases.FewBasesLaws.{no_later_from, no_later-trans, is_loop_within, least_base_on_way, loop_class, walk_at_spanned, found_within, candidates_within}
use Rattle.surf_surfaces.proofs.bases.FirstCycleLaws.{shortest_trees}
use Rattle.surf_surfaces.proofs.bases.FirstFoundLaws.{loop_closed}
use Rattle.surf_surfaces.proofs.walks.GraphWalkLaws.{graph_walk}
use Rattle.surf_surfaces.proofs.bases.GreedyChoiceLaws.{spanned_from_depends}
use Rattle.surf_surfaces.proofs.classes.LeastLaws.{all_each}
use Rattle.surf_firsts.specs.Near.{IsSoughtFromStart}
use Rattle.surf_caps.specs.Heights.{IsSumOfShorter}
use Rattle.surf_caps.proofs.Over.{depends_within, over_vertex}
use Rattle.surf_caps.specs.Caps.{Sought, AreSoughtFromStart, MeetsUpTo, place_of_walk, IsFoundBy, AreEnoughFor, WalksDependOnEnough, LoopsDependOnEnough, EnoughEverywhere}

-- a walk is no longer by lengths none of which is above others
pub no_longer_by : (g : Graph) (len other : ℕ → ℕ) → ((e : ℕ) → e < g.edges → len e ≤ other e) → (a : ℕ) (w : List ℕ)
    (b : ℕ) → IsGraphWalk g a w b → graph_walk_length g len a w ≤ graph_walk_length g other a w
no_longer_by g len other less a [] b h = omega arith
no_longer_by g len other less a (c ∷ w) b h =
    let m = edge_between g a c in
    let step = edge_between_is g a c h.0 in
    let here = less m step.0 in
    let rest = no_longer_by g len other less c w b h.1 in
    omega (arith, here, rest)

-- what is shorter comes no later
shorter_no_later : (a b c d : ℕ) → a < c → is_no_later (a, b) (c, d) ≡ true
shorter_no_later a b c d l = no_later_from a b c d (omega arith) (λ same. absurd (omega arith))

module _ (mesh : Mesh) (lengths : List ℕ) (searched : ℕ → Tree) (surface : IsSurface mesh)
    (positive : ArePositive mesh lengths) (shortest : AreShortestTrees mesh lengths searched) where
  pub positive_by : (other : List ℕ) → ((e : ℕ) → e < edge_count mesh → edge_length lengths e ≤ edge_length other e) →
      ArePositive mesh other
  positive_by other less e e_in =
      let one = positive e e_in in
      let more = less e e_in in
      omega (arith, one, more)

  -- what was found is a closed walk
  pub closed_by : (k : Found) → IsFoundBy mesh lengths k → IsClosed mesh k.walk
  closed_by k is = subst (IsClosed mesh) (sym is.loop.at.walk)
      (loop_closed mesh is.other is.trees surface is.shortest is.loop.from is.loop.edge is.loop.from_in is.loop.edge_in)

  pub all_closed_by : (ks : List Found) → All (IsFoundBy mesh lengths) ks → AllByRecursion (λ k. IsClosed mesh k.walk) ks
  all_closed_by ks all = all_each (IsFoundBy mesh lengths) (λ k. IsClosed mesh k.walk) ks closed_by
      (recursion_from_All (IsFoundBy mesh lengths) ks all)

  module _ (trees : ℕ → Trees) (chosen : AreChosen mesh lengths trees) (d : Split) (split : IsSplit (cells_of mesh) d) where
    -- the classes of candidates that come no later than a place, and of those found
    abbrev pub first_candidates : Place → List ℕ
    first_candidates limit =
        candidates_within mesh lengths searched surface positive shortest trees chosen d split limit

    abbrev pub first_found : Place → List Found → List ℕ
    first_found limit found =
        found_within mesh lengths searched surface positive shortest trees chosen d split limit found

    -- a loop by lengths that are no less is a sum of candidates that come no later
    pub loop_by_in_candidates : (other : List ℕ) (by : ℕ → Tree) →
        ((e : ℕ) → e < edge_count mesh → edge_length lengths e ≤ edge_length other e) → AreShortestTrees mesh other by →
        (z e : ℕ) → z < mesh.vertices → e < edge_count mesh →
        InSpan numbers (first_candidates (place_at mesh other by z e)) (class_of mesh d (loop_walk mesh (by z) e))
    loop_by_in_candidates other by less short z e z_in e_in =
        let s = cells_of mesh in
        let cells = surfaces_are_cells mesh surface in
        let pos = positive_by other less in
        let y = least_base mesh by z e in
        let size = loop_length mesh other (by z) e in
        let xs = first_candidates (size, y) in
        let on_way = least_base_on_way mesh other by surface pos short z e z_in e_in in
        let parts = two_parts (primal s) (edge_length other) cells.complex.primal_ends cells.one_edge
        by short.root short.is_tree short.shortest y z e on_way.0 z_in e_in on_way.1 in
        let one_less = no_longer_by (primal s) (edge_length lengths) (edge_length other) less y parts.first y parts.first_walk in
        let two_less = no_longer_by (primal s) (edge_length lengths) (edge_length other) less y parts.second y parts.second_walk in
        let one_size = parts.first_size in
        let two_size = parts.second_size in
        let one = walk_at_spanned mesh lengths searched surface positive shortest trees chosen d split y parts.first size
        on_way.0 parts.first_walk (omega (arith, one_less, one_size)) in
        let two = walk_at_spanned mesh lengths searched surface positive shortest trees chosen d split y parts.second size
        on_way.0 parts.second_walk (omega (arith, two_less, two_size)) in
        let sum_is : signature_of s d (loop (primal s) (by z) e)
        ≡ bit_xor (signature_of s d (walk_chain (primal s) y parts.first))
        (signature_of s d (walk_chain (primal s) y parts.second)) =
        signature_of-same s d (loop (primal s) (by z) e)
        (difference (walk_chain (primal s) y parts.first) (walk_chain (primal s) y parts.second)) (λ h l. parts.edges h)
        ∙ (signature_of-linear s d).add (walk_chain (primal s) y parts.first) (walk_chain (primal s) y parts.second) in
        subst (InSpan numbers xs) (sym (loop_class mesh other by surface pos short d split z e z_in e_in ∙ sum_is))
        (add_in numbers xs (signature_of s d (walk_chain (primal s) y parts.first))
        (signature_of s d (walk_chain (primal s) y parts.second)) one two)

    -- so is what was found
    pub found_by_in_candidates : (k : Found) → IsFoundBy mesh lengths k →
        InSpan numbers (first_candidates (place_of_found k)) (class_of mesh d k.walk)
    found_by_in_candidates k by =
        let is = by.loop in
        let place : place_at mesh by.other by.trees is.from is.edge ≡ (k.size, k.through) =
        ap (λ a. (a, least_base mesh by.trees is.from is.edge)) (sym is.at.size)
        ∙ ap (λ b. (k.size, b)) (sym is.at.through) in
        subst (λ p. InSpan numbers (first_candidates p) (class_of mesh d k.walk)) place
        (subst (λ w. InSpan numbers (first_candidates (place_at mesh by.other by.trees is.from is.edge)) (class_of mesh d w))
        (sym is.at.walk)
        (loop_by_in_candidates by.other by.trees by.no_less by.shortest is.from is.edge is.from_in is.edge_in))

    -- a sum of shorter closed walks is a sum of shorter candidates
    pub sum_of_shorter : (walk : List ℕ) → IsSumOfShorter mesh lengths walk →
        InSpan numbers (map (λ c. class_of mesh d c.walk)
        (filter (λ c. ltb c.size (walk_length mesh lengths walk)) (candidates mesh lengths trees))) (class_of mesh d walk)
    sum_of_shorter walk is =
        let cs = candidates mesh lengths trees in
        let size = walk_length mesh lengths walk in
        let xs = map (λ c. class_of mesh d c.walk) (filter (λ c. ltb c.size size) cs) in
        let closed = recursion_from_All (IsClosed mesh) is.others is.closed in
        let shorter = recursion_from_All (λ w. walk_length mesh lengths w < size) is.others is.shorter in
        trans_in numbers xs (map (class_of mesh d) is.others) (class_of mesh d walk) (each is.others closed shorter)
        (in_from_spanned numbers (map (class_of mesh d) is.others) (class_of mesh d walk)
        (spanned_from_depends mesh d surface split is.others walk is.sum))
      where
        one : (w : List ℕ) → IsClosed mesh w → walk_length mesh lengths w < walk_length mesh lengths walk →
            InSpan numbers (map (λ c. class_of mesh d c.walk)
            (filter (λ c. ltb c.size (walk_length mesh lengths walk)) (candidates mesh lengths trees))) (class_of mesh d w)
        one w closed less =
            let cs = candidates mesh lengths trees in
            let own = walk_length mesh lengths w in
            let below = subst (λ vs. InSpan numbers vs (class_of mesh d w))
            (up_to_weighed numbers is_nothing Decides-is_nothing (λ c. c.size) (λ c. class_of mesh d c.walk) own cs)
            (in_from_spanned numbers _ _ (walk_covered mesh lengths trees surface positive chosen d split w closed)) in
            in_wider numbers (λ c. class_of mesh d c.walk) (λ c. leb c.size own)
            (λ c. ltb c.size (walk_length mesh lengths walk))
            (λ c fits. let l = leb-true c.size own fits in lt-ltb c.size (walk_length mesh lengths walk) (omega arith)) cs
            (class_of mesh d w) below

        each : (ws : List (List ℕ)) → AllByRecursion (IsClosed mesh) ws →
            AllByRecursion (λ w. walk_length mesh lengths w < walk_length mesh lengths walk) ws →
            AllInSpan numbers (map (λ c. class_of mesh d c.walk)
            (filter (λ c. ltb c.size (walk_length mesh lengths walk)) (candidates mesh lengths trees)))
            (map (class_of mesh d) ws)
        each [] closed shorter = tt
        each (w ∷ ws) closed shorter = (one w closed.0 shorter.0, each ws closed.1 shorter.1)

    module _ (target : Place → Bool) (sought : Sought) (from_start : IsSoughtFromStart target)
        (all_from_start : AreSoughtFromStart sought) (meets : MeetsUpTo mesh lengths target sought) (found : List Found)
        (enough : AreEnoughFor mesh lengths searched sought found) where
      -- a closed walk over a vertex where its place is sought is a sum of those found that come no later
      walk_over : (x : ℕ) (rest : List ℕ) (z : ℕ) → IsClosed mesh (x ∷ rest) → Contains (x ∷ rest) z →
          sought z (place_of_walk mesh lengths (x ∷ rest)) ≡ true →
          InSpan numbers (first_found (place_of_walk mesh lengths (x ∷ rest)) found) (class_of mesh d (x ∷ rest))
      walk_over x rest z closed over is_sought =
          let s = cells_of mesh in
          let limit = place_of_walk mesh lengths (x ∷ rest) in
          let w = graph_walk mesh surface lengths (x ∷ rest) closed in
          let z_in : z < mesh.vertices =
          All-contains (λ v. v < mesh.vertices) (x ∷ rest) z closed.is_walk.vertices over in
          let no_longer = w.size in
          subst (InSpan numbers (first_found limit found))
          (signature_of-same s d (walk_chain (primal s) x rest) (parity mesh (x ∷ rest)) (λ e l. sym (w.chain e l)))
          (over_vertex mesh lengths searched surface positive shortest d split sought all_from_start found enough x
          (walk_length mesh lengths (x ∷ rest)) z rest w.start_in z_in is_sought w.closed over
          (omega (arith, no_longer)))

      -- so is each candidate, whether it is a sum of shorter ones or not
      candidate_below : (n : ℕ) (c : Loop) → IsLoopBelow mesh lengths trees mesh.vertices c → c.size < n →
          target (place_of_loop c) ≡ true → InSpan numbers (first_found (place_of_loop c) found) (class_of mesh d c.walk)
      candidate_below zero c h less is_target = absurd (omega arith)
      candidate_below (suc n) c h less is_target =
          let cs = candidates mesh lengths trees in
          let v = class_of mesh d c.walk in
          let place = place_of_loop c in
          let shorter = map (λ k. class_of mesh d k.walk) (filter (λ k. ltb k.size c.size) cs) in
          let at = chosen c.base h.base_in in
          let own = shortest_trees mesh lengths surface positive trees chosen in
          let tree = (trees c.base).tree in
          let run = runs_loop mesh lengths surface tree (own.is_tree c.base h.base_in) (own.shortest c.base h.base_in)
          c.edge h.of.edge_in in
          let walk_is : c.walk ≡ loop_walk mesh tree c.edge = ap (λ k. k.walk) h.of.is in
          let size_is : walk_length mesh lengths (loop_walk mesh tree c.edge) ≡ c.size =
          run.size ∙ sym (ap (λ k. k.size) h.of.is) in
          let place_is : place_of_walk mesh lengths (loop_walk mesh tree c.edge) ≡ place =
          ap (λ a. (a, tree.root)) size_is ∙ ap (λ b. (c.size, b)) at.shortest.root in
          elim (cases_Bool (spans numbers is_nothing shorter v)) [
            | inl old ↦
                trans_in numbers (first_found place found) shorter v
                (all_passing numbers (λ k. class_of mesh d k.walk) (first_found place found) (λ k. ltb k.size c.size) cs
                (all_each (IsLoopBelow mesh lengths trees mesh.vertices)
                (λ k. ltb k.size c.size ≡ true → InSpan numbers (first_found place found) (class_of mesh d k.walk)) cs
                (λ k below fits.
                let l = ltb-true k.size c.size fits in
                let sooner = shorter_no_later k.size k.base c.size c.base l in
                in_wider numbers (λ f. class_of mesh d f.walk) (is_within (place_of_loop k)) (is_within place)
                (λ f g. no_later-trans (place_of_found f) (place_of_loop k) place g sooner) found (class_of mesh d k.walk)
                (candidate_below n k below (omega arith) (from_start (place_of_loop k) place sooner is_target)))
                (below_each mesh lengths trees mesh.vertices)))
                (in_from_spans numbers is_nothing Decides-is_nothing shorter v old)
            | inr new ↦
                let walk = loop_walk mesh tree c.edge in
                let (z, over, is_sought) = meets walk run.closed.is_closed
                (subst (λ p. target p ≡ true) (sym place_is) is_target)
                (λ sum. not_in_from_spans numbers is_nothing Decides-is_nothing shorter v new
                (subst (λ w. InSpan numbers shorter (class_of mesh d w)) (sym walk_is)
                (subst (λ n. InSpan numbers
                (map (λ k. class_of mesh d k.walk) (filter (λ k. ltb k.size n) (candidates mesh lengths trees)))
                (class_of mesh d walk)) size_is (sum_of_shorter walk sum)))) in
                subst (λ w. InSpan numbers (first_found place found) (class_of mesh d w)) (sym walk_is)
                (subst (λ p. InSpan numbers (first_found p found) (class_of mesh d walk)) place_is
                (walk_over tree.root _ z run.closed.is_closed over is_sought))
          ]

      pub candidate_covered : (c : Loop) → IsLoopBelow mesh lengths trees mesh.vertices c →
          target (place_of_loop c) ≡ true → InSpan numbers (first_found (place_of_loop c) found) (class_of mesh d c.walk)
      candidate_covered c h is_target = candidate_below (suc c.size) c h (omega arith) is_target

      -- what is a sum of candidates that come no later than a place is one of those found that do
      place_depends : (place : Place) (walk : List ℕ) → IsClosed mesh walk → target place ≡ true →
          InSpan numbers (first_candidates place) (class_of mesh d walk) → DependsOn mesh (walks_within place found) walk
      place_depends place walk closed is_target here =
          let cs = candidates mesh lengths trees in
          depends_within mesh d surface split found (all_closed_by found enough.loops) place walk closed
          (trans_in numbers (first_found place found) (first_candidates place) (class_of mesh d walk)
          (all_passing numbers (λ c. class_of mesh d c.walk) (first_found place found) (is_loop_within place) cs
          (all_each (IsLoopBelow mesh lengths trees mesh.vertices)
          (λ c. is_loop_within place c ≡ true → InSpan numbers (first_found place found) (class_of mesh d c.walk)) cs
          (λ c below fits.
          in_wider numbers (λ f. class_of mesh d f.walk) (is_within (place_of_loop c)) (is_within place)
          (λ f g. no_later-trans (place_of_found f) (place_of_loop c) place g fits) found (class_of mesh d c.walk)
          (candidate_covered c below (from_start (place_of_loop c) place fits is_target)))
          (below_each mesh lengths trees mesh.vertices))) here)

      -- so each closed walk is
      pub walk_depends : (walk : List ℕ) → IsClosed mesh walk → target (place_of_walk mesh lengths walk) ≡ true →
          DependsOn mesh (walks_within (place_of_walk mesh lengths walk) found) walk
      walk_depends walk closed is_target =
          let s = cells_of mesh in
          let place = place_of_walk mesh lengths walk in
          let w = graph_walk mesh surface lengths walk closed in
          let size = w.size in
          let at = walk_at_spanned mesh lengths searched surface positive shortest trees chosen d split (first walk)
          (tail walk) (walk_length mesh lengths walk) w.start_in w.closed (omega (arith, size)) in
          place_depends place walk closed is_target (subst (InSpan numbers (first_candidates place))
          (signature_of-same s d (walk_chain (primal s) (first walk) (tail walk)) (parity mesh walk)
          (λ e l. sym (w.chain e l))) at)

      -- and each loop, by its place
      pub loop_depends : (other : List ℕ) (others : ℕ → Tree) →
          ((e : ℕ) → e < edge_count mesh → edge_length lengths e ≤ edge_length other e) →
          AreShortestTrees mesh other others → (z e : ℕ) → z < mesh.vertices → e < edge_count mesh →
          target (place_at mesh other others z e) ≡ true → DependsAtPlace mesh other others found z e
      loop_depends other others less short z e z_in e_in is_target =
          place_depends (place_at mesh other others z e) (loop_walk mesh (others z) e)
          (loop_closed mesh other others surface short z e z_in e_in) is_target
          (loop_by_in_candidates other others less short z e z_in e_in)

pub walks_depend_on_enough : WalksDependOnEnough
walks_depend_on_enough mesh lengths searched target sought found walk surface positive shortest start starts meets enough
    closed is_target =
    let (d, split) = some_split mesh surface in
    let (trees, chosen) = choice_exists mesh lengths surface positive in
    walk_depends mesh lengths searched surface positive shortest trees chosen d split target sought start starts meets
    found enough walk closed is_target

pub loops_depend_on_enough : LoopsDependOnEnough
loops_depend_on_enough mesh lengths searched target sought found other others z e surface positive shortest start starts
    meets enough less short z_in e_in is_target =
    let (d, split) = some_split mesh surface in
    let (trees, chosen) = choice_exists mesh lengths surface positive in
    loop_depends mesh lengths searched surface positive shortest trees chosen d split target sought start starts meets
    found enough other others less short z e z_in e_in is_target

pub enough_everywhere : EnoughEverywhere
enough_everywhere mesh lengths searched target sought found surface positive shortest start starts meets enough = record {
  loops = enough.loops;
  depend = λ z e z_in e_in is_target.
      loops_depend_on_enough mesh lengths searched target sought found lengths searched z e surface positive shortest start
      starts meets enough (λ h l. omega arith) shortest z_in e_in is_target;
}
