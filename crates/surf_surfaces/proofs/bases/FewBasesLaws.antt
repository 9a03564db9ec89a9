-- Few bases suffice: what the loops that were found span, and what the candidates span.
use Rattle.std.proofs.Common.{◌≡◌, ℕ, ◌+◌, ◌<◌, ◌≤◌, Bool, true, false, ◌&&◌, eqb, leb, min, List, ◌∷◌, length, map, filter, take, get_or, bit_xor, All, sym, ap, ◌∙◌, subst, arith, inl, inr, ◌⊎◌, eqb-true}
use Rattle.surf_surfaces.proofs.Common.{cases_eq, cases_Bool, and_parts, leb-true, nat_tests, map-map, recursion_from_All, All-from_recursion, All-contains, Contains-get_or, numbers, is_nothing, difference, Spanned, SpannedUpToWeight, Decides-is_nothing, InSpan, AllInSpan, zero_in, add_in, trans_in, in_from_spanned, spanned_from_in, primal, Split, IsSplit, IsGraphWalk, walk_chain, graph_walk_length, signature_of, Tree, loop, Mesh, edge_count, ends, IsSurface, IsClosed, edge_length, parity, walk_length, ArePositive, cells_of, class_of, weighed_walk, AreShortestTrees, loop_walk, loop_length, Trees, AreChosen, Loop, comes_before, walks, loops_at, candidates, weighed, up_to_weighed, some_or_none, member_in, all_passing, passing_before, in_wider, signature_of-same, signature_of-linear, walk_spanned}
use Rattle.surf_graphs.proofs.Through.{over_spanned, two_parts}
use Rattle.surf_surfaces.specs.FewBases.{least_on_way, least_base, Place, is_no_later, place_at, Found, is_within, walks_within, MeetsAll, IsFoundLoop, AreEnough, HasFound, FewBasesSuffice}
use Rattle.surf_surfaces.proofs.bases.CoveredLaws.{weighed_loops, loops_covered_at}
use Rattle.surf_surfaces.proofs.bases.SimpleLaws.{basis_each}
use Rattle.surf_surfaces.proofs.bases.CandidateLaws.{IsLoopBelow, below-sorted, below_each, below_contains}
use Rattle.surf_surfaces.proofs.meshes.CellLaws.{surfaces_are_cells}
use Rattle.surf_surfaces.proofs.classes.ClassLaws.{runs_loop, some_split, null_by_class}
use Rattle.surf_surfaces.proofs.bases.FirstCycleLaws.{shortest_trees}
use Rattle.surf_surfaces.proofs.walks.GraphWalkLaws.{graph_walk}
use Rattle.surf_surfaces.proofs.bases.GreedyChoiceLaws.{spanned_from_depends}
use Rattle.surf_surfaces.proofs.bases.LoopsAtLaws.{IsLoopAt, comes_before-trans, comes_before-strict, loops_each, loops_sized}
use Rattle.surf_surfaces.proofs.walks.OnTheWayLaws.{on_way_at, least_found, least_no_greater}

-- ---- the order of places

pub no_later_from : (a b c d : ℕ) → a ≤ c → (a ≡ c → b ≤ d) → is_no_later (a, b) (c, d) ≡ true
no_later_from a b c d h k = grind (arith, nat_tests)

pub no_later-trans : (p q r : Place) → is_no_later p q ≡ true → is_no_later q r ≡ true → is_no_later p r ≡ true
no_later-trans p q r h k = grind (arith, nat_tests)

pub no_later-same : (p : Place) → is_no_later p p ≡ true
no_later-same p = no_later_from p.0 p.1 p.0 p.1 (omega arith) (λ same. omega arith)

-- what comes no later than a place, but is not there, is before what is there
pub earlier : (a b : ℕ) (c d : Loop) → is_no_later (d.size, d.base) (a, b) ≡ true →
    is_no_later (a, b) (c.size, c.base) ≡ true → (eqb a c.size && eqb b c.base) ≡ false → comes_before d c ≡ true
earlier a b c d h k off = grind (arith, nat_tests)

least_of_two : (a b : ℕ) → (min a b ≡ a) ⊎ (min a b ≡ b)
least_of_two a b = elim (cases_Bool (leb a b)) [
  | inl le ↦ let h = leb-true a b le in inl (omega arith)
  | inr gt ↦ inr (grind (arith, nat_tests))
]

-- whether a loop comes no later than a place
abbrev pub is_loop_within : Place → Loop → Bool
is_loop_within limit c = is_no_later (c.size, c.base) limit

module _ (mesh : Mesh) (lengths : List ℕ) (searched : ℕ → Tree) (surface : IsSurface mesh)
    (positive : ArePositive mesh lengths) (shortest : AreShortestTrees mesh lengths searched) where
  -- the least base is on the way to one of the two ends
  pub least_base_on_way : (z e : ℕ) → z < mesh.vertices → e < edge_count mesh → (least_base mesh searched z e < mesh.vertices)
      × ((((searched z).rank (least_base mesh searched z e) + (searched (least_base mesh searched z e)).rank (ends mesh e).0)
      ≡ (searched z).rank (ends mesh e).0)
      ⊎ (((searched z).rank (least_base mesh searched z e) + (searched (least_base mesh searched z e)).rank (ends mesh e).1)
      ≡ (searched z).rank (ends mesh e).1))
  least_base_on_way z e z_in e_in =
      let u = (ends mesh e).0 in
      let v = (ends mesh e).1 in
      let inside = (surfaces_are_cells mesh surface).complex.primal_ends e e_in in
      let a = least_found mesh lengths searched surface positive shortest z u inside.0 in
      let b = least_found mesh lengths searched surface positive shortest z v inside.1 in
      elim (least_of_two (least_on_way mesh searched z u) (least_on_way mesh searched z v)) [
        | inl is ↦ (
          subst (λ y. y < mesh.vertices) (sym is) a.0,
          inl (subst (λ y. (searched z).rank y + (searched y).rank u ≡ (searched z).rank u) (sym is)
              (on_way_at mesh lengths searched surface positive shortest z u (least_on_way mesh searched z u) a.1)),
        )
        | inr is ↦ (
          subst (λ y. y < mesh.vertices) (sym is) b.0,
          inr (subst (λ y. (searched z).rank y + (searched y).rank v ≡ (searched z).rank v) (sym is)
              (on_way_at mesh lengths searched surface positive shortest z v (least_on_way mesh searched z v) b.1)),
        )
      ]

  -- the least base is no greater than what is on the way to one of the two ends
  pub least_base_no_greater : (z e y : ℕ) → y < mesh.vertices →
      ((searched z).rank y + (searched y).rank (ends mesh e).0 ≡ (searched z).rank (ends mesh e).0)
      ⊎ ((searched z).rank y + (searched y).rank (ends mesh e).1 ≡ (searched z).rank (ends mesh e).1) →
      least_base mesh searched z e ≤ y
  least_base_no_greater z e y y_in (inl way) =
      let low = least_no_greater mesh lengths searched surface positive shortest z (ends mesh e).0 y y_in way in omega arith
  least_base_no_greater z e y y_in (inr way) =
      let low = least_no_greater mesh lengths searched surface positive shortest z (ends mesh e).1 y y_in way in omega arith

  module _ (d : Split) (split : IsSplit (cells_of mesh) d) where
    -- the class of a loop
    pub loop_class : (z e : ℕ) → z < mesh.vertices → e < edge_count mesh → class_of mesh d (loop_walk mesh (searched z) e)
        ≡ signature_of (cells_of mesh) d (loop (primal (cells_of mesh)) (searched z) e)
    loop_class z e z_in e_in =
        signature_of-same (cells_of mesh) d (parity mesh (loop_walk mesh (searched z) e))
        (loop (primal (cells_of mesh)) (searched z) e)
        (runs_loop mesh lengths surface (searched z) (shortest.is_tree z z_in) (shortest.shortest z z_in) e e_in).parities

    -- what spans the loops at the set's vertices that come no later than a closed walk spans that walk
    pub walk_in_span : (set : ℕ → Bool) → MeetsAll mesh set → (xs : List ℕ) (x : ℕ) (rest : List ℕ) →
        IsClosed mesh (x ∷ rest) →
        ((z e : ℕ) → z < mesh.vertices → set z ≡ true → e < edge_count mesh →
        is_no_later (place_at mesh lengths searched z e) (walk_length mesh lengths (x ∷ rest), x) ≡ true →
        InSpan numbers xs (class_of mesh d (loop_walk mesh (searched z) e))) →
        InSpan numbers xs (class_of mesh d (x ∷ rest))
    walk_in_span set meets xs x rest closed each = elim (cases_eq (class_of mesh d (x ∷ rest)) 0) [
      | inl zero_is ↦ subst (InSpan numbers xs) (sym zero_is) (zero_in numbers xs)
      | inr some ↦
          let s = cells_of mesh in
          let cells = surfaces_are_cells mesh surface in
          let w = graph_walk mesh surface lengths (x ∷ rest) closed in
          let (z, over, in_set) = meets (x ∷ rest) closed
          (λ null. some ((null_by_class mesh d surface split (x ∷ rest) closed).0 null)) in
          let z_in : z < mesh.vertices =
          All-contains (λ v. v < mesh.vertices) (x ∷ rest) z closed.is_walk.vertices over in
          subst (InSpan numbers xs)
          (signature_of-same s d (walk_chain (primal s) x rest) (parity mesh (x ∷ rest)) (λ e l. sym (w.chain e l)))
          (over_spanned s (edge_length lengths) d cells.complex cells.one_edge searched shortest.root
          shortest.is_tree shortest.shortest xs x z rest w.start_in z_in w.closed over (λ e e_in is_seen.
          subst (InSpan numbers xs) (loop_class z e z_in e_in)
          (each z e z_in in_set e_in
          (no_later_from (loop_length mesh lengths (searched z) e) (least_base mesh searched z e)
          (walk_length mesh lengths (x ∷ rest)) x (omega (arith, is_seen.no_longer, w.size)) (λ same.
          least_base_no_greater z e x w.start_in (is_seen.on_way (same ∙ w.size)))))))
    ]

module _ (mesh : Mesh) (lengths : List ℕ) (searched : ℕ → Tree) (surface : IsSurface mesh)
    (positive : ArePositive mesh lengths) (shortest : AreShortestTrees mesh lengths searched) (trees : ℕ → Trees)
    (chosen : AreChosen mesh lengths trees) (d : Split) (split : IsSplit (cells_of mesh) d) where
  -- ---- what the candidates span

  -- the classes of the candidates that come no later than a place
  abbrev pub candidates_within : Place → List ℕ
  candidates_within limit =
      map (λ c. class_of mesh d c.walk) (filter (is_loop_within limit) (candidates mesh lengths trees))

  -- a closed walk at y is a sum of candidates that come no later than its length and y
  pub walk_at_spanned : (y : ℕ) (w : List ℕ) (size : ℕ) → y < mesh.vertices → IsGraphWalk (primal (cells_of mesh)) y w y →
      graph_walk_length (primal (cells_of mesh)) (edge_length lengths) y w ≤ size →
      InSpan numbers (candidates_within (size, y)) (signature_of (cells_of mesh) d (walk_chain (primal (cells_of mesh)) y w))
  walk_at_spanned y w size y_in walk no_longer =
      let s = cells_of mesh in
      let len = edge_length lengths in
      let limit = graph_walk_length (primal s) len y w in
      let v = signature_of s d (walk_chain (primal s) y w) in
      let at = chosen y y_in in
      let own = shortest_trees mesh lengths surface positive trees chosen in
      let loops = loops_at mesh lengths y (trees y) in
      let spanned = walk_spanned s len d (surfaces_are_cells mesh surface).complex (trees y).tree
      (own.shortest y y_in) (map (weighed_walk mesh lengths) (walks loops))
      (λ e l. loops_covered_at mesh lengths trees surface positive chosen d split y e y_in l) y
      (ap (λ r. (trees y).tree.rank r) (sym at.shortest.root) ∙ (own.shortest y y_in).none_at_root) w walk in
      let by_weight : SpannedUpToWeight numbers (weighed (λ c. c.size) (λ c. class_of mesh d c.walk) loops)
      (record { weight = limit; vector = v }) =
      subst (λ xs. SpannedUpToWeight numbers xs (record { weight = limit; vector = v }))
      (weighed_loops mesh lengths trees surface positive chosen d split loops
      (loops_sized mesh lengths y (trees y) surface positive at)) spanned in
      let here : InSpan numbers (map (λ c. class_of mesh d c.walk) (filter (λ c. leb c.size limit) loops)) v =
      subst (λ vs. InSpan numbers vs v)
      (up_to_weighed numbers is_nothing Decides-is_nothing (λ c. c.size) (λ c. class_of mesh d c.walk) limit loops)
      (in_from_spanned numbers _ _ by_weight) in
      let each : All (IsLoopAt mesh lengths y (trees y)) loops =
      All-from_recursion (IsLoopAt mesh lengths y (trees y)) loops (loops_each mesh lengths y (trees y)) in
      trans_in numbers (candidates_within (size, y))
      (map (λ c. class_of mesh d c.walk) (filter (λ c. leb c.size limit) loops)) v
      (all_passing numbers (λ c. class_of mesh d c.walk) (candidates_within (size, y)) (λ c. leb c.size limit) loops
      (recursion_from_All (λ c. leb c.size limit ≡ true →
      InSpan numbers (candidates_within (size, y)) (class_of mesh d c.walk)) loops (λ k n l fits.
      let c = get_or loops k n in
      let base : c.base ≡ y = ap (λ x. x.base) (each k n l).is in
      let short = leb-true c.size limit fits in
      member_in numbers (λ c. class_of mesh d c.walk) (is_loop_within (size, y)) (candidates mesh lengths trees) c
      (below_contains mesh lengths trees mesh.vertices y y_in c (Contains-get_or loops k n l))
      (no_later_from c.size c.base size y (omega arith) (λ same. omega arith))))) here

  -- a loop is a sum of candidates that come no later than its length and its least base
  pub loop_in_candidates : (z e : ℕ) → z < mesh.vertices → e < edge_count mesh →
      InSpan numbers (candidates_within (place_at mesh lengths searched z e)) (class_of mesh d (loop_walk mesh (searched z) e))
  loop_in_candidates z e z_in e_in =
      let s = cells_of mesh in
      let cells = surfaces_are_cells mesh surface in
      let y = least_base mesh searched z e in
      let size = loop_length mesh lengths (searched z) e in
      let xs = candidates_within (size, y) in
      let on_way = least_base_on_way mesh lengths searched surface positive shortest z e z_in e_in in
      let parts = two_parts (primal s) (edge_length lengths) cells.complex.primal_ends cells.one_edge
      searched shortest.root shortest.is_tree shortest.shortest y z e on_way.0 z_in e_in on_way.1 in
      let one = walk_at_spanned y parts.first size on_way.0 parts.first_walk parts.first_size in
      let other = walk_at_spanned y parts.second size on_way.0 parts.second_walk parts.second_size in
      let sum_is : signature_of s d (loop (primal s) (searched z) e)
      ≡ bit_xor (signature_of s d (walk_chain (primal s) y parts.first))
      (signature_of s d (walk_chain (primal s) y parts.second)) =
      signature_of-same s d (loop (primal s) (searched z) e)
      (difference (walk_chain (primal s) y parts.first) (walk_chain (primal s) y parts.second)) (λ h l. parts.edges h)
      ∙ (signature_of-linear s d).add (walk_chain (primal s) y parts.first) (walk_chain (primal s) y parts.second) in
      subst (InSpan numbers xs) (sym (loop_class mesh lengths searched surface positive shortest d split z e z_in e_in ∙ sum_is))
      (add_in numbers xs (signature_of s d (walk_chain (primal s) y parts.first))
      (signature_of s d (walk_chain (primal s) y parts.second)) one other)

  -- ---- what was found

  -- the classes of those found that come no later than a place
  abbrev pub found_within : Place → List Found → List ℕ
  found_within limit found = map (λ k. class_of mesh d k.walk) (filter (is_within limit) found)

  pub found_in_candidates : (k : Found) → IsFoundLoop mesh lengths searched k →
      InSpan numbers (candidates_within (k.size, k.through)) (class_of mesh d k.walk)
  found_in_candidates k is =
      let place : place_at mesh lengths searched is.from is.edge ≡ (k.size, k.through) =
      ap (λ a. (a, least_base mesh searched is.from is.edge)) (sym is.at.size) ∙ ap (λ b. (k.size, b)) (sym is.at.through) in
      subst (λ p. InSpan numbers (candidates_within p) (class_of mesh d k.walk)) place
      (subst (λ w. InSpan numbers (candidates_within (place_at mesh lengths searched is.from is.edge)) (class_of mesh d w))
      (sym is.at.walk) (loop_in_candidates is.from is.edge is.from_in is.edge_in))

  module _ (set : ℕ → Bool) (meets : MeetsAll mesh set) (found : List Found)
      (enough : AreEnough mesh lengths searched set found) where
    -- a loop at a vertex of the set is a sum of those found that come no later
    loop_in_found : (limit : Place) (z e : ℕ) → z < mesh.vertices → set z ≡ true → e < edge_count mesh →
        is_no_later (place_at mesh lengths searched z e) limit ≡ true →
        InSpan numbers (found_within limit found) (class_of mesh d (loop_walk mesh (searched z) e))
    loop_in_found limit z e z_in in_set e_in no_later =
        let place = place_at mesh lengths searched z e in
        let v = class_of mesh d (loop_walk mesh (searched z) e) in
        in_wider numbers (λ k. class_of mesh d k.walk) (is_within place) (is_within limit)
        (λ k fits. no_later-trans (k.size, k.through) place limit fits no_later) found v
        (in_from_spanned numbers (found_within place found) v
        (subst (λ vs. Spanned numbers vs v) (map-map (class_of mesh d) (λ k. k.walk) (filter (is_within place) found))
        (spanned_from_depends mesh d surface split (walks_within place found) (loop_walk mesh (searched z) e)
        (enough.depend z e z_in in_set e_in))))

    -- and so is each candidate
    pub candidate_in_found : (c : Loop) → IsLoopBelow mesh lengths trees mesh.vertices c →
        InSpan numbers (found_within (c.size, c.base) found) (class_of mesh d c.walk)
    candidate_in_found c h =
        let x = c.base in
        let at = chosen x h.base_in in
        let own = shortest_trees mesh lengths surface positive trees chosen in
        let tree = (trees x).tree in
        let run = runs_loop mesh lengths surface tree (own.is_tree x h.base_in) (own.shortest x h.base_in)
        c.edge h.of.edge_in in
        let walk_is : c.walk ≡ loop_walk mesh tree c.edge = ap (λ k. k.walk) h.of.is in
        let size_is : walk_length mesh lengths (loop_walk mesh tree c.edge) ≡ c.size =
        run.size ∙ sym (ap (λ k. k.size) h.of.is) in
        subst (λ w. InSpan numbers (found_within (c.size, c.base) found) (class_of mesh d w)) (sym walk_is)
        (walk_in_span mesh lengths searched surface positive shortest d split set meets (found_within (c.size, c.base) found) tree.root _ run.closed.is_closed
        (λ z e z_in in_set e_in no_later. loop_in_found (c.size, c.base) z e z_in in_set e_in
        (subst (λ p. is_no_later (place_at mesh lengths searched z e) p ≡ true)
        (ap (λ a. (a, tree.root)) size_is ∙ ap (λ b. (c.size, b)) at.shortest.root) no_later)))

    -- a candidate that is no sum of those before it has the place of one that was found
    fresh_found : (i : ℕ) (n : Loop) → i < length (candidates mesh lengths trees) →
        (Spanned numbers (map (λ x. class_of mesh d x.walk) (take i (candidates mesh lengths trees)))
        (class_of mesh d (get_or (candidates mesh lengths trees) i n).walk) → ⊥) →
        HasFound found (get_or (candidates mesh lengths trees) i n)
    fresh_found i n i_in fresh =
        let cs = candidates mesh lengths trees in
        let c = get_or cs i n in
        let before = map (λ x. class_of mesh d x.walk) (take i cs) in
        let each : All (IsLoopBelow mesh lengths trees mesh.vertices) cs =
        All-from_recursion (IsLoopBelow mesh lengths trees mesh.vertices) cs
        (below_each mesh lengths trees mesh.vertices) in
        elim (some_or_none (λ k. eqb k.size c.size && eqb k.through c.base) found) [
          | inl r ↦
              let both = and_parts (eqb r.0.size c.size) (eqb r.0.through c.base) r.2 in
              (r.0, r.1, eqb-true r.0.size c.size both.0, eqb-true r.0.through c.base both.1)
          | inr none ↦
              let none_at : All (λ k. (eqb k.size c.size && eqb k.through c.base) ≡ false) found =
              All-from_recursion (λ k. (eqb k.size c.size && eqb k.through c.base) ≡ false) found none in
              let all : AllInSpan numbers before (found_within (c.size, c.base) found) =
              all_passing numbers (λ k. class_of mesh d k.walk) before (is_within (c.size, c.base)) found
              (recursion_from_All (λ k. is_within (c.size, c.base) k ≡ true →
              InSpan numbers before (class_of mesh d k.walk)) found (λ j m l fits.
              let k = get_or found j m in
              passing_before numbers (λ x. class_of mesh d x.walk) comes_before comes_before-trans comes_before-strict
              (is_loop_within (k.size, k.through)) cs i n (below-sorted mesh lengths trees mesh.vertices) i_in
              (λ e no_later. earlier k.size k.through c e no_later fits (none_at j m l))
              (class_of mesh d k.walk) (found_in_candidates k (enough.loops j m l)))) in
              absurd (fresh (spanned_from_in numbers before (class_of mesh d c.walk)
              (trans_in numbers before (found_within (c.size, c.base) found) (class_of mesh d c.walk) all
              (candidate_in_found c (each i n i_in)))))
        ]

pub few_bases_suffice : FewBasesSuffice
few_bases_suffice mesh lengths trees searched set found basis surface positive chosen shortest meets enough is =
    let (d, split) = some_split mesh surface in
    All-from_recursion (HasFound found) basis
    (basis_each mesh lengths trees surface positive chosen d split basis is (HasFound found)
    (fresh_found mesh lengths searched surface positive shortest trees chosen d split set meets found enough))
