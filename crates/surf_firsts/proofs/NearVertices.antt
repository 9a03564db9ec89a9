-- The loops at vertices near one whose loops are all long, next to those that are kept, where the ways through the
-- vertices of a set are barred.
use Rattle.surf_surfaces.proofs.Common.{◌≡◌, ℕ, suc, ◌+◌, ◌*◌, ◌<◌, ◌≤◌, Bool, true, false, leb, List, ◌∷◌, ◌++◌, map, filter, Contains, bit_xor, sym, ap, ◌∙◌, subst, arith, inl, inr, AllByRecursion, or_cases, leb-true, nat_tests, All-from_recursion, All-contains, map-map, numbers, difference, Spanned, xor_comm, InSpan, add_in, in_from_spanned, spanned_from_in, primal, Split, IsSplit, IsGraphWalk, walk_chain, graph_walk_length, signature_of, Tree, loop, Mesh, edge_count, ends, IsSurface, IsClosed, edge_length, ArePositive, cells_of, class_of, AreShortestTrees, loop_walk, loop_length, DependsOn, over_in, all_filtered, some_or_none, in_wider, walk-append, over_spanned, walk_parts, Place, is_no_later, place_at, least_base, Found, is_within, walks_found, walks_within, AreEnoughOf}
use Rattle.surf_graphs.proofs.Independence.{signature_of-same, signature_of-linear, walk_sums}
use Rattle.surf_graphs.proofs.Lengths.{loop_bound}
use Rattle.surf_graphs.proofs.Walks.{walk_in, same_off}
use Rattle.surf_surfaces.proofs.meshes.CellLaws.{surfaces_are_cells}
use Rattle.surf_surfaces.proofs.classes.ClassLaws.{some_split}
use Rattle.surf_surfaces.proofs.bases.FewBasesLaws.{no_later_from, no_later-trans, least_base_on_way, least_base_no_greater, loop_class}
use Rattle.surf_surfaces.proofs.bases.FirstFoundLaws.{loop_closed}
use Rattle.surf_surfaces.proofs.bases.FoundLaws.{found_closed}
use Rattle.surf_surfaces.proofs.bases.GreedyChoiceLaws.{spanned_from_depends, depends_from_spanned}
use Rattle.surf_surfaces.proofs.classes.LeastLaws.{all_mapped}
use Rattle.surf_firsts.specs.Near.{is_shorter_by, DependOnShorter, AgreeOff, IsSoughtFromStart, NearVerticesNeedNoMore}
use Rattle.surf_firsts.proofs.Parts.{IsOver, two_parts_over}

-- what is shorter than a loop at z by more than two ways is shorter than a loop that is longer by no more than these
shorter_within : (k : Found) (far size other base : ℕ) → size ≤ other + 2 * far →
    is_shorter_by (suc (2 * far)) size k ≡ true → is_within (other, base) k ≡ true
shorter_within k far size other base no_longer h =
    let n : k.size + suc (2 * far) ≤ size = leb-true (k.size + suc (2 * far)) size h in
    let less : k.size < other = omega arith in
    grind (arith, nat_tests)

module _ (mesh : Mesh) (lengths other : List ℕ) (trees others : ℕ → Tree) (sought : Place → Bool) (set : ℕ → Bool)
    (surface : IsSurface mesh) (positive : ArePositive mesh lengths) (positive_too : ArePositive mesh other)
    (shortest : AreShortestTrees mesh lengths trees) (shortest_too : AreShortestTrees mesh other others)
    (agree : AgreeOff mesh lengths other set) (d : Split) (split : IsSplit (cells_of mesh) d) (found : List Found)
    (enough : AreEnoughOf mesh lengths trees sought set found) (from_start : IsSoughtFromStart sought) where
  abbrev len : ℕ → ℕ
  len = edge_length lengths

  -- the classes of those found that come no later than a place
  abbrev span_within : Place → List ℕ
  span_within limit = map (λ k. class_of mesh d k.walk) (filter (is_within limit) found)

  -- a loop at a vertex of the set is a sum of those that come no later
  loop_at_set : (limit : Place) (n e : ℕ) → n < mesh.vertices → set n ≡ true → e < edge_count mesh →
      sought limit ≡ true → is_no_later (place_at mesh lengths trees n e) limit ≡ true →
      InSpan numbers (span_within limit) (class_of mesh d (loop_walk mesh (trees n) e))
  loop_at_set limit n e n_in in_set e_in is_sought no_later =
      let place = place_at mesh lengths trees n e in
      let v = class_of mesh d (loop_walk mesh (trees n) e) in
      in_wider numbers (λ k. class_of mesh d k.walk) (is_within place) (is_within limit)
      (λ k fits. no_later-trans (k.size, k.through) place limit fits no_later) found v
      (in_from_spanned numbers (span_within place) v
      (subst (λ vs. Spanned numbers vs v) (map-map (class_of mesh d) (λ k. k.walk) (filter (is_within place) found))
      (spanned_from_depends mesh d surface split (walks_within place found) (loop_walk mesh (trees n) e)
      (enough.depend n e n_in in_set e_in (from_start place limit no_later is_sought)))))

  -- so is a closed walk at x that is over a vertex of the set
  over_set : (x size n : ℕ) (w : List ℕ) → x < mesh.vertices → n < mesh.vertices → set n ≡ true →
      sought (size, x) ≡ true → IsGraphWalk (primal (cells_of mesh)) x w x → Contains (x ∷ w) n →
      graph_walk_length (primal (cells_of mesh)) (edge_length lengths) x w ≤ size →
      InSpan numbers (span_within (size, x)) (signature_of (cells_of mesh) d (walk_chain (primal (cells_of mesh)) x w))
  over_set x size n w x_in n_in in_set is_sought closed over no_longer =
      let s = cells_of mesh in
      let cells = surfaces_are_cells mesh surface in
      let xs = span_within (size, x) in
      over_spanned s len d cells.complex cells.one_edge trees shortest.root shortest.is_tree shortest.shortest xs x n w
      x_in n_in closed over (λ e e_in is_seen.
      subst (InSpan numbers xs) (loop_class mesh lengths trees surface positive shortest d split n e n_in e_in)
      (loop_at_set (size, x) n e n_in in_set e_in is_sought
      (no_later_from (loop_length mesh lengths (trees n) e) (least_base mesh trees n e) size x
      (omega (arith, is_seen.no_longer, no_longer)) (λ same.
      least_base_no_greater mesh lengths trees surface positive shortest n e x x_in
      (is_seen.on_way (let low = is_seen.no_longer in omega (arith, low, no_longer, same)))))))

  module _ (z far most : ℕ) (z_in : z < mesh.vertices)
      (short : DependOnShorter mesh other others z (most + 2 * far) (suc (2 * far)) found) where
    -- a loop at z that isn't longer by more than two ways is a sum of those that come no later than a place
    loop_within : (size base e : ℕ) → e < edge_count mesh → size ≤ most →
        loop_length mesh other (others z) e ≤ size + 2 * far →
        InSpan numbers (span_within (size, base)) (class_of mesh d (loop_walk mesh (others z) e))
    loop_within size base e e_in le no_longer =
        let long = loop_length mesh other (others z) e in
        let v = class_of mesh d (loop_walk mesh (others z) e) in
        let shorter = filter (is_shorter_by (suc (2 * far)) long) found in
        in_wider numbers (λ k. class_of mesh d k.walk) (is_shorter_by (suc (2 * far)) long) (is_within (size, base))
        (λ k h. shorter_within k far long size base no_longer h) found v
        (in_from_spanned numbers (map (λ k. class_of mesh d k.walk) shorter) v
        (subst (λ vs. Spanned numbers vs v) (map-map (class_of mesh d) (λ k. k.walk) shorter)
        (spanned_from_depends mesh d surface split (walks_found shorter) (loop_walk mesh (others z) e)
        (short e e_in (omega arith)))))

    -- so is a closed walk at y, no longer by the other lengths than a size
    walk_near : (y size base : ℕ) (w : List ℕ) → IsGraphWalk (primal (cells_of mesh)) y w y → (others z).rank y ≤ far →
        size ≤ most → graph_walk_length (primal (cells_of mesh)) (edge_length other) y w ≤ size →
        InSpan numbers (span_within (size, base)) (signature_of (cells_of mesh) d (walk_chain (primal (cells_of mesh)) y w))
    walk_near y size base w closed near le no_longer =
        let s = cells_of mesh in
        let cells = surfaces_are_cells mesh surface in
        let xs = span_within (size, base) in
        subst (InSpan numbers xs) (sym (walk_sums s d cells.complex (others z) y w closed))
        (over_in numbers xs s.edges (walk_chain (primal s) y w) (λ e. signature_of s d (loop (primal s) (others z) e))
        (λ e e_in on.
        subst (InSpan numbers xs) (loop_class mesh other others surface positive_too shortest_too d split z e z_in e_in)
        (loop_within size base e e_in le
        (let bound = loop_bound (primal s) (edge_length other) (others z) (shortest_too.shortest z z_in) y w y e closed on in
        omega (arith, bound, no_longer, near)))))

    -- and so is one at x over y that keeps off the set
    off_set : (x y size : ℕ) (w : List ℕ) → IsGraphWalk (primal (cells_of mesh)) x w x → Contains (x ∷ w) y →
        graph_walk_length (primal (cells_of mesh)) (edge_length lengths) x w ≤ size → AllByRecursion (λ n. set n ≡ false) (x ∷ w) →
        (others z).rank y ≤ far → size ≤ most →
        InSpan numbers (span_within (size, x)) (signature_of (cells_of mesh) d (walk_chain (primal (cells_of mesh)) x w))
    off_set x y size w closed over no_longer off near le =
        let s = cells_of mesh in
        let g = primal s in
        let off_len = edge_length other in
        let (first, second, is, there, back) = walk_parts g x w x y closed over in
        let straight = walk-append g off_len x first y second x there back in
        let turned = walk-append g off_len y second x first y back there in
        let as_long : graph_walk_length g off_len x w ≡ graph_walk_length g len x w =
        same_off g len off_len set agree x w x closed off in
        let whole : graph_walk_length g off_len x w ≡ graph_walk_length g off_len x first + graph_walk_length g off_len y second =
        ap (graph_walk_length g off_len x) is ∙ straight.2 in
        let other_way : graph_walk_length g off_len y (second ++ first)
        ≡ graph_walk_length g off_len y second + graph_walk_length g off_len x first = turned.2 in
        let same : (e : ℕ) → walk_chain g x w e ≡ walk_chain g y (second ++ first) e =
        λ e. ap (λ v. walk_chain g x v e) is ∙ straight.1 e
        ∙ xor_comm (walk_chain g x first e) (walk_chain g y second e) ∙ sym (turned.1 e) in
        subst (InSpan numbers (span_within (size, x)))
        (sym (signature_of-same s d (walk_chain g x w) (walk_chain g y (second ++ first)) (λ e l. same e)))
        (walk_near y size x (second ++ first) turned.0 near le (omega (arith, as_long, whole, other_way, no_longer)))

    -- each of the two walks of which a loop near z is the sum is one of these
    part_within : (x y size : ℕ) (w : List ℕ) → x < mesh.vertices →
        IsOver (primal (cells_of mesh)) (edge_length lengths) x y size w → (others z).rank y ≤ far → size ≤ most →
        sought (size, x) ≡ true →
        InSpan numbers (span_within (size, x)) (signature_of (cells_of mesh) d (walk_chain (primal (cells_of mesh)) x w))
    part_within x y size w x_in part near le is_sought =
        let cells = surfaces_are_cells mesh surface in
        elim (some_or_none set (x ∷ w)) [
          | inl r ↦
              let n_in : r.0 < mesh.vertices = inside (x ∷ w)
              (walk_in (primal (cells_of mesh)) cells.complex.primal_ends x w x x_in part.closed) r.0 r.1 in
              over_set x size r.0 w x_in n_in r.2 is_sought part.closed r.1 part.no_longer
          | inr off ↦ off_set x y size w part.closed part.over part.no_longer off near le
        ]
      where
        inside : (ns : List ℕ) → AllByRecursion (λ n. n < mesh.vertices) ns → (n : ℕ) → Contains ns n → n < mesh.vertices
        inside ns all n has = All-contains (λ m. m < mesh.vertices) ns n
            (All-from_recursion (λ m. m < mesh.vertices) ns all) has

    -- a loop at a vertex near z depends on those that come no later
    pub near_depends : (y e : ℕ) → y < mesh.vertices → e < edge_count mesh → (others z).rank y ≤ far →
        sought (place_at mesh lengths trees y e) ≡ true → (place_at mesh lengths trees y e).0 ≤ most →
        DependsOn mesh (walks_within (place_at mesh lengths trees y e) found) (loop_walk mesh (trees y) e)
    near_depends y e y_in e_in near is_sought le =
        let s = cells_of mesh in
        let g = primal s in
        let cells = surfaces_are_cells mesh surface in
        let place = place_at mesh lengths trees y e in
        let x = least_base mesh trees y e in
        let walk = loop_walk mesh (trees y) e in
        let within = filter (is_within place) found in
        let xs = span_within place in
        let on_way = least_base_on_way mesh lengths trees surface positive shortest y e y_in e_in in
        let parts = two_parts_over g len cells.complex.primal_ends cells.one_edge trees shortest.root shortest.is_tree
        shortest.shortest x y e on_way.0 y_in e_in on_way.1 in
        let one = part_within x y place.0 parts.first on_way.0 parts.first_over near le is_sought in
        let two = part_within x y place.0 parts.second on_way.0 parts.second_over near le is_sought in
        let sum_is : signature_of s d (loop g (trees y) e)
        ≡ bit_xor (signature_of s d (walk_chain g x parts.first)) (signature_of s d (walk_chain g x parts.second)) =
        signature_of-same s d (loop g (trees y) e) (difference (walk_chain g x parts.first) (walk_chain g x parts.second))
        (λ h l. parts.edges h)
        ∙ (signature_of-linear s d).add (walk_chain g x parts.first) (walk_chain g x parts.second) in
        depends_from_spanned mesh d surface split (walks_within place found) walk
        (all_mapped (IsClosed mesh) (λ k. k.walk) within
        (all_filtered (is_within place) (λ k. IsClosed mesh k.walk) found
        (found_closed mesh lengths trees surface shortest found enough.loops)))
        (loop_closed mesh lengths trees surface shortest y e y_in e_in)
        (subst (λ vs. Spanned numbers vs (class_of mesh d walk)) (sym (map-map (class_of mesh d) (λ k. k.walk) within))
        (spanned_from_in numbers xs (class_of mesh d walk)
        (subst (InSpan numbers xs) (sym (loop_class mesh lengths trees surface positive shortest d split y e y_in e_in ∙ sum_is))
        (add_in numbers xs (signature_of s d (walk_chain g x parts.first)) (signature_of s d (walk_chain g x parts.second))
        one two))))

pub near_vertices_need_no_more : NearVerticesNeedNoMore
near_vertices_need_no_more mesh lengths other trees others sought set z far most found surface positive positive_too
    shortest shortest_too agree z_in enough from_start bound short =
    let (d, split) = some_split mesh surface in
    record {
      loops = enough.loops;
      depend = λ y e y_in in_set e_in is_sought.
          elim (or_cases (set y) (leb ((others z).rank y) far) in_set) [
            | inl old ↦ enough.depend y e y_in old e_in is_sought
            | inr near ↦ near_depends mesh lengths other trees others sought set surface positive positive_too shortest
                shortest_too agree d split found enough from_start z far most z_in short y e y_in e_in
                (leb-true ((others z).rank y) far near) is_sought (bound (place_at mesh lengths trees y e) is_sought)
          ];
    }
