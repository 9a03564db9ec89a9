-- How the loops that are enough are found.
use Rattle.std.proofs.Common.{◌≡◌, ℕ, ◌<◌, Bool, true, false, ◌&&◌, eqb, List, [], ◌∷◌, ◌++◌, map, filter, get_or, All, Contains, sym, ap, ◌∙◌, subst, arith, inl, inr, eqb-true}
use Rattle.surf_surfaces.proofs.Common.{AllByRecursion, cases_eq, cases_Bool, or_cases, and_parts, leb-true, false≢true, map-map, Contains-permutation, All-permutation, greedy, numbers, is_nothing, Independent, Sorted, sorted_from_order, order_from_sorted, Decides-is_nothing, InSpan, zero_in, trans_in, Split, IsSplit, Tree, Mesh, edge_count, IsSurface, IsClosed, ArePositive, IsIndependent, cells_of, class_of, AreShortestTrees, loop_walk, loop_length, DependsOn, recursion_from_All, All-from_recursion, All-append, Contains-append_left, Contains-append_right, Contains-get_or, greedy_law, all_kept, member_in, all_passing, all_greedy, sorted_greedy, ArePassingFirst, filter_of_greedy, Place, is_no_later, place_at, Found, place_of_found, is_within, walks_found, walks_within, IsFoundAt, IsFoundLoop, DependsAtPlace, comes_no_later, IsFoundChoice, AreFoundAt}
use Rattle.surf_surfaces.proofs.classes.ClassLaws.{some_split, null_by_class, independent_by_classes}
use Rattle.surf_surfaces.proofs.bases.FewBasesLaws.{no_later-trans, no_later-same}
use Rattle.surf_surfaces.proofs.bases.FirstFoundLaws.{loop_closed}
use Rattle.surf_surfaces.proofs.bases.FoundLaws.{found_choice_is_greedy}
use Rattle.surf_surfaces.proofs.classes.LeastLaws.{all_each, all_mapped}
use Rattle.surf_caps.specs.Caps.{Sought, with_places, IsFoundBy, AreEnoughFor, IsNextChoice, ChoiceKeeps, CapsGrowEnough}
use Rattle.surf_caps.proofs.Covers.{all_closed_by}
use Rattle.surf_caps.proofs.Over.{within, depends_within, within_depends}

-- in order of place those up to a place stand first
up_to_first : (limit : Place) (ks : List Found) → Sorted comes_no_later ks → ArePassingFirst (is_within limit) ks
up_to_first limit [] s = tt
up_to_first limit (k ∷ ks) s = (
  λ out. all_each (λ other. comes_no_later k other ≡ true) (λ other. is_within limit other ≡ false) ks
      (λ other after. elim (cases_Bool (is_within limit other)) [
        | inr off ↦ off
        | inl fits ↦ absurd (false≢true
            (sym out ∙ no_later-trans (place_of_found k) (place_of_found other) limit after fits))
      ]) s.0,
  up_to_first limit ks s.1,
)

module _ (mesh : Mesh) (lengths : List ℕ) (trees : ℕ → Tree) (surface : IsSurface mesh)
    (positive : ArePositive mesh lengths) (shortest : AreShortestTrees mesh lengths trees) where
  -- a loop by the mesh's own lengths
  pub by_own : (k : Found) → IsFoundLoop mesh lengths trees k → IsFoundBy mesh lengths k
  by_own k is = record {
    other = lengths;
    trees = trees;
    no_less = λ e l. omega arith;
    shortest = shortest;
    loop = is;
  }

  pub all_by_own : (ks : List Found) → All (IsFoundLoop mesh lengths trees) ks → All (IsFoundBy mesh lengths) ks
  all_by_own ks all = λ k n l. by_own (get_or ks k n) (all k n l)

  closed_each : (ks : List Found) → All (IsFoundBy mesh lengths) ks → AllByRecursion (λ k. IsClosed mesh k.walk) ks
  closed_each ks all = all_closed_by mesh lengths trees surface positive shortest ks all

  module _ (d : Split) (split : IsSplit (cells_of mesh) d) (all next : List Found)
      (loops : All (IsFoundBy mesh lengths) all) (sorted : Sorted comes_no_later all)
      (choice : IsFoundChoice mesh all next) where
    next_is : next ≡ greedy numbers is_nothing (λ k. class_of mesh d k.walk) all
    next_is = found_choice_is_greedy mesh d surface split all (closed_each all loops) next choice

    next_loops : All (IsFoundBy mesh lengths) next
    next_loops = All-from_recursion (IsFoundBy mesh lengths) next
        (subst (AllByRecursion (IsFoundBy mesh lengths)) (sym next_is)
        (all_greedy numbers (λ k. class_of mesh d k.walk) is_nothing Decides-is_nothing (IsFoundBy mesh lengths) []
        all (recursion_from_All (IsFoundBy mesh lengths) all loops)))

    next_independent : IsIndependent mesh (walks_found next)
    next_independent =
        (independent_by_classes mesh d surface split (walks_found next)
        (All-from_recursion (IsClosed mesh) (walks_found next)
        (all_mapped (IsClosed mesh) (λ k. k.walk) next (closed_each next next_loops)))).1
        (subst (Independent numbers) (sym (map-map (class_of mesh d) (λ k. k.walk) next))
        (subst (λ ks. Independent numbers (map (λ k. class_of mesh d k.walk) ks)) (sym next_is)
        ((greedy_law numbers is_nothing Decides-is_nothing (λ k. class_of mesh d k.walk)).independent all)))

    next_sorted : Sorted comes_no_later next
    next_sorted = subst (Sorted comes_no_later) (sym next_is)
        (sorted_greedy numbers (λ k. class_of mesh d k.walk) is_nothing Decides-is_nothing comes_no_later [] all sorted)

    -- each is a sum of those kept that come no later
    covered : (k : Found) (limit : Place) → Contains all k → is_within limit k ≡ true →
        InSpan numbers (within mesh d surface split limit next) (class_of mesh d k.walk)
    covered k limit has fits =
        let up_to = filter (is_within limit) all in
        let own = class_of mesh d k.walk in
        let same : greedy numbers is_nothing (λ x. class_of mesh d x.walk) up_to ≡ filter (is_within limit) next =
        sym (filter_of_greedy numbers (λ x. class_of mesh d x.walk) is_nothing Decides-is_nothing (is_within limit) [] all
        (up_to_first limit all sorted)) ∙ ap (filter (is_within limit)) (sym next_is) in
        subst (λ ks. InSpan numbers (map (λ x. class_of mesh d x.walk) ks) own) same
        (trans_in numbers
        (map (λ x. class_of mesh d x.walk) (greedy numbers is_nothing (λ x. class_of mesh d x.walk) up_to))
        (map (λ x. class_of mesh d x.walk) up_to) own
        (all_kept numbers is_nothing Decides-is_nothing (λ x. class_of mesh d x.walk) [] up_to)
        (member_in numbers (λ x. class_of mesh d x.walk) (is_within limit) all k has fits))

    -- what depended on some of those of which these were chosen depends on these
    stays : (some : List Found) (limit : Place) (walk : List ℕ) → IsClosed mesh walk →
        ((k : Found) → Contains some k → Contains all k) → DependsOn mesh (walks_within limit some) walk →
        DependsOn mesh (walks_within limit next) walk
    stays some limit walk closed sub h =
        depends_within mesh d surface split next (closed_each next next_loops) limit walk closed
        (trans_in numbers (within mesh d surface split limit next) (within mesh d surface split limit some)
        (class_of mesh d walk)
        (all_passing numbers (λ k. class_of mesh d k.walk) (within mesh d surface split limit next) (is_within limit) some
        (recursion_from_All (λ k. is_within limit k ≡ true →
        InSpan numbers (within mesh d surface split limit next) (class_of mesh d k.walk))
        some (λ j m l fits. covered (get_or some j m) limit (sub (get_or some j m) (Contains-get_or some j m l)) fits)))
        (within_depends mesh d surface split some limit walk h))

  choose : (kept loops next : List Found) → All (IsFoundBy mesh lengths) kept → All (IsFoundBy mesh lengths) loops →
      IsNextChoice mesh kept loops next → ChoiceKeeps mesh lengths kept loops next
  choose kept loops next kept_by loops_by c =
      let (d, split) = some_split mesh surface in
      let are : All (IsFoundBy mesh lengths) c.all =
      All-permutation (IsFoundBy mesh lengths) (kept ++ loops) c.all c.same_members
      (All-append (IsFoundBy mesh lengths) kept loops kept_by loops_by) in
      let sorted = sorted_from_order comes_no_later c.all c.order in
      record {
        are_loops = next_loops d split c.all next are sorted c.choice;
        independent = next_independent d split c.all next are sorted c.choice;
        order = order_from_sorted comes_no_later next (next_sorted d split c.all next are sorted c.choice);
        depend = λ walk limit closed h. stays d split c.all next are sorted c.choice (kept ++ loops) limit walk closed
            (λ k has. Contains-permutation (kept ++ loops) c.all k c.same_members has) h;
        still = λ walk limit closed h. stays d split c.all next are sorted c.choice kept limit walk closed
            (λ k has. Contains-permutation (kept ++ loops) c.all k c.same_members (Contains-append_left kept loops k has))
            h;
      }

  -- all loops at a vertex that aren't null
  no_later_at : (k : Found) (z e : ℕ) → IsFoundAt mesh lengths trees z e k →
      is_within (place_at mesh lengths trees z e) k ≡ true
  no_later_at k z e is =
      subst (λ p. is_no_later (place_of_found k) p ≡ true)
      (ap (λ a. (a, k.through)) is.size ∙ ap (λ b. (loop_length mesh lengths (trees z) e, b)) is.through)
      (no_later-same (place_of_found k))

  at_vertex : (z : ℕ) (here : Place → Bool) (kept loops : List Found) → z < mesh.vertices →
      All (IsFoundBy mesh lengths) kept → AreFoundAt mesh lengths trees here z loops →
      All (IsFoundBy mesh lengths) loops
      × ((e : ℕ) → e < edge_count mesh → here (place_at mesh lengths trees z e) ≡ true →
      DependsAtPlace mesh lengths trees (kept ++ loops) z e)
  at_vertex z here kept loops z_in kept_by found =
      let (d, split) = some_split mesh surface in
      let loops_by = all_by_own loops found.are_loops in (
        loops_by,
        λ e e_in is_here.
            let walk = loop_walk mesh (trees z) e in
            let place = place_at mesh lengths trees z e in
            let all = kept ++ loops in
            let closed = loop_closed mesh lengths trees surface shortest z e z_in e_in in
            depends_within mesh d surface split all
            (closed_each all (All-append (IsFoundBy mesh lengths) kept loops kept_by loops_by)) place walk closed
            (elim (cases_eq (class_of mesh d walk) 0) [
              | inl zero_is ↦ subst (InSpan numbers (within mesh d surface split place all)) (sym zero_is)
                  (zero_in numbers (within mesh d surface split place all))
              | inr some ↦
                  let (k, has, is) = found.all e e_in
                  (λ null. some ((null_by_class mesh d surface split walk closed).0 null)) is_here in
                  subst (λ w. InSpan numbers (within mesh d surface split place all) (class_of mesh d w)) is.walk
                  (member_in numbers (λ x. class_of mesh d x.walk) (is_within place) all k
                  (Contains-append_right kept loops k has) (no_later_at k z e is))
            ]),
      )

  more : (sought : Sought) (z : ℕ) (here : Place → Bool) (found : List Found) →
      AreEnoughFor mesh lengths trees sought found →
      ((e : ℕ) → e < edge_count mesh → here (place_at mesh lengths trees z e) ≡ true →
      DependsAtPlace mesh lengths trees found z e) →
      AreEnoughFor mesh lengths trees (with_places z here sought) found
  more sought z here found enough at = record {
    loops = enough.loops;
    depend = λ y e y_in e_in is_sought.
        let place = place_at mesh lengths trees y e in
        elim (or_cases (sought y place) (eqb y z && here place) is_sought) [
          | inl old ↦ enough.depend y e y_in e_in old
          | inr new ↦
              let both = and_parts (eqb y z) (here place) new in
              let same : z ≡ y = sym (eqb-true y z both.0) in
              subst (λ x. here (place_at mesh lengths trees x e) ≡ true → DependsAtPlace mesh lengths trees found x e) same
              (at e e_in) both.1
        ];
  }

pub caps_grow_enough : CapsGrowEnough
caps_grow_enough mesh lengths trees surface positive shortest = record {
  none = record {
    loops = λ k n l. absurd (omega arith);
    depend = λ z e z_in e_in is_sought. absurd (false≢true is_sought);
  };
  begin = record {
    loops = λ k n l. absurd (omega arith);
    depend = λ z e z_in e_in is_sought.
        let long = positive e e_in in
        let none = leb-true (loop_length mesh lengths (trees z) e) 0 is_sought in
        absurd (omega (arith, long, none));
  };
  choose = choose mesh lengths trees surface positive shortest;
  keep = λ sought kept loops next enough keeps. record {
    loops = keeps.are_loops;
    depend = λ z e z_in e_in is_sought. keeps.still (loop_walk mesh (trees z) e) (place_at mesh lengths trees z e)
        (loop_closed mesh lengths trees surface shortest z e z_in e_in) (enough.depend z e z_in e_in is_sought);
  };
  more = more mesh lengths trees surface positive shortest;
  join = λ sought more found one other. record {
    loops = one.loops;
    depend = λ z e z_in e_in is_sought.
        let place = place_at mesh lengths trees z e in
        elim (or_cases (sought z place) (more z place) is_sought) [
          | inl on ↦ one.depend z e z_in e_in on
          | inr on ↦ other.depend z e z_in e_in on
        ];
  };
  fewer = λ sought part found enough sub. record {
    loops = enough.loops;
    depend = λ z e z_in e_in is_sought.
        enough.depend z e z_in e_in (sub z (place_at mesh lengths trees z e) is_sought);
  };
  of_one = λ sought set found enough. record {
    loops = all_by_own mesh lengths trees surface positive shortest found enough.loops;
    depend = λ z e z_in e_in is_sought.
        let both = and_parts (set z) (sought (place_at mesh lengths trees z e)) is_sought in
        enough.depend z e z_in both.0 e_in both.1;
  };
  at_vertex = at_vertex mesh lengths trees surface positive shortest;
}
