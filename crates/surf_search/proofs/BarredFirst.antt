-- The first of the loops at the vertices of a set and at one more, where a search there bars the ways through the set.
use Rattle.surf_search.proofs.Common.{◌≡◌, ◌≢◌, ℕ, ◌<◌, ◌≤◌, ◌||◌, ◌&&◌, Bool, true, false, eqb, List, [], Option, Some, None, refl, sym, ap, ◌∙◌, subst, arith, inl, inr, cases_Bool, cases_eq, or_cases, or_right, and_parts, and_from, false≢true, eq-eqb, eqb-true, nat_tests, IsTrue, All-contains, Split, IsSplit, Tree, Mesh, edge_count, IsSurface, edge_length, ArePositive, IsNull, cells_of, class_of, AreShortestTrees, loop_walk, loop_length, Place, is_no_later, comes_sooner, place_at, with_vertex, choice_exists, shortest_trees, null_by_class, loop_closed, AgreeOff, Sought, with_places, AreEnoughFor, on_set_start, Candidate, Signed, place_of, is_sought, IsFound, AreFoundBy, first_from, IsFirstOf, IsFirstAt, SurfaceTables, is_marked, IsFirstIn, IsBarring}
use Rattle.surf_caps.proofs.Barring.{barred_loops_come_no_sooner, barred_searches_suffice}
use Rattle.surf_search.proofs.FirstFound.{IsNoLater, Least, first_before, first_member, first_some, first_stays, least_found, least_of, not_sooner}
use Rattle.surf_search.proofs.NearFirst.{nothing_null, sooner_not}
use Rattle.surf_finder.proofs.PassedOver.{sought_before}
use Rattle.surf_finder.proofs.Searched.{depends_null, zero_null}

-- what comes no later than a place isn't one before which that is sought
not_sought : (o : Option Candidate) (p : Place) → IsNoLater o p → is_sought o p ≡ true → ⊥
not_sought None p h on = absurd h
not_sought (Some c) p h on = false≢true (sym (sooner_not (place_of c) p on) ∙ h)

later : (o : Option Candidate) (p : Place) → is_sought o p ≡ false → IsNoLater o p
later None p off = absurd (false≢true (sym off))
later (Some c) p off = not_sooner (place_of c) p off

sought_start : (o : Option Candidate) (p q : Place) → is_no_later p q ≡ true → is_sought o q ≡ true → is_sought o p ≡ true
sought_start None p q before on = refl
sought_start (Some c) p q before on = sought_before c p q before on

-- places that come no later than each other are the same
same_place : (a b c d : ℕ) → is_no_later (a, b) (c, d) ≡ true → is_no_later (c, d) (a, b) ≡ true → (a ≡ c) × (b ≡ d)
same_place a b c d h k = (grind (arith, nat_tests), grind (arith, nat_tests))

module _ (mesh : Mesh) (lengths other : List ℕ) (trees others : ℕ → Tree) (surface : IsSurface mesh)
    (positive : ArePositive mesh lengths) (positive_too : ArePositive mesh other)
    (shortest : AreShortestTrees mesh lengths trees) (shortest_too : AreShortestTrees mesh other others)
    (no_less : (e : ℕ) → e < edge_count mesh → edge_length lengths e ≤ edge_length other e) (d : Split)
    (split : IsSplit (cells_of mesh) d) (set : ℕ → Bool) (agree : AgreeOff mesh lengths other set) (z : ℕ)
    (z_in : z < mesh.vertices) (o : Option Candidate) (found : List Signed)
    (first : IsFirstOf mesh lengths trees set o) (h : AreFoundBy mesh other others d o z found) where
  abbrev next : Option Candidate
  next = first_from o found

  -- a loop isn't null whose class isn't
  some_class : (y e : ℕ) → y < mesh.vertices → e < edge_count mesh → class_of mesh d (loop_walk mesh (trees y) e) ≢ 0 →
      IsNull mesh (loop_walk mesh (trees y) e) → ⊥
  some_class y e y_in e_in some null =
      some ((null_by_class mesh d surface split (loop_walk mesh (trees y) e)
      (loop_closed mesh lengths trees surface shortest y e y_in e_in)).0 null)

  -- what comes before the first is null at the vertices of the set
  abbrev sought : Sought
  sought y p = set y && is_sought next p

  enough : AreEnoughFor mesh lengths trees sought []
  enough = record {
    loops = λ k b l. absurd (omega arith);
    depend = λ y e y_in e_in on.
        let place = place_at mesh lengths trees y e in
        let parts = and_parts (set y) (is_sought next place) on in
        elim (cases_eq (class_of mesh d (loop_walk mesh (trees y) e)) 0) [
          | inl zero_is ↦ depends_null mesh [] (loop_walk mesh (trees y) e)
              (zero_null mesh lengths trees surface positive shortest d split y e y_in e_in zero_is)
          | inr some ↦ absurd (not_sought next place (first_before o found place
              (least_of mesh lengths trees surface positive shortest d split set o first y e y_in parts.0 e_in
              (some_class y e y_in e_in some))) parts.1)
        ];
  }

  -- and so it is at z
  enough_here : AreEnoughFor mesh lengths trees (with_places z (is_sought next) sought) []
  enough_here =
      barred_searches_suffice mesh lengths other trees others sought set z (is_sought next) [] surface positive positive_too shortest
      shortest_too agree z_in enough (on_set_start set (is_sought next) (sought_start next)) (sought_start next)
      (λ n p in_set on. and_from (set n) (is_sought next p) in_set on)
      (λ e e_in on. elim (cases_eq (class_of mesh d (loop_walk mesh (others z) e)) 0) [
        | inl zero_is ↦ depends_null mesh [] (loop_walk mesh (others z) e)
            (zero_null mesh other others surface positive_too shortest_too d split z e z_in e_in zero_is)
        | inr some ↦ absurd (not_sought next (place_at mesh other others z e)
            (least_found mesh other others surface positive_too shortest_too d split o z found z_in h e e_in
            (λ null. some ((null_by_class mesh d surface split (loop_walk mesh (others z) e)
            (loop_closed mesh other others surface shortest_too z e z_in e_in)).0 null))) on)
      ])

  least : Least mesh lengths trees surface positive shortest d split (with_vertex z set) next
  least y f y_in in_set f_in some = elim (or_cases (set y) (eqb y z) in_set) [
    | inl old ↦ first_before o found (place_at mesh lengths trees y f)
        (least_of mesh lengths trees surface positive shortest d split set o first y f y_in old f_in some)
    | inr here ↦ elim (cases_Bool (is_sought next (place_at mesh lengths trees y f))) [
      | inr off ↦ later next (place_at mesh lengths trees y f) off
      | inl on ↦
          let place = place_at mesh lengths trees y f in
          absurd (some (nothing_null mesh (loop_walk mesh (trees y) f) (enough_here.depend y f y_in f_in
          (or_right (sought y place) (eqb y z && is_sought next place) (and_from (eqb y z) (is_sought next place) here on)))))
    ]
  ]

  pub first_barred : IsFirstOf mesh lengths trees (with_vertex z set) (first_from o found)
  first_barred = elim (first_member o found) [
    | inl same ↦
        let whole = with_vertex z set in
        subst (IsFirstOf mesh lengths trees whole) (sym same)
        (first_stays mesh lengths trees surface positive shortest d split set whole o first
        (subst (Least mesh lengths trees surface positive shortest d split whole) same least))
    | inr new ↦
        let whole = with_vertex z set in
        let (s, has, is) = new in
        let r : IsFound mesh other others d s = All-contains (IsFound mesh other others d) found s h.each has in
        let from : s.from ≡ z = All-contains (λ c. c.from ≡ z) found s h.here has in
        let (f, f_in, some, before) = barred_loops_come_no_sooner mesh lengths other trees others s.from s.candidate.edge surface
        positive shortest shortest_too no_less r.from_in r.edge_in
        (λ null. All-contains (λ c. c.signature ≢ 0) found s h.some has (r.signature
        ∙ (null_by_class mesh d surface split (loop_walk mesh (others s.from) s.candidate.edge)
        (loop_closed mesh other others surface shortest_too s.from s.candidate.edge r.from_in r.edge_in)).0 null)) in
        let own : place_at mesh other others s.from s.candidate.edge ≡ place_of s.candidate =
        sym (ap (λ n. (n, s.candidate.base)) r.size
        ∙ ap (λ n. (loop_length mesh other (others s.from) s.candidate.edge, n)) r.base) in
        let least_here = subst (Least mesh lengths trees surface positive shortest d split whole) is least in
        let after : is_no_later (place_of s.candidate) (place_at mesh lengths trees s.from f) ≡ true =
        least_here s.from f r.from_in (or_right (set s.from) (eqb s.from z) (eq-eqb s.from z from)) f_in some in
        let place = place_at mesh lengths trees s.from f in
        let same = same_place place.0 place.1 s.candidate.length s.candidate.base
        (subst (λ p. is_no_later place p ≡ true) own before) after in
        subst (IsFirstOf mesh lengths trees whole) (sym is)
        (first_some mesh lengths trees surface positive shortest d split whole s.candidate s.from f r.from_in f_in some
        (ap (λ n. (n, place.1)) same.0 ∙ ap (λ n. (s.candidate.length, n)) same.1) least_here)
  ]

-- so it is for a finder that bars the vertices that are marked
pub first_behind : (f scout : SurfaceTables) (marks : List Bool) (z : ℕ) (first next : Option Candidate) → IsSurface f.mesh →
    IsBarring f scout marks → z < f.mesh.vertices → IsFirstIn f.mesh f.lengths f.signs (is_marked marks) first →
    IsFirstAt (record f { lengths = scout.lengths }) first z next →
    IsFirstIn f.mesh f.lengths f.signs (with_vertex z (is_marked marks)) next
first_behind f scout marks z first next surface b z_in was at trees chosen d split are =
    let other = scout.lengths in
    let positive_too : ArePositive f.mesh other = λ e e_in.
    (let a = b.positive e e_in in let more = b.no_shorter e e_in in omega (arith, a, more)) in
    let (others, chosen_too) = choice_exists f.mesh other surface positive_too in
    let by : ℕ → Tree = λ x. (trees x).tree in
    let too : ℕ → Tree = λ x. (others x).tree in
    subst (IsFirstOf f.mesh f.lengths by (with_vertex z (is_marked marks))) (sym at.is_first)
    (first_barred f.mesh f.lengths other by too surface b.positive positive_too
    (shortest_trees f.mesh f.lengths surface b.positive trees chosen)
    (shortest_trees f.mesh other surface positive_too others chosen_too) b.no_shorter d split (is_marked marks) b.ahead.off z z_in first
    at.found (was trees chosen d split are) (at.are others chosen_too d are))
