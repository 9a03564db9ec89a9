-- Walks whose places come first have the places of the chosen basis.
use Rattle.surf_surfaces.proofs.Common.{◌≡◌, ℕ, suc, ◌+◌, ◌<◌, ◌≤◌, Bool, true, false, cond, List, [], ◌∷◌, length, map, filter, get_or, sum, refl, sym, ap, ◌∙◌, subst, arith, inl, AllByRecursion, All-from_recursion, length-map, recursion_from_All, sum_by-cons, numbers, Sorted, Chain, Split, IsSplit, walk_chain, primal, signature_of, signature_of-same, Mesh, IsSurface, IsClosed, parity, walk_length, edge_length, edge_number, ArePositive, cells_of, class_of, loop_walk, Trees, AreChosen, Loop, candidates, IsChosenBasis, all_passing, in_wider, free_filter, InSpan, AllInSpan, Free, count, trans_in, in_from_spanned, free_from_independent, Place, is_no_later, place_of_loop}
use Rattle.surf_surfaces.specs.Mesh.{steps}
use Rattle.surf_surfaces.proofs.bases.CandidateLaws.{IsLoopBelow}
use Rattle.surf_surfaces.proofs.bases.FewBasesLaws.{no_later-trans, is_loop_within, walk_at_spanned}
use Rattle.surf_surfaces.proofs.bases.FirstCycleLaws.{shortest_trees}
use Rattle.surf_surfaces.proofs.bases.FoundPlaces.{same_places, sorted_places}
use Rattle.surf_surfaces.proofs.bases.GreedyChoiceLaws.{spanned_from_depends}
use Rattle.surf_surfaces.proofs.classes.ClassLaws.{some_split, runs_loop, independent_by_classes}
use Rattle.surf_surfaces.proofs.classes.LeastLaws.{all_each}
use Rattle.surf_surfaces.proofs.walks.GraphWalkLaws.{graph_walk}
use Rattle.surf_sheets.specs.Sheets.{Sheet, IsSheet, AreShown}
use Rattle.surf_sheets.specs.Placed.{place_of_walk}
use Rattle.surf_sheets.proofs.Bases.{independent, sum_of_fitting}
use Rattle.surf_sheets.proofs.ChosenPlaces.{loop_place, free_basis, basis_spans, basis_sorted, each_of_basis}
use Rattle.surf_sheetorder.specs.Rounds.{AreClaimed, AreFirst}
use Rattle.surf_sheetorder.specs.Laws.{FirstWalksHavePlacesOfBasis}

count_up_to : {X : Type 0} (place : X → Place) (limit : Place) (xs : List X) →
    length (filter (λ p. is_no_later p limit) (map place xs)) ≡ length (filter (λ x. is_no_later (place x) limit) xs)
count_up_to place limit [] = refl
count_up_to place limit (x ∷ xs) = split (is_no_later (place x) limit) (count_up_to place limit xs)
  where
    split : (b : Bool) →
        length (filter (λ p. is_no_later p limit) (map place xs)) ≡ length (filter (λ x. is_no_later (place x) limit) xs) →
        length (cond b (place x ∷ filter (λ p. is_no_later p limit) (map place xs))
        (filter (λ p. is_no_later p limit) (map place xs)))
        ≡ length (cond b (x ∷ filter (λ x. is_no_later (place x) limit) xs)
        (filter (λ x. is_no_later (place x) limit) xs))
    split true e = ap suc e
    split false e = e

-- walks in the order of place, as a sorted list
sorted_walks : (mesh : Mesh) (lengths : List ℕ) (walks : List (List ℕ)) →
    ((i j : ℕ) → i < j → j < length walks →
    is_no_later (place_of_walk mesh lengths (get_or walks i [])) (place_of_walk mesh lengths (get_or walks j [])) ≡ true) →
    Sorted (λ v w. is_no_later (place_of_walk mesh lengths v) (place_of_walk mesh lengths w)) walks
sorted_walks mesh lengths [] h = tt
sorted_walks mesh lengths (w ∷ ws) h = (
  after ws (λ j l. h 0 (suc j) (omega arith) (omega (arith, l))),
  sorted_walks mesh lengths ws (λ i j lt l. h (suc i) (suc j) (omega (arith, lt)) (omega (arith, l))),
)
  where
    after : (vs : List (List ℕ)) →
        ((j : ℕ) → j < length vs →
        is_no_later (place_of_walk mesh lengths w) (place_of_walk mesh lengths (get_or vs j [])) ≡ true) →
        AllByRecursion (λ v. is_no_later (place_of_walk mesh lengths w) (place_of_walk mesh lengths v) ≡ true) vs
    after [] k = tt
    after (v ∷ vs) k = (k 0 (omega arith), after vs (λ j l. k (suc j) (omega (arith, l))))

-- ---- walks with paired cocycles are a basis, however long they are

no_length : (mesh : Mesh) (list : List (ℕ × ℕ)) →
    sum (map (λ s. edge_length [] (edge_number mesh s)) list) ≡ 0
no_length mesh [] = refl
no_length mesh (s ∷ list) =
    sum_by-cons (λ n. n) 0 (map (λ s. edge_length [] (edge_number mesh s)) list)
    ∙ ap (λ n. 0 + n) (no_length mesh list)

-- a sheet of no extent, which shows everything of walks that have no length
abbrev flat : ℕ → Sheet
flat to = record { from = 0; to = to; margin = 0; distance = λ v. 0; label = λ i v. false }

without_lengths : (mesh : Mesh) (lengths : List ℕ) (walks : List (List ℕ)) (cocycles : ℕ → Chain) →
    AreClaimed mesh lengths walks cocycles → AreShown mesh [] walks cocycles (flat (length walks) ∷ [])
without_lengths mesh lengths walks cocycles claimed = record {
  closed = claimed.closed;
  count = claimed.count;
  by_length = λ i j lt l. let none = no_length mesh (steps (get_or walks i [])) in omega (arith, none);
  are_cocycles = claimed.are_cocycles;
  paired = claimed.paired;
  are_sheets = All-from_recursion (IsSheet mesh [] walks cocycles) (flat (length walks) ∷ []) (
    record {
      slack = λ e e_in. (omega arith, omega arith);
      long = λ i e in_range i_in e_in crossed.
          let none = no_length mesh (steps (get_or walks i [])) in omega (arith, none);
    },
    tt,
  );
  served = λ i e i_in e_in on.
      inl (flat (length walks), (0, omega arith, refl), record { in_range = (omega arith, i_in); near = omega arith });
}

module _ (mesh : Mesh) (lengths : List ℕ) (walks : List (List ℕ)) (cocycles : ℕ → Chain)
    (surface : IsSurface mesh) (positive : ArePositive mesh lengths) (are : AreFirst mesh lengths walks cocycles)
    (trees : ℕ → Trees) (chosen : AreChosen mesh lengths trees) (d : Split) (split : IsSplit (cells_of mesh) d)
    (basis : List Loop) (is : IsChosenBasis mesh lengths trees basis) where
  -- the classes of the loops of the basis up to a place
  abbrev basis_in : Place → List ℕ
  basis_in limit = map (λ c. class_of mesh d c.walk) (filter (is_loop_within limit) basis)

  -- whether a walk comes no later than a place
  abbrev fits : Place → List ℕ → Bool
  fits limit v = is_no_later (place_of_walk mesh lengths v) limit

  abbrev walks_in : Place → List ℕ
  walks_in limit = map (class_of mesh d) (filter (fits limit) walks)

  free_walks : Free numbers (map (class_of mesh d) walks)
  free_walks = free_from_independent numbers (map (class_of mesh d) walks)
      ((independent_by_classes mesh d surface split walks are.claimed.closed).0
      (independent mesh surface walks cocycles are.claimed.closed are.claimed.are_cocycles are.claimed.paired))

  -- a closed walk is a sum of the walks that come no later
  in_walks : (limit : Place) (w : List ℕ) → IsClosed mesh w → fits limit w ≡ true →
      InSpan numbers (walks_in limit) (class_of mesh d w)
  in_walks limit w closed no_later =
      in_from_spanned numbers (walks_in limit) (class_of mesh d w)
      (spanned_from_depends mesh d surface split (filter (fits limit) walks) w
      (sum_of_fitting mesh [] walks cocycles (flat (length walks) ∷ []) surface
      (without_lengths mesh lengths walks cocycles are.claimed) (fits limit) w closed
      (λ i j lt l h. no_later-trans (place_of_walk mesh lengths (get_or walks i []))
      (place_of_walk mesh lengths (get_or walks j [])) limit (are.claimed.by_place i j lt l) h)
      (λ j l odd_on. no_later-trans (place_of_walk mesh lengths (get_or walks j [])) (place_of_walk mesh lengths w) limit
      (are.first j l w closed odd_on) no_later)))

  -- and of the loops of the basis that come no later
  in_basis : (limit : Place) (w : List ℕ) → IsClosed mesh w → fits limit w ≡ true →
      InSpan numbers (basis_in limit) (class_of mesh d w)
  in_basis limit [] closed no_later = absurd (omega (arith, closed.is_walk.begins))
  in_basis limit (u ∷ rest) closed no_later =
      let s = cells_of mesh in
      let g = primal s in
      let cs = candidates mesh lengths trees in
      let w = graph_walk mesh surface lengths (u ∷ rest) closed in
      let size = walk_length mesh lengths (u ∷ rest) in
      let own = class_of mesh d (u ∷ rest) in
      let is_size = w.size in
      let here : InSpan numbers (map (λ c. class_of mesh d c.walk) (filter (is_loop_within (size, u)) cs))
      (signature_of s d (walk_chain g u rest)) =
      walk_at_spanned mesh lengths (λ x. (trees x).tree) surface positive
      (shortest_trees mesh lengths surface positive trees chosen) trees chosen d split u rest size w.start_in w.closed
      (omega (arith, is_size)) in
      let same : signature_of s d (walk_chain g u rest) ≡ own =
      signature_of-same s d (walk_chain g u rest) (parity mesh (u ∷ rest)) (λ e l. sym (w.chain e l)) in
      trans_in numbers (basis_in limit) (map (λ c. class_of mesh d c.walk) (filter (is_loop_within limit) cs)) own
      (basis_spans mesh lengths surface positive trees chosen d split basis is limit)
      (in_wider numbers (λ c. class_of mesh d c.walk) (is_loop_within (size, u)) (is_loop_within limit)
      (λ c h. no_later-trans (place_of_loop c) (size, u) limit h no_later) cs own
      (subst (InSpan numbers (map (λ c. class_of mesh d c.walk) (filter (is_loop_within (size, u)) cs))) same here))

  no_more_walks : (limit : Place) → length (filter (fits limit) walks) ≤ length (filter (is_loop_within limit) basis)
  no_more_walks limit =
      let all : AllInSpan numbers (basis_in limit) (walks_in limit) =
      all_passing numbers (class_of mesh d) (basis_in limit) (fits limit) walks
      (all_each (IsClosed mesh) (λ w. fits limit w ≡ true → InSpan numbers (basis_in limit) (class_of mesh d w)) walks
      (λ w closed no_later. in_basis limit w closed no_later) (recursion_from_All (IsClosed mesh) walks are.claimed.closed)) in
      let bound = count numbers (basis_in limit) (walks_in limit)
      (free_filter numbers (class_of mesh d) (fits limit) walks free_walks) all in
      omega (
        arith,
        bound,
        length-map (filter (fits limit) walks) (class_of mesh d),
        length-map (filter (is_loop_within limit) basis) (λ c. class_of mesh d c.walk),
      )

  -- a candidate is a closed walk at its base
  candidate_in : (limit : Place) (c : Loop) → IsLoopBelow mesh lengths trees mesh.vertices c →
      is_loop_within limit c ≡ true → InSpan numbers (walks_in limit) (class_of mesh d c.walk)
  candidate_in limit c h within =
      let own = shortest_trees mesh lengths surface positive trees chosen in
      let run = runs_loop mesh lengths surface (trees c.base).tree (own.is_tree c.base h.base_in)
      (own.shortest c.base h.base_in) c.edge h.of.edge_in in
      let walk_is : c.walk ≡ loop_walk mesh (trees c.base).tree c.edge = ap (λ k. k.walk) h.of.is in
      in_walks limit c.walk (subst (IsClosed mesh) (sym walk_is) run.closed.is_closed)
      (ap (λ p. is_no_later p limit) (loop_place mesh lengths surface positive trees chosen c h) ∙ within)

  no_more_basis : (limit : Place) → length (filter (is_loop_within limit) basis) ≤ length (filter (fits limit) walks)
  no_more_basis limit =
      let all : AllInSpan numbers (walks_in limit) (basis_in limit) =
      all_passing numbers (λ c. class_of mesh d c.walk) (walks_in limit) (is_loop_within limit) basis
      (each_of_basis mesh lengths surface positive trees chosen d split basis is
      (λ c. is_loop_within limit c ≡ true → InSpan numbers (walks_in limit) (class_of mesh d c.walk))
      (λ c h within. candidate_in limit c h within)) in
      let bound = count numbers (walks_in limit) (basis_in limit)
      (free_filter numbers (λ c. class_of mesh d c.walk) (is_loop_within limit) basis
      (free_basis mesh lengths surface positive trees chosen d split basis is)) all in
      omega (
        arith,
        bound,
        length-map (filter (fits limit) walks) (class_of mesh d),
        length-map (filter (is_loop_within limit) basis) (λ c. class_of mesh d c.walk),
      )

  same_as_basis : map (place_of_walk mesh lengths) walks ≡ map place_of_loop basis
  same_as_basis =
      same_places (map (place_of_walk mesh lengths) walks) (map place_of_loop basis)
      (sorted_places (place_of_walk mesh lengths) walks (sorted_walks mesh lengths walks are.claimed.by_place))
      (sorted_places place_of_loop basis (basis_sorted mesh lengths surface positive trees chosen d split basis is))
      (λ limit.
      let one = no_more_walks limit in
      let other = no_more_basis limit in
      omega (arith, one, other, count_up_to (place_of_walk mesh lengths) limit walks, count_up_to place_of_loop limit basis))

pub first_walks_have_places_of_basis : FirstWalksHavePlacesOfBasis
first_walks_have_places_of_basis mesh lengths walks cocycles trees basis surface positive are chosen is =
    let (d, split) = some_split mesh surface in
    same_as_basis mesh lengths walks cocycles surface positive are trees chosen d split basis is
