-- The places of loops that are enough are those of the basis.
use Rattle.surf_surfaces.proofs.Common.{◌≡◌, ℕ, suc, ◌≤◌, Bool, true, false, cond, List, [], ◌∷◌, length, map, filter, refl, sym, ap, ◌∙◌, subst, arith, inl, inr, AllByRecursion, cases_Bool, false≢true, nat_tests, map-map, length-map, recursion_from_All, All-from_recursion, greedy, numbers, is_nothing, Independent, Sorted, sorted_from_order, Decides-is_nothing, Split, IsSplit, Tree, Mesh, IsSurface, IsClosed, ArePositive, IsIndependent, cells_of, class_of, AreShortestTrees, Trees, AreChosen, Loop, comes_before, candidates, IsChosenBasis, greedy_law, all_kept, filter_none, ArePassingFirst, all_passing, all_greedy, sorted_greedy, filter_of_greedy, in_wider, free_filter, InSpan, AllInSpan, Free, count, trans_in, free_from_independent}
use Rattle.surf_surfaces.specs.FewBases.{Place, is_no_later, Found, place_of_found, place_of_loop, is_within, walks_found, MeetsAll, IsFoundLoop, AreEnough, comes_no_later, PlacesAreThoseOfBasis}
use Rattle.surf_surfaces.proofs.bases.BasisLaws.{basis_is}
use Rattle.surf_surfaces.proofs.bases.CandidateLaws.{IsLoopBelow, below-sorted, below_each}
use Rattle.surf_surfaces.proofs.classes.ClassLaws.{some_split, independent_by_classes}
use Rattle.surf_surfaces.proofs.bases.FewBasesLaws.{no_later-trans, no_later-same, is_loop_within, found_in_candidates, found_within, candidate_in_found}
use Rattle.surf_surfaces.proofs.bases.FirstFoundLaws.{one_place}
use Rattle.surf_surfaces.proofs.bases.FoundLaws.{found_closed}
use Rattle.surf_surfaces.proofs.classes.LeastLaws.{all_each, all_mapped}

-- ---- lists of places

-- those up to a place
abbrev pub up_to : Place → List Place → List Place
up_to limit ps = filter (λ p. is_no_later p limit) ps

same_place : (p q : Place) → is_no_later p q ≡ true → is_no_later q p ≡ true → p ≡ q
same_place p q h k =
    let both = one_place p.0 p.1 q.0 q.1 h k in
    ap (λ a. (a, p.1)) (sym both.0) ∙ ap (λ b. (q.0, b)) (sym both.1)

-- where none is up to a place that comes later, there is none
none_up_to : (limit p : Place) (ps : List Place) → is_no_later p limit ≡ false →
    AllByRecursion (λ q. is_no_later p q ≡ true) ps → up_to limit (p ∷ ps) ≡ []
none_up_to limit p ps out after =
    filter_none (λ q. is_no_later q limit) (p ∷ ps) (
      out,
      all_each (λ q. is_no_later p q ≡ true) (λ q. is_no_later q limit ≡ false) ps
          (λ q h. elim (cases_Bool (is_no_later q limit)) [
            | inl fits ↦ absurd (false≢true (sym out ∙ no_later-trans p q limit h fits))
            | inr off ↦ off
          ]) after,
    )

-- the first place of a list is up to another's first where as many are
first_up_to : (p q : Place) (ps qs : List Place) → AllByRecursion (λ r. is_no_later p r ≡ true) ps →
    length (up_to q (p ∷ ps)) ≡ length (up_to q (q ∷ qs)) → is_no_later p q ≡ true
first_up_to p q ps qs after same = elim (cases_Bool (is_no_later p q)) [
  | inl h ↦ h
  | inr out ↦
      let none = ap length (none_up_to q p ps out after) in
      let some : length (up_to q (q ∷ qs)) ≡ suc (length (up_to q qs)) = rw (no_later-same q) refl in
      absurd (omega (arith, none, some, same))
]

same_rest : (b : Bool) (ps qs : List Place) (p : Place) → length (cond b (p ∷ ps) ps) ≡ length (cond b (p ∷ qs) qs) →
    length ps ≡ length qs
same_rest true ps qs p h = omega arith
same_rest false ps qs p h = h

-- lists in order of which as many are up to each place are the same
pub same_places : (ps qs : List Place) → Sorted is_no_later ps → Sorted is_no_later qs →
    ((limit : Place) → length (up_to limit ps) ≡ length (up_to limit qs)) → ps ≡ qs
same_places [] [] s t same = refl
same_places [] (q ∷ qs) s t same =
    let some : length (up_to q (q ∷ qs)) ≡ suc (length (up_to q qs)) = rw (no_later-same q) refl in
    let at = same q in
    absurd (omega (arith, some, at))
same_places (p ∷ ps) [] s t same =
    let some : length (up_to p (p ∷ ps)) ≡ suc (length (up_to p ps)) = rw (no_later-same p) refl in
    let at = same p in
    absurd (omega (arith, some, at))
same_places (p ∷ ps) (q ∷ qs) s t same =
    let one = first_up_to p q ps qs s.0 (same q) in
    let other = first_up_to q p qs ps t.0 (sym (same p)) in
    let first : p ≡ q = same_place p q one other in
    let rest = same_places ps qs s.1 t.1 (λ limit. same_rest (is_no_later p limit) (up_to limit ps) (up_to limit qs) p
    (same limit ∙ ap (λ r. length (up_to limit (r ∷ qs))) (sym first))) in
    ap (λ r. r ∷ ps) first ∙ ap (λ rs. q ∷ rs) rest

-- ---- places of loops

module _ {X : Type 0} (place : X → Place) where
  count_up_to : (limit : Place) (xs : List X) →
      length (up_to limit (map place xs)) ≡ length (filter (λ x. is_no_later (place x) limit) xs)
  count_up_to limit [] = refl
  count_up_to limit (x ∷ xs) = split (is_no_later (place x) limit) (count_up_to limit xs)
    where
      split : (b : Bool) →
          length (up_to limit (map place xs)) ≡ length (filter (λ x. is_no_later (place x) limit) xs) →
          length (cond b (place x ∷ up_to limit (map place xs)) (up_to limit (map place xs)))
          ≡ length (cond b (x ∷ filter (λ x. is_no_later (place x) limit) xs)
          (filter (λ x. is_no_later (place x) limit) xs))
      split true e = ap suc e
      split false e = e

  pub sorted_places : (xs : List X) → Sorted (λ x y. is_no_later (place x) (place y)) xs →
      Sorted is_no_later (map place xs)
  sorted_places [] s = tt
  sorted_places (x ∷ xs) s = (all_mapped (λ q. is_no_later (place x) q ≡ true) place xs s.0, sorted_places xs s.1)

-- loops in order are in order of place
loop_no_later : (c d : Loop) → comes_before c d ≡ true → is_no_later (place_of_loop c) (place_of_loop d) ≡ true
loop_no_later c d h = grind (arith, nat_tests)

pub by_place : (cs : List Loop) → Sorted comes_before cs →
    Sorted (λ c d. is_no_later (place_of_loop c) (place_of_loop d)) cs
by_place [] s = tt
by_place (c ∷ cs) s = (
  all_each (λ d. comes_before c d ≡ true) (λ d. is_no_later (place_of_loop c) (place_of_loop d) ≡ true) cs
      (λ d h. loop_no_later c d h) s.0,
  by_place cs s.1,
)

-- those up to a place stand first
first_within : (limit : Place) (cs : List Loop) → Sorted (λ c d. is_no_later (place_of_loop c) (place_of_loop d)) cs →
    ArePassingFirst (is_loop_within limit) cs
first_within limit [] s = tt
first_within limit (c ∷ cs) s = (
  λ out. all_each (λ d. is_no_later (place_of_loop c) (place_of_loop d) ≡ true) (λ d. is_loop_within limit d ≡ false) cs
      (λ d after. elim (cases_Bool (is_loop_within limit d)) [
        | inr off ↦ off
        | inl fits ↦ absurd (false≢true (sym out ∙ no_later-trans (place_of_loop c) (place_of_loop d) limit after fits))
      ]) s.0,
  first_within limit cs s.1,
)

module _ (mesh : Mesh) (lengths : List ℕ) (searched : ℕ → Tree) (surface : IsSurface mesh)
    (positive : ArePositive mesh lengths) (shortest : AreShortestTrees mesh lengths searched) (trees : ℕ → Trees)
    (chosen : AreChosen mesh lengths trees) (d : Split) (split : IsSplit (cells_of mesh) d) (set : ℕ → Bool)
    (meets : MeetsAll mesh set) (found : List Found) (enough : AreEnough mesh lengths searched set found)
    (independent : IsIndependent mesh (walks_found found)) (basis : List Loop)
    (is : IsChosenBasis mesh lengths trees basis) where
  same_basis : basis ≡ greedy numbers is_nothing (λ c. class_of mesh d c.walk) (candidates mesh lengths trees)
  same_basis = basis_is mesh lengths trees surface positive chosen d split basis is

  -- the classes of the loops of the basis up to a place
  abbrev basis_within : Place → List ℕ
  basis_within limit = map (λ c. class_of mesh d c.walk) (filter (is_loop_within limit) basis)

  free_found : Free numbers (map (λ k. class_of mesh d k.walk) found)
  free_found = free_from_independent numbers (map (λ k. class_of mesh d k.walk) found)
      (subst (Independent numbers) (map-map (class_of mesh d) (λ k. k.walk) found)
      ((independent_by_classes mesh d surface split (walks_found found)
      (All-from_recursion (IsClosed mesh) (walks_found found)
      (all_mapped (IsClosed mesh) (λ k. k.walk) found
      (found_closed mesh lengths searched surface shortest found enough.loops)))).0 independent))

  free_basis : Free numbers (map (λ c. class_of mesh d c.walk) basis)
  free_basis = free_from_independent numbers (map (λ c. class_of mesh d c.walk) basis)
      (subst (λ cs. Independent numbers (map (λ c. class_of mesh d c.walk) cs)) (sym same_basis)
      ((greedy_law numbers is_nothing Decides-is_nothing (λ c. class_of mesh d c.walk)).independent
      (candidates mesh lengths trees)))

  -- up to a place the basis spans what the candidates do
  basis_spans : (limit : Place) → AllInSpan numbers (basis_within limit)
      (map (λ c. class_of mesh d c.walk) (filter (is_loop_within limit) (candidates mesh lengths trees)))
  basis_spans limit =
      let cs = candidates mesh lengths trees in
      let up = filter (is_loop_within limit) cs in
      let same : greedy numbers is_nothing (λ c. class_of mesh d c.walk) up ≡ filter (is_loop_within limit) basis =
      sym (filter_of_greedy numbers (λ c. class_of mesh d c.walk) is_nothing Decides-is_nothing (is_loop_within limit) []
      cs (first_within limit cs (by_place cs (below-sorted mesh lengths trees mesh.vertices))))
      ∙ ap (filter (is_loop_within limit)) (sym same_basis) in
      subst (λ ds. AllInSpan numbers (map (λ c. class_of mesh d c.walk) ds) (map (λ c. class_of mesh d c.walk) up)) same
      (all_kept numbers is_nothing Decides-is_nothing (λ c. class_of mesh d c.walk) [] up)

  no_more_found : (limit : Place) → length (filter (is_within limit) found) ≤ length (filter (is_loop_within limit) basis)
  no_more_found limit =
      let cs = candidates mesh lengths trees in
      let ys = found_within mesh lengths searched surface positive shortest trees chosen d split limit found in
      let all : AllInSpan numbers (basis_within limit) ys =
      all_passing numbers (λ k. class_of mesh d k.walk) (basis_within limit) (is_within limit) found
      (all_each (IsFoundLoop mesh lengths searched)
      (λ k. is_within limit k ≡ true → InSpan numbers (basis_within limit) (class_of mesh d k.walk)) found
      (λ k loop fits.
      let own = class_of mesh d k.walk in
      trans_in numbers (basis_within limit)
      (map (λ c. class_of mesh d c.walk) (filter (is_loop_within limit) cs)) own (basis_spans limit)
      (in_wider numbers (λ c. class_of mesh d c.walk) (is_loop_within (place_of_found k)) (is_loop_within limit)
      (λ c h. no_later-trans (place_of_loop c) (place_of_found k) limit h fits) cs own
      (found_in_candidates mesh lengths searched surface positive shortest trees chosen d split k loop)))
      (recursion_from_All (IsFoundLoop mesh lengths searched) found enough.loops)) in
      let bound = count numbers (basis_within limit) ys
      (free_filter numbers (λ k. class_of mesh d k.walk) (is_within limit) found free_found) all in
      omega (
        arith,
        bound,
        length-map (filter (is_within limit) found) (λ k. class_of mesh d k.walk),
        length-map (filter (is_loop_within limit) basis) (λ c. class_of mesh d c.walk),
      )

  no_more_basis : (limit : Place) → length (filter (is_loop_within limit) basis) ≤ length (filter (is_within limit) found)
  no_more_basis limit =
      let cs = candidates mesh lengths trees in
      let xs = found_within mesh lengths searched surface positive shortest trees chosen d split limit found in
      let each : AllByRecursion (λ c. is_loop_within limit c ≡ true → InSpan numbers xs (class_of mesh d c.walk)) cs =
      all_each (IsLoopBelow mesh lengths trees mesh.vertices)
      (λ c. is_loop_within limit c ≡ true → InSpan numbers xs (class_of mesh d c.walk)) cs (λ c below fits.
      in_wider numbers (λ k. class_of mesh d k.walk) (is_within (place_of_loop c)) (is_within limit)
      (λ k h. no_later-trans (place_of_found k) (place_of_loop c) limit h fits) found (class_of mesh d c.walk)
      (candidate_in_found mesh lengths searched surface positive shortest trees chosen d split set meets found enough c
      below)) (below_each mesh lengths trees mesh.vertices) in
      let all : AllInSpan numbers xs (basis_within limit) =
      all_passing numbers (λ c. class_of mesh d c.walk) xs (is_loop_within limit) basis
      (subst (AllByRecursion (λ c. is_loop_within limit c ≡ true → InSpan numbers xs (class_of mesh d c.walk)))
      (sym same_basis)
      (all_greedy numbers (λ c. class_of mesh d c.walk) is_nothing Decides-is_nothing
      (λ c. is_loop_within limit c ≡ true → InSpan numbers xs (class_of mesh d c.walk)) [] cs each)) in
      let bound = count numbers xs (basis_within limit)
      (free_filter numbers (λ c. class_of mesh d c.walk) (is_loop_within limit) basis free_basis) all in
      omega (
        arith,
        bound,
        length-map (filter (is_within limit) found) (λ k. class_of mesh d k.walk),
        length-map (filter (is_loop_within limit) basis) (λ c. class_of mesh d c.walk),
      )

  basis_sorted : Sorted (λ c d. is_no_later (place_of_loop c) (place_of_loop d)) basis
  basis_sorted = subst (Sorted (λ c d. is_no_later (place_of_loop c) (place_of_loop d))) (sym same_basis)
      (sorted_greedy numbers (λ c. class_of mesh d c.walk) is_nothing Decides-is_nothing
      (λ c d. is_no_later (place_of_loop c) (place_of_loop d)) [] (candidates mesh lengths trees)
      (by_place (candidates mesh lengths trees) (below-sorted mesh lengths trees mesh.vertices)))

pub places_are_those_of_basis : PlacesAreThoseOfBasis
places_are_those_of_basis mesh lengths trees searched set found basis surface positive chosen shortest meets enough
    independent ordered is =
    let (d, split) = some_split mesh surface in
    same_places (map place_of_found found) (map place_of_loop basis)
    (sorted_places place_of_found found (sorted_from_order comes_no_later found ordered))
    (sorted_places place_of_loop basis
    (basis_sorted mesh lengths searched surface positive shortest trees chosen d split set meets found enough independent
    basis is))
    (λ limit.
    let one = no_more_found mesh lengths searched surface positive shortest trees chosen d split set meets found enough
    independent basis is limit in
    let other = no_more_basis mesh lengths searched surface positive shortest trees chosen d split set meets found enough
    independent basis is limit in
    omega (arith, one, other, count_up_to place_of_found limit found, count_up_to place_of_loop limit basis))
