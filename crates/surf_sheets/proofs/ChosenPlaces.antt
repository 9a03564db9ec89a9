-- The loops of the chosen basis by their places: how they stand, and what those up to a place span.
use Rattle.surf_surfaces.proofs.Common.{◌≡◌, ℕ, true, false, List, [], ◌∷◌, map, filter, sym, ap, ◌∙◌, subst, inl, inr, AllByRecursion, cases_Bool, false≢true, greedy, numbers, is_nothing, Independent, Sorted, Decides-is_nothing, Split, IsSplit, Mesh, IsSurface, ArePositive, first, walk_length, cells_of, class_of, loop_walk, Trees, AreChosen, Loop, candidates, IsChosenBasis, greedy_law, all_kept, ArePassingFirst, sorted_greedy, filter_of_greedy, AllInSpan, Free, free_from_independent, Place, is_no_later, place_of_loop}
use Rattle.surf_surfaces.proofs.bases.BasisLaws.{basis_is}
use Rattle.surf_surfaces.proofs.bases.CandidateLaws.{IsLoopBelow, below-sorted, below_each}
use Rattle.surf_surfaces.proofs.bases.CoveredLaws.{all_chosen}
use Rattle.surf_surfaces.proofs.bases.FewBasesLaws.{no_later-trans, is_loop_within}
use Rattle.surf_surfaces.proofs.bases.FirstCycleLaws.{shortest_trees}
use Rattle.surf_surfaces.proofs.bases.FoundPlaces.{by_place}
use Rattle.surf_surfaces.proofs.classes.ClassLaws.{runs_loop}
use Rattle.surf_surfaces.proofs.classes.LeastLaws.{all_each}
use Rattle.surf_sheets.specs.Placed.{place_of_walk}

-- those up to a place stand first
first_within : (limit : Place) (cs : List Loop) → Sorted (λ c d. is_no_later (place_of_loop c) (place_of_loop d)) cs →
    ArePassingFirst (is_loop_within limit) cs
first_within limit [] s = tt
first_within limit (c ∷ cs) s = (
  λ out. all_each (λ d. is_no_later (place_of_loop c) (place_of_loop d) ≡ true) (λ d. is_loop_within limit d ≡ false) cs
      (λ d after. elim (cases_Bool (is_loop_within limit d)) [
        | inr off ↦ off
        | inl fits ↦ absurd (false≢true (sym out ∙ no_later-trans (place_of_loop c) (place_of_loop d) limit after fits))
      ]) s.0,
  first_within limit cs s.1,
)

module _ (mesh : Mesh) (lengths : List ℕ) (surface : IsSurface mesh) (positive : ArePositive mesh lengths)
    (trees : ℕ → Trees) (chosen : AreChosen mesh lengths trees) where
  -- a candidate begins at its base, and has its length
  pub loop_place : (c : Loop) → IsLoopBelow mesh lengths trees mesh.vertices c →
      place_of_walk mesh lengths c.walk ≡ place_of_loop c
  loop_place c h =
      let at = chosen c.base h.base_in in
      let own = shortest_trees mesh lengths surface positive trees chosen in
      let tree = (trees c.base).tree in
      let run = runs_loop mesh lengths surface tree (own.is_tree c.base h.base_in) (own.shortest c.base h.base_in)
      c.edge h.of.edge_in in
      let walk_is : c.walk ≡ loop_walk mesh tree c.edge = ap (λ k. k.walk) h.of.is in
      let size_is : walk_length mesh lengths (loop_walk mesh tree c.edge) ≡ c.size =
      run.size ∙ sym (ap (λ k. k.size) h.of.is) in
      let base_is : first (loop_walk mesh tree c.edge) ≡ c.base = run.closed.at_base ∙ at.shortest.root in
      ap (place_of_walk mesh lengths) walk_is
      ∙ ap (λ n. (n, first (loop_walk mesh tree c.edge))) size_is ∙ ap (λ n. (c.size, n)) base_is

module _ (mesh : Mesh) (lengths : List ℕ) (surface : IsSurface mesh) (positive : ArePositive mesh lengths)
    (trees : ℕ → Trees) (chosen : AreChosen mesh lengths trees) (d : Split) (split : IsSplit (cells_of mesh) d)
    (basis : List Loop) (is : IsChosenBasis mesh lengths trees basis) where
  -- the classes of the loops of the basis up to a place
  abbrev basis_in : Place → List ℕ
  basis_in limit = map (λ c. class_of mesh d c.walk) (filter (is_loop_within limit) basis)

  same_basis : basis ≡ greedy numbers is_nothing (λ c. class_of mesh d c.walk) (candidates mesh lengths trees)
  same_basis = basis_is mesh lengths trees surface positive chosen d split basis is

  pub free_basis : Free numbers (map (λ c. class_of mesh d c.walk) basis)
  free_basis = free_from_independent numbers (map (λ c. class_of mesh d c.walk) basis)
      (subst (λ cs. Independent numbers (map (λ c. class_of mesh d c.walk) cs)) (sym same_basis)
      ((greedy_law numbers is_nothing Decides-is_nothing (λ c. class_of mesh d c.walk)).independent
      (candidates mesh lengths trees)))

  pub basis_spans : (limit : Place) → AllInSpan numbers (basis_in limit)
      (map (λ c. class_of mesh d c.walk) (filter (is_loop_within limit) (candidates mesh lengths trees)))
  basis_spans limit =
      let cs = candidates mesh lengths trees in
      let up = filter (is_loop_within limit) cs in
      let same : greedy numbers is_nothing (λ c. class_of mesh d c.walk) up ≡ filter (is_loop_within limit) basis =
      sym (filter_of_greedy numbers (λ c. class_of mesh d c.walk) is_nothing Decides-is_nothing (is_loop_within limit) []
      cs (first_within limit cs (by_place cs (below-sorted mesh lengths trees mesh.vertices))))
      ∙ ap (filter (is_loop_within limit)) (sym same_basis) in
      subst (λ ds. AllInSpan numbers (map (λ c. class_of mesh d c.walk) ds) (map (λ c. class_of mesh d c.walk) up)) same
      (all_kept numbers is_nothing Decides-is_nothing (λ c. class_of mesh d c.walk) [] up)

  pub basis_sorted : Sorted (λ c e. is_no_later (place_of_loop c) (place_of_loop e)) basis
  basis_sorted = subst (Sorted (λ c e. is_no_later (place_of_loop c) (place_of_loop e))) (sym same_basis)
      (sorted_greedy numbers (λ c. class_of mesh d c.walk) is_nothing Decides-is_nothing
      (λ c e. is_no_later (place_of_loop c) (place_of_loop e)) [] (candidates mesh lengths trees)
      (by_place (candidates mesh lengths trees) (below-sorted mesh lengths trees mesh.vertices)))

  -- what holds of each candidate holds of each loop of the basis
  pub each_of_basis : (P : Loop → Type 0) → ((c : Loop) → IsLoopBelow mesh lengths trees mesh.vertices c → P c) →
      AllByRecursion P basis
  each_of_basis P h = subst (AllByRecursion P) (sym is.are_kept)
      (all_chosen P is.keep (candidates mesh lengths trees)
      (all_each (IsLoopBelow mesh lengths trees mesh.vertices) P (candidates mesh lengths trees) h
      (below_each mesh lengths trees mesh.vertices)))
