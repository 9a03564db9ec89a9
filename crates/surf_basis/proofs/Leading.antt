-- The first cycle of a basis that is chosen is the first candidate.
use Rattle.surf_basis.proofs.Common.{Cycle, first_of, as_loop, as_loops, IsTheBasis, IsFirstCandidate, ◌≡◌, ℕ, Bool, true, false, List, [], ◌∷◌, Some, refl, sym, ap, ◌∙◌, subst, arith, option_map, chosen, xor-false, Mesh, IsSurface, parity, ArePositive, IsBoundary, IsNull, total_parity, MatchBool, slice_index_or, first_is_shortest}
use Rattle.surf_surfaces.specs.Choice.{Trees, AreChosen, Loop, candidates, DependsOn, DependsAt, IsGreedyChoice}
use Rattle.surf_surfaces.proofs.walks.CycleLaws.{null_cycles_separate}

-- a walk that depends on no other is null
alone_null : (mesh : Mesh) (walk : List ℕ) (choice : List Bool) →
    IsBoundary mesh (total_parity mesh (walk ∷ chosen choice [])) → IsNull mesh walk
alone_null mesh walk [] (faces, is) = (faces, λ e l. sym (xor-false (parity mesh walk e)) ∙ is e l)
alone_null mesh walk (b ∷ bs) (faces, is) = (faces, λ e l. sym (xor-false (parity mesh walk e)) ∙ is e l)

none_chosen : (keep : List Bool) → ◌≡◌ {A = List Loop} (chosen keep []) []
none_chosen [] = refl
none_chosen (b ∷ bs) = refl

mapped_first : (cycles : List Cycle) → option_map as_loop (first_of cycles) ≡ first_of (as_loops cycles)
mapped_first [] = refl
mapped_first (c ∷ cs) = refl

module _ (mesh : Mesh) (lengths : List ℕ) (surface : IsSurface mesh) (positive : ArePositive mesh lengths) where
  module _ (trees : ℕ → Trees) (chosen_trees : AreChosen mesh lengths trees) where
    first_stands : (first : Loop) (rest : List Loop) → candidates mesh lengths trees ≡ first ∷ rest →
        DependsOn mesh [] first.walk → ⊥
    first_stands first rest is (choice, null) =
        let one = (first_is_shortest mesh lengths trees first rest surface positive chosen_trees is).0.nonseparating in
        one.separates_not ((null_cycles_separate mesh surface first.walk one.simple).0 (alone_null mesh first.walk choice null))

    pub first_kept : (basis loops : List Loop) → candidates mesh lengths trees ≡ loops → IsGreedyChoice mesh loops basis →
        first_of basis ≡ first_of loops
    first_kept basis [] e g = ap first_of (g.are_kept ∙ none_chosen g.keep)
    first_kept basis (c ∷ cs) e g = of_keep g.keep refl
      where
        Stands : List Bool → Type 0
        Stands keep = MatchBool (slice_index_or keep 0 false) (DependsAt mesh (c ∷ cs) 0 c → ⊥) (DependsAt mesh (c ∷ cs) 0 c)

        stands : (keep : List Bool) → g.keep ≡ keep → Stands keep
        stands keep k = subst Stands k (g.exactly 0 c (omega arith))

        of_keep : (keep : List Bool) → g.keep ≡ keep → first_of basis ≡ Some c
        of_keep [] k = absurd (first_stands c cs e (stands [] k))
        of_keep (false ∷ bs) k = absurd (first_stands c cs e (stands (false ∷ bs) k))
        of_keep (true ∷ bs) k = ap first_of (g.are_kept ∙ ap (λ keep. chosen keep (c ∷ cs)) k)

  pub basis_first : (cycles : List Cycle) → IsTheBasis mesh lengths (as_loops cycles) →
      IsFirstCandidate mesh lengths (first_of cycles)
  basis_first cycles is trees chosen_trees =
      mapped_first cycles
      ∙ first_kept trees chosen_trees (as_loops cycles) (candidates mesh lengths trees) refl (is trees chosen_trees)
