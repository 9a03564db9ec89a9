-- The loops of the chosen basis are simple cycles.
use Rattle.surf_surfaces.proofs.Common.{◌≡◌, ℕ, zero, suc, ◌<◌, ◌≤◌, Bool, true, false, List, [], ◌∷◌, length, map, take, get_or, AllByRecursion, cases_Bool, All-from_recursion, any_below, numbers, is_nothing, chosen, difference, Spanned, Decides-is_nothing, any_below-found, any_below-none, InSpan, add_in, in_from_spanned, spanned_from_in, primal, Split, IsSplit, IsGraphWalk, walk_chain, graph_walk_length, signature_of, signature_of-same, signature_of-linear, joined_below, Mesh, edge_count, IsSurface, IsClosed, edge_length, first, parity, walk_length, ArePositive, cells_of, class_of, Trees, AreChosen, Loop, walks, candidates, DependsOn, IsChosenBasis, IsSimpleCycle, tail}
use Rattle.std.proofs.Common.{bit_xor, All, refl, sym, ◌∙◌, subst, arith, inl, inr, MatchBool}
use Rattle.surf_z2.proofs.Least.{lighter_before}
use Rattle.surf_graphs.proofs.Splitting.{simple_or_two}
use Rattle.surf_surfaces.proofs.meshes.CellLaws.{surfaces_are_cells}
use Rattle.surf_surfaces.proofs.walks.GraphWalkLaws.{graph_walk}
use Rattle.surf_surfaces.proofs.classes.LeastLaws.{all_mapped}
use Rattle.surf_surfaces.proofs.classes.LeastCycleLaws.{walk_positive, simple_from_graph}
use Rattle.surf_surfaces.proofs.bases.GreedyChoiceLaws.{from_spanned}
use Rattle.surf_surfaces.proofs.bases.CoveredLaws.{below_closed, below_sized, graph_walk_covered, candidates_rise}

-- a list's members by what is known of the chosen places
chosen_each : {X : Type 0} (P : X → Type 0) (choice : List Bool) (xs : List X) →
    ((i : ℕ) (d : X) → i < length xs → get_or choice i false ≡ true → P (get_or xs i d)) →
    AllByRecursion P (chosen choice xs)
chosen_each P [] xs h = tt
chosen_each P (b ∷ bs) [] h = tt
chosen_each P (true ∷ bs) (x ∷ xs) h =
    (h zero x (omega arith) refl, chosen_each P bs xs (λ i d l on. h (suc i) d (omega arith) on))
chosen_each P (false ∷ bs) (x ∷ xs) h = chosen_each P bs xs (λ i d l on. h (suc i) d (omega arith) on)

module _ (mesh : Mesh) (lengths : List ℕ) (trees : ℕ → Trees) (surface : IsSurface mesh)
    (positive : ArePositive mesh lengths) (chosen_trees : AreChosen mesh lengths trees) where
  module _ (d : Split) (split : IsSplit (cells_of mesh) d) where
    module _ (basis : List Loop) (is : IsChosenBasis mesh lengths trees basis) where
      start_below : (a b : ℕ) (w : List ℕ) → IsGraphWalk (primal (cells_of mesh)) a w b → 1 ≤ length w →
          a < mesh.vertices
      start_below a b [] walk some = absurd (omega arith)
      start_below a b (c ∷ w) walk some =
          joined_below (primal (cells_of mesh)) (surfaces_are_cells mesh surface).complex.primal_ends a c walk.0

      -- a shorter closed walk of the graph is a sum of the candidates before
      shorter_spanned : (i : ℕ) (c : Loop) (a : ℕ) (w : List ℕ) → i < length (candidates mesh lengths trees) →
          IsGraphWalk (primal (cells_of mesh)) a w a → 1 ≤ length w →
          graph_walk_length (primal (cells_of mesh)) (edge_length lengths) a w <
          (get_or (candidates mesh lengths trees) i c).size →
          InSpan numbers (map (λ x. class_of mesh d x.walk) (take i (candidates mesh lengths trees)))
          (signature_of (cells_of mesh) d (walk_chain (primal (cells_of mesh)) a w))
      shorter_spanned i c a w i_in walk some shorter =
          let limit = graph_walk_length (primal (cells_of mesh)) (edge_length lengths) a w in
          lighter_before numbers is_nothing Decides-is_nothing (λ x. x.size) (λ x. class_of mesh d x.walk) limit
          (candidates mesh lengths trees) i c
          (candidates_rise mesh lengths trees surface positive chosen_trees d split) i_in shorter
          (signature_of (cells_of mesh) d (walk_chain (primal (cells_of mesh)) a w))
          (in_from_spanned numbers _ _
          (graph_walk_covered mesh lengths trees surface positive chosen_trees d split a w
          (start_below a a w walk some) walk))

      -- a candidate that depends on none before it is a simple cycle
      pub fresh_simple : (i : ℕ) (c : Loop) → i < length (candidates mesh lengths trees) →
          (Spanned numbers (map (λ x. class_of mesh d x.walk) (take i (candidates mesh lengths trees)))
          (class_of mesh d (get_or (candidates mesh lengths trees) i c).walk) → ⊥) →
          IsSimpleCycle mesh (get_or (candidates mesh lengths trees) i c).walk
      fresh_simple i c i_in fresh =
          let s = cells_of mesh in
          let g = primal s in
          let len = edge_length lengths in
          let loop = get_or (candidates mesh lengths trees) i c in
          let walk = loop.walk in
          let before = map (λ x. class_of mesh d x.walk) (take i (candidates mesh lengths trees)) in
          let all_closed : All (λ x. IsClosed mesh x.walk) (candidates mesh lengths trees) =
          All-from_recursion (λ x. IsClosed mesh x.walk) (candidates mesh lengths trees)
          (below_closed mesh lengths trees surface positive chosen_trees mesh.vertices (omega arith)) in
          let all_sized : All (λ x. walk_length mesh lengths x.walk ≡ x.size) (candidates mesh lengths trees) =
          All-from_recursion (λ x. walk_length mesh lengths x.walk ≡ x.size) (candidates mesh lengths trees)
          (below_sized mesh lengths trees surface positive chosen_trees mesh.vertices (omega arith)) in
          let closed : IsClosed mesh walk = all_closed i c i_in in
          let sized : walk_length mesh lengths walk ≡ loop.size = all_sized i c i_in in
          let w = graph_walk mesh surface lengths walk closed in
          let chain = walk_chain g (first walk) (tail walk) in
          let class_is : class_of mesh d walk ≡ signature_of s d chain =
          signature_of-same s d (parity mesh walk) chain w.chain in
          let cells = surfaces_are_cells mesh surface in
          elim (cases_Bool (any_below (edge_count mesh) chain)) [
            | inl some_edge ↦
                let r = any_below-found (edge_count mesh) chain some_edge in
                elim (simple_or_two g cells.one_edge cells.ends_differ (first walk) (tail walk) w.closed r.0 r.2) [
                  | inl cycle ↦ simple_from_graph mesh walk closed cycle
                  | inr two ↦
                      let adds = two.long len in
                      let first_long = walk_positive g len positive (first walk) (first walk) two.first two.first_walk
                      two.first_some in
                      let second_long = walk_positive g len positive two.base two.base two.second two.second_walk
                      two.second_some in
                      let one = shorter_spanned i c (first walk) two.first i_in two.first_walk two.first_some
                      (omega (arith, adds, second_long, w.size, sized)) in
                      let other = shorter_spanned i c two.base two.second i_in two.second_walk two.second_some
                      (omega (arith, adds, first_long, w.size, sized)) in
                      let sum_is : class_of mesh d walk
                      ≡ bit_xor (signature_of s d (walk_chain g (first walk) two.first))
                      (signature_of s d (walk_chain g two.base two.second)) =
                      class_is ∙ signature_of-same s d chain
                      (difference (walk_chain g (first walk) two.first) (walk_chain g two.base two.second))
                      (λ e l. two.edges e)
                      ∙ (signature_of-linear s d).add (walk_chain g (first walk) two.first)
                      (walk_chain g two.base two.second) in
                      absurd (fresh (spanned_from_in numbers before (class_of mesh d walk)
                      (subst (InSpan numbers before) (sym sum_is)
                      (add_in numbers before (signature_of s d (walk_chain g (first walk) two.first))
                      (signature_of s d (walk_chain g two.base two.second)) one other))))
                ]
            | inr none ↦
                let zero_is : class_of mesh d walk ≡ 0 =
                class_is ∙ signature_of-same s d chain (λ e. false)
                (λ e l. any_below-none (edge_count mesh) chain none e l) ∙ (signature_of-linear s d).zero in
                absurd (fresh ([], sym zero_is))
          ]

      -- what holds of the candidates that depend on none before them holds of the basis
      pub basis_each : (P : Loop → Type 0) →
          ((i : ℕ) (c : Loop) → i < length (candidates mesh lengths trees) →
          (Spanned numbers (map (λ x. class_of mesh d x.walk) (take i (candidates mesh lengths trees)))
          (class_of mesh d (get_or (candidates mesh lengths trees) i c).walk) → ⊥) →
          P (get_or (candidates mesh lengths trees) i c)) → AllByRecursion P basis
      basis_each P fresh =
          subst (AllByRecursion P) (sym is.are_kept)
          (chosen_each P is.keep (candidates mesh lengths trees) (λ i c i_in on.
          fresh i c i_in (λ h.
          let kept : MatchBool true
          (DependsOn mesh (walks (take i (candidates mesh lengths trees)))
          (get_or (candidates mesh lengths trees) i c).walk → ⊥)
          (DependsOn mesh (walks (take i (candidates mesh lengths trees)))
          (get_or (candidates mesh lengths trees) i c).walk) =
          subst (λ b. MatchBool b
          (DependsOn mesh (walks (take i (candidates mesh lengths trees)))
          (get_or (candidates mesh lengths trees) i c).walk → ⊥)
          (DependsOn mesh (walks (take i (candidates mesh lengths trees)))
          (get_or (candidates mesh lengths trees) i c).walk)) on (is.exactly i c i_in) in
          kept (from_spanned mesh d surface split (candidates mesh lengths trees)
          (below_closed mesh lengths trees surface positive chosen_trees mesh.vertices (omega arith)) i c i_in h))))

      pub basis_simple : AllByRecursion (IsSimpleCycle mesh) (walks basis)
      basis_simple =
          all_mapped (IsSimpleCycle mesh) (λ c. c.walk) basis (basis_each (λ c. IsSimpleCycle mesh c.walk) fresh_simple)
