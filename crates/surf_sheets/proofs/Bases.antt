-- Walks with cocycles and sheets are a least basis.
use Rattle.surf_surfaces.proofs.Common.{◌≡◌, ℕ, ◌<◌, Bool, true, false, List, [], ◌∷◌, length, get_or, map, filter, refl, sym, ap, ◌∙◌, subst, arith, inl, inr, AllByRecursion, All, cases_eq, leb, leb-true, le-leb, length-map, map-map, recursion_from_All, All-from_recursion, all_filtered, xor, odd, Chain, difference, chains, chosen, sum_of, IsEven, even-xor, primal, Split, IsSplit, IsNullChain, signature_of, null_zero, zero_null, left_edges, cells_of, Mesh, edge_count, IsSurface, IsClosed, IsIndependent, parity, walk_length, DependsOn}
use Rattle.surf_z2.proofs.Below.{chosen-map}
use Rattle.surf_z2.proofs.ParityLaws.{odd_below-xor-and, equal_xor}
use Rattle.surf_graphs.specs.Independence.{AreIndependentChains}
use Rattle.surf_graphs.proofs.Independence.{even_chosen, independent_bound}
use Rattle.surf_surfaces.specs.Homology.{IsBasis}
use Rattle.surf_surfaces.specs.Places.{IsShortSum}
use Rattle.surf_surfaces.proofs.meshes.CellLaws.{surfaces_are_cells}
use Rattle.surf_surfaces.proofs.walks.GraphWalkLaws.{closed_parity_even}
use Rattle.surf_surfaces.proofs.classes.ClassLaws.{some_split, independence_is_that_of_chains}
use Rattle.surf_surfaces.proofs.classes.LeastLaws.{all_each, all_mapped}
use Rattle.surf_surfaces.proofs.classes.PlaceLaws.{bases_are_least_in_order}
use Rattle.surf_surfaces.proofs.classes.ShortSumLaws.{bases_are_least_by_short_sums}
use Rattle.surf_surfaces.proofs.classes.SumLaws.{total_from_sum}
use Rattle.surf_sheets.specs.Sheets.{IsCocycle, is_odd_on, ArePaired, Sheet, AreShown}
use Rattle.surf_sheets.specs.Laws.{ShownWalksAreLeast, ShownWalksAreLeastInOrder}
use Rattle.surf_sheets.proofs.Triangles.{IsTriangle, ArePassingFirst, nothing_chosen, some_chosen}
use Rattle.surf_sheets.proofs.Oddness.{odd_in, odd_sum, odd_parity, boundary_even_in}
use Rattle.surf_sheets.proofs.Ways.{odd_walks_are_no_shorter}

-- whether a walk's parity is odd on the cocycle with a number
abbrev on : Mesh → (ℕ → Chain) → ℕ → List ℕ → Bool
on mesh cocycles j walk = odd_in (edge_count mesh) (cocycles j) (parity mesh walk)

module _ (mesh : Mesh) (surface : IsSurface mesh) (walks : List (List ℕ)) (cocycles : ℕ → Chain)
    (closed : All (IsClosed mesh) walks) (are_cocycles : (i : ℕ) → i < length walks → IsCocycle mesh (cocycles i))
    (paired : ArePaired mesh walks cocycles) where
  closed_at : (i : ℕ) → i < length walks → IsClosed mesh (get_or walks i [])
  closed_at i l = closed i [] l

  triangle : IsTriangle (on mesh cocycles) walks []
  triangle = record {
    own = λ i l. sym (odd_parity mesh surface (cocycles i) (get_or walks i []) (closed_at i l)) ∙ paired.own i l;
    later = λ i j lt l. sym (odd_parity mesh surface (cocycles j) (get_or walks i []) (closed i [] (omega (arith, lt, l))))
        ∙ paired.later i j lt l;
  }

  -- the sum of walks, on a cocycle
  on_sum : (j : ℕ) (ws : List (List ℕ)) →
      odd_in (edge_count mesh) (cocycles j) (sum_of chains (map (parity mesh) ws)) ≡ odd (map (on mesh cocycles j) ws)
  on_sum j ws =
      odd_sum (edge_count mesh) (cocycles j) (map (parity mesh) ws)
      ∙ ap odd (map-map (λ x. odd_in (edge_count mesh) (cocycles j) x) (parity mesh) ws)

  -- walks whose sum is even on each cocycle are none
  none_even : (choice : List Bool) →
      ((j : ℕ) → j < length walks →
      odd_in (edge_count mesh) (cocycles j) (sum_of chains (map (parity mesh) (chosen choice walks))) ≡ false) →
      chosen choice walks ≡ []
  none_even choice even =
      nothing_chosen [] (on mesh cocycles) walks choice triangle
      (λ j l. sym (on_sum j (chosen choice walks)) ∙ even j l)

  -- the same of their chains
  no_chains : (choice : List Bool) →
      ((j : ℕ) → j < length walks →
      odd_in (edge_count mesh) (cocycles j) (sum_of chains (chosen choice (map (parity mesh) walks))) ≡ false) →
      chosen choice (map (parity mesh) walks) ≡ []
  no_chains choice even =
      chosen-map (parity mesh) choice walks ∙ ap (map (parity mesh)) (none_even choice (λ j l.
      ap (λ xs. odd_in (edge_count mesh) (cocycles j) (sum_of chains xs)) (sym (chosen-map (parity mesh) choice walks))
      ∙ even j l))

  chains_independent : AreIndependentChains (cells_of mesh) (map (parity mesh) walks)
  chains_independent choice null =
      no_chains choice (λ j l. boundary_even_in mesh surface (cocycles j) (are_cocycles j l)
      (sum_of chains (chosen choice (map (parity mesh) walks))) null)

  pub independent : IsIndependent mesh walks
  independent = (independence_is_that_of_chains mesh walks).1 chains_independent

  -- an even chain that is even on each cocycle and no boundary would be one more that is independent
  one_more : (z : Chain) → ((j : ℕ) → j < length walks → odd_in (edge_count mesh) (cocycles j) z ≡ false) →
      (IsNullChain (cells_of mesh) z → ⊥) → AreIndependentChains (cells_of mesh) (z ∷ map (parity mesh) walks)
  one_more z even some [] null = refl
  one_more z even some (false ∷ choice) null = chains_independent choice null
  one_more z even some (true ∷ choice) null =
      let rest = sum_of chains (chosen choice (map (parity mesh) walks)) in
      let none : chosen choice (map (parity mesh) walks) ≡ [] =
      no_chains choice (λ j l.
      ap (λ b. xor b (odd_in (edge_count mesh) (cocycles j) rest)) (sym (even j l))
      ∙ sym (odd_below-xor-and (edge_count mesh) z rest (cocycles j))
      ∙ boundary_even_in mesh surface (cocycles j) (are_cocycles j l) (difference z rest) null) in
      absurd (some (subst (IsNullChain (cells_of mesh))
      (ap (λ xs. difference z (sum_of chains xs)) none ∙ chains.comm z chains.zero ∙ chains.unit z) null))

  even_walks : AllByRecursion (IsEven (primal (cells_of mesh))) (map (parity mesh) walks)
  even_walks = all_mapped (IsEven (primal (cells_of mesh))) (parity mesh) walks
      (all_each (IsClosed mesh) (λ w. IsEven (primal (cells_of mesh)) (parity mesh w)) walks
      (λ w h. closed_parity_even mesh surface w h) (recursion_from_All (IsClosed mesh) walks closed))

  -- so it is a boundary, where the walks are as many as 2 − χ
  even_null : (d : Split) → IsSplit (cells_of mesh) d → length walks ≡ length d.left → (z : Chain) →
      IsEven (primal (cells_of mesh)) z →
      ((j : ℕ) → j < length walks → odd_in (edge_count mesh) (cocycles j) z ≡ false) → IsNullChain (cells_of mesh) z
  even_null d split as_many z is_even even =
      let s = cells_of mesh in
      let cells = (surfaces_are_cells mesh surface).complex in
      elim (cases_eq (signature_of s d z) 0) [
        | inl none ↦ zero_null s d cells split z is_even none
        | inr some ↦
            let few = independent_bound s d cells split (z ∷ map (parity mesh) walks)
            (All-from_recursion (IsEven (primal s)) (z ∷ map (parity mesh) walks) (is_even, even_walks))
            (one_more z even (λ null. some (null_zero s d cells split z null))) in
            let n = length-map walks (parity mesh) in
            absurd (omega (arith, few, n, as_many))
      ]

module _ (mesh : Mesh) (lengths : List ℕ) (walks : List (List ℕ)) (cocycles : ℕ → Chain) (sheets : List Sheet)
    (surface : IsSurface mesh) (shown : AreShown mesh lengths walks cocycles sheets) where
  basis : IsBasis mesh walks
  basis = record {
    closed = shown.closed;
    count = shown.count;
    independent = independent mesh surface walks cocycles shown.closed shown.are_cocycles shown.paired;
  }

  -- a closed walk that is odd only on cocycles of walks that fit is a sum of walks that fit, up to a boundary
  pub sum_of_fitting : (fits : List ℕ → Bool) (w : List ℕ) → IsClosed mesh w → ArePassingFirst fits walks [] →
      ((j : ℕ) → j < length walks → is_odd_on mesh (cocycles j) w ≡ true → fits (get_or walks j []) ≡ true) →
      DependsOn mesh (filter fits walks) w
  sum_of_fitting fits w w_closed first_fit each =
      let s = cells_of mesh in
      let (choice, same) = some_chosen [] (on mesh cocycles) fits (λ j. on mesh cocycles j w) walks
      (triangle mesh surface walks cocycles shown.closed shown.are_cocycles shown.paired) first_fit
      (λ j l h. each j l (odd_parity mesh surface (cocycles j) w w_closed ∙ h)) in
      let some = chosen choice (filter fits walks) in
      let (d, split) = some_split mesh surface in
      let count = shown.count in
      let left = left_edges s d split in
      let z = sum_of chains (map (parity mesh) (w ∷ some)) in (
        choice,
        total_from_sum mesh (w ∷ some)
            (even_null mesh surface walks cocycles shown.closed shown.are_cocycles shown.paired d split
            (omega (arith, count, left)) z (even_sum choice)
            (λ j l. on_sum mesh surface walks cocycles shown.closed shown.are_cocycles shown.paired j (w ∷ some)
            ∙ equal_xor (on mesh cocycles j w) (odd (map (on mesh cocycles j) some)) (same j l))),
      )
    where
      even_sum : (choice : List Bool) →
          IsEven (primal (cells_of mesh)) (sum_of chains (map (parity mesh) (w ∷ chosen choice (filter fits walks))))
      even_sum choice =
          let g = primal (cells_of mesh) in
          let rest = sum_of chains (map (parity mesh) (chosen choice (filter fits walks))) in
          even-xor g (parity mesh w) rest (closed_parity_even mesh surface w w_closed)
          (subst (λ xs. IsEven g (sum_of chains xs)) (chosen-map (parity mesh) choice (filter fits walks))
          (even_chosen g choice (map (parity mesh) (filter fits walks))
          (all_mapped (IsEven g) (parity mesh) (filter fits walks)
          (all_filtered fits (λ v. IsEven g (parity mesh v)) walks
          (all_each (IsClosed mesh) (λ v. IsEven g (parity mesh v)) walks
          (λ v h. closed_parity_even mesh surface v h) (recursion_from_All (IsClosed mesh) walks shown.closed))))))

  -- each closed walk is the sum of walks that are no longer, up to a boundary
  short_sum : (w : List ℕ) → IsClosed mesh w → IsShortSum mesh lengths walks w
  short_sum w w_closed =
      let limit = walk_length mesh lengths w in
      sum_of_fitting (λ v. leb (walk_length mesh lengths v) limit) w w_closed
      (λ i j lt l h.
      let sooner = shown.by_length i j lt l in
      let short = leb-true (walk_length mesh lengths (get_or walks j [])) limit h in
      le-leb (walk_length mesh lengths (get_or walks i [])) limit (omega (arith, sooner, short)))
      (λ j l h. le-leb (walk_length mesh lengths (get_or walks j [])) limit
      (odd_walks_are_no_shorter mesh lengths walks cocycles sheets surface shown j l w w_closed h))

pub shown_walks_are_least : ShownWalksAreLeast
shown_walks_are_least mesh lengths walks cocycles sheets surface positive shown =
    (bases_are_least_by_short_sums mesh lengths walks surface positive
    (basis mesh lengths walks cocycles sheets surface shown)).1
    (short_sum mesh lengths walks cocycles sheets surface shown)

pub shown_walks_are_least_in_order : ShownWalksAreLeastInOrder
shown_walks_are_least_in_order mesh lengths walks cocycles sheets surface positive shown =
    (bases_are_least_in_order mesh lengths walks surface positive).0
    (shown_walks_are_least mesh lengths walks cocycles sheets surface positive shown)
