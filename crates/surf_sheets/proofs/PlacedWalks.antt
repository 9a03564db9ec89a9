-- Closed walks over what a sheet serves, by length and base.
use Rattle.surf_surfaces.proofs.Common.{cases_lt, ◌≡◌, ℕ, zero, suc, ◌+◌, ◌*◌, ◌<◌, ◌≤◌, ◌⊎◌, ◌&&◌, true, List, [], ◌∷◌, ◌++◌, length, map, refl, sym, ap, ◌∙◌, arith, inl, inr, AllByRecursion, and_parts, nat_tests, Contains, All-contains, All-from_recursion, recursion_from_All, subst, xor, xor_comm, Chain, IsGraphWalk, walk_chain, graph_walk_length, leaves, primal, cells_of, walk-append, walk_parts, Mesh, edge_count, ends, IsSurface, edge_length, first, walk_length, is_no_later}
use Rattle.surf_z2.proofs.ParityLaws.{odd_below-found}
use Rattle.surf_graphs.proofs.Walks.{walk_in, walk_has_ends}
use Rattle.surf_surfaces.proofs.bases.FewBasesLaws.{no_later_from}
use Rattle.surf_surfaces.proofs.classes.LeastLaws.{all_each, all_mapped}
use Rattle.surf_surfaces.proofs.meshes.CellLaws.{surfaces_are_cells}
use Rattle.surf_surfaces.proofs.walks.GraphWalkLaws.{graph_walk}
use Rattle.surf_sheets.specs.Sheets.{walk_at, IsSheet, Serves, IsServed}
use Rattle.surf_sheets.specs.Placed.{place_of_walk, PlacedSheet, sheets_of, IsPlacedSheet, ArePlaced}
use Rattle.surf_sheets.specs.Laws.{EarlierPlacesArePast, PlacedWalksAreShown, OddWalksComeNoSooner}
use Rattle.surf_sheets.proofs.Oddness.{odd_in, odd_same, odd_graph_walk}
use Rattle.surf_sheets.proofs.Ways.{crossed_round}
use Rattle.surf_sheets.proofs.TightWays.{end_passes, walk_past}

-- what is in a list that was mapped is of a member
in_mapped : {X Y : Type 0} (f : X → Y) (xs : List X) (y : Y) → Contains (map f xs) y →
    (x : X) × Contains xs x × (f x ≡ y)
in_mapped f [] y (k, l, e) = absurd (omega (arith, l))
in_mapped f (x ∷ xs) y (zero, l, e) = (x, (0, omega arith, refl), e)
in_mapped f (x ∷ xs) y (suc k, l, e) =
    let (z, (j, j_in, same), is) = in_mapped f xs y (k, omega (arith, l), e) in
    (z, (suc j, omega (arith, j_in), same), is)

pub no_later_length : (a b c d : ℕ) → is_no_later (a, b) (c, d) ≡ true → a ≤ c
no_later_length a b c d h = grind (arith, nat_tests)

pub no_later_base : (a b c d : ℕ) → is_no_later (a, b) (c, d) ≡ true → c ≤ a → b ≤ d
no_later_base a b c d h k = grind (arith, nat_tests)

pub earlier_places_are_past : EarlierPlacesArePast
earlier_places_are_past mesh lengths s p q e no_later past =
    let short = no_later_length p.0 p.1 q.0 q.1 no_later in
    elim past [
      | inl more ↦ inl (omega (arith, short, more))
      | inr at ↦
          let none = at.no_margin in
          let long = at.as_long in
          elim (cases_lt p.0 q.0) [
            | inl less ↦ inl (omega (arith, less, none, long))
            | inr no_less ↦
                let low = no_later_base p.0 p.1 q.0 q.1 no_later no_less in
                let one = at.one_end in
                let other = at.other_end in
                inr (record {
                  no_margin = none;
                  as_long = omega (arith, long, short, no_less);
                  one_end = omega (arith, low, one);
                  other_end = omega (arith, low, other);
                })
          ]
    ]

-- a sheet with bounds is a sheet
sheet_of_placed : (mesh : Mesh) (lengths : List ℕ) (walks : List (List ℕ)) (cocycles : ℕ → Chain) (s : PlacedSheet) →
    IsPlacedSheet mesh lengths walks cocycles s → IsSheet mesh lengths walks cocycles s.sheet
sheet_of_placed mesh lengths walks cocycles s is = record {
  slack = is.slack;
  long = λ i e in_range i_in e_in crossed. elim (is.past i e in_range i_in e_in crossed) [
    | inl more ↦ omega (arith, more)
    | inr at ↦
        let none = at.no_margin in
        let long = at.as_long in
        omega (arith, none, long)
  ];
}

pub placed_walks_are_shown : PlacedWalksAreShown
placed_walks_are_shown mesh lengths walks cocycles sheets placed = record {
  closed = placed.closed;
  count = placed.count;
  by_length = λ i j lt l. no_later_length (walk_length mesh lengths (walk_at walks i)) (first (walk_at walks i))
      (walk_length mesh lengths (walk_at walks j)) (first (walk_at walks j)) (placed.by_place i j lt l);
  are_cocycles = placed.are_cocycles;
  paired = placed.paired;
  are_sheets = All-from_recursion (IsSheet mesh lengths walks cocycles) (sheets_of sheets)
      (all_mapped (IsSheet mesh lengths walks cocycles) (λ s. s.sheet) sheets
      (all_each (IsPlacedSheet mesh lengths walks cocycles) (λ s. IsSheet mesh lengths walks cocycles s.sheet) sheets
      (sheet_of_placed mesh lengths walks cocycles)
      (recursion_from_All (IsPlacedSheet mesh lengths walks cocycles) sheets placed.are_sheets)));
  served = placed.served;
}

module _ (mesh : Mesh) (lengths : List ℕ) (walks : List (List ℕ)) (cocycles : ℕ → Chain) (sheets : List PlacedSheet)
    (surface : IsSurface mesh) (placed : ArePlaced mesh lengths walks cocycles sheets) where
  nodes_in : (a : ℕ) (w : List ℕ) (b : ℕ) → a < mesh.vertices → IsGraphWalk (primal (cells_of mesh)) a w b →
      AllByRecursion (λ n. n < mesh.vertices) (a ∷ w)
  nodes_in a w b a_in walk =
      walk_in (primal (cells_of mesh)) (surfaces_are_cells mesh surface).complex.primal_ends a w b a_in walk

  -- a closed walk at a vertex that is served is longer than the walk with the number, or as long with no lesser vertex
  served_place : (s : PlacedSheet) (i x : ℕ) (w : List ℕ) → IsPlacedSheet mesh lengths walks cocycles s →
      i < length walks → Serves s.sheet i x → x < mesh.vertices → IsGraphWalk (primal (cells_of mesh)) x w x →
      odd_in (edge_count mesh) (cocycles i) (walk_chain (primal (cells_of mesh)) x w) ≡ true →
      (walk_length mesh lengths (walk_at walks i) < graph_walk_length (primal (cells_of mesh)) (edge_length lengths) x w)
      ⊎ ((walk_length mesh lengths (walk_at walks i)
      ≡ graph_walk_length (primal (cells_of mesh)) (edge_length lengths) x w)
      × AllByRecursion (λ y. first (walk_at walks i) ≤ y) (x ∷ w))
  served_place s i x w is i_in serves x_in walk on =
      let g = primal (cells_of mesh) in
      let far = s.sheet.distance in
      let margin = s.sheet.margin in
      let size = walk_length mesh lengths (walk_at walks i) in
      let base = first (walk_at walks i) in
      let near = serves.near in
      elim (walk_past g (edge_length lengths) far s.least is.slack is.own
      (λ e l. ((is.before e l).there, (is.before e l).back))
      (λ e. xor (leaves g (s.sheet.label i) e) (cocycles i e)) (size + 2 * margin) margin base
      (λ e l crossed. elim (is.past i e serves.in_range i_in l crossed) [
        | inl more ↦ inl more
        | inr at ↦ inr (record {
          none = at.no_margin;
          same = let none = at.no_margin in let long = at.as_long in omega (arith, none, long);
          first_low = at.one_end;
          second_low = at.other_end;
        })
      ]) x w x walk (nodes_in x w x x_in walk) (crossed_round g (cocycles i) (s.sheet.label i) x w walk ∙ on)) [
        | inl more ↦ inl (omega (arith, more, near))
        | inr just ↦
            let none = just.none in
            let same = just.same in
            inr (omega (arith, none, same, near), just.all)
      ]

  -- one over such a vertex, turned to begin there
  over_place : (i a x : ℕ) (w : List ℕ) → i < length walks → IsServed (sheets_of sheets) i x → a < mesh.vertices →
      IsGraphWalk (primal (cells_of mesh)) a w a → Contains (a ∷ w) x →
      odd_in (edge_count mesh) (cocycles i) (walk_chain (primal (cells_of mesh)) a w) ≡ true →
      is_no_later (place_of_walk mesh lengths (walk_at walks i))
      (graph_walk_length (primal (cells_of mesh)) (edge_length lengths) a w, a) ≡ true
  over_place i a x w i_in (sheet, among, serves) a_in walk over on =
      let g = primal (cells_of mesh) in
      let len = edge_length lengths in
      let (s, s_in, is_sheet) = in_mapped (λ s. s.sheet) sheets sheet among in
      let x_in : x < mesh.vertices = All-contains (λ n. n < mesh.vertices) (a ∷ w) x
      (All-from_recursion (λ n. n < mesh.vertices) (a ∷ w) (nodes_in a w a a_in walk)) over in
      let (start, second, is, there, back) = walk_parts g a w a x walk over in
      let straight = walk-append g len a start x second a there back in
      let turned = walk-append g len x second a start x back there in
      let whole : graph_walk_length g len a w ≡ graph_walk_length g len a start + graph_walk_length g len x second =
      ap (graph_walk_length g len a) is ∙ straight.2 in
      let other_way : graph_walk_length g len x (second ++ start)
      ≡ graph_walk_length g len x second + graph_walk_length g len a start = turned.2 in
      let same : (e : ℕ) → walk_chain g x (second ++ start) e ≡ walk_chain g a w e =
      λ e. turned.1 e ∙ xor_comm (walk_chain g x second e) (walk_chain g a start e) ∙ sym (straight.1 e)
      ∙ ap (λ v. walk_chain g a v e) (sym is) in
      let size = walk_length mesh lengths (walk_at walks i) in
      let base = first (walk_at walks i) in
      elim (served_place s i x (second ++ start)
      (All-contains (IsPlacedSheet mesh lengths walks cocycles) sheets s placed.are_sheets s_in) i_in
      (subst (λ t. Serves t i x) (sym is_sheet) serves) x_in turned.0
      (odd_same (edge_count mesh) (cocycles i) (walk_chain g x (second ++ start)) (walk_chain g a w) (λ e l. same e) ∙ on)) [
        | inl more ↦
            no_later_from size base (graph_walk_length g len a w) a (omega (arith, more, whole, other_way))
            (λ as_long. absurd (omega (arith, more, whole, other_way, as_long)))
        | inr (as_long, low) ↦
            no_later_from size base (graph_walk_length g len a w) a (omega (arith, as_long, whole, other_way))
            (λ k. end_passes g (λ y. base ≤ y) x second start a back low)
      ]

  -- a closed walk that is odd on a cocycle
  odd_place : (i a : ℕ) (w : List ℕ) → i < length walks → a < mesh.vertices →
      IsGraphWalk (primal (cells_of mesh)) a w a →
      odd_in (edge_count mesh) (cocycles i) (walk_chain (primal (cells_of mesh)) a w) ≡ true →
      is_no_later (place_of_walk mesh lengths (walk_at walks i))
      (graph_walk_length (primal (cells_of mesh)) (edge_length lengths) a w, a) ≡ true
  odd_place i a w i_in a_in walk on =
      let g = primal (cells_of mesh) in
      let (e, e_in, both) = odd_below-found (edge_count mesh) (λ e. walk_chain g a w e && cocycles i e) on in
      let parts = and_parts (walk_chain g a w e) (cocycles i e) both in
      let over = walk_has_ends g a w a e walk parts.0 in
      elim (placed.served i e i_in e_in parts.1) [
        | inl serves ↦ over_place i a (ends mesh e).0 w i_in serves a_in walk over.0 on
        | inr serves ↦ over_place i a (ends mesh e).1 w i_in serves a_in walk over.1 on
      ]

pub odd_walks_come_no_sooner : OddWalksComeNoSooner
odd_walks_come_no_sooner mesh lengths walks cocycles sheets surface placed i i_in [] closed on =
    absurd (omega (arith, closed.is_walk.begins))
odd_walks_come_no_sooner mesh lengths walks cocycles sheets surface placed i i_in (u ∷ rest) closed on =
    let w = graph_walk mesh surface lengths (u ∷ rest) closed in
    subst (λ n. is_no_later (place_of_walk mesh lengths (walk_at walks i)) (n, u) ≡ true) (sym w.size)
    (odd_place mesh lengths walks cocycles sheets surface placed i u rest i_in w.start_in w.closed
    (sym (odd_graph_walk mesh surface (cocycles i) u rest closed) ∙ on))
