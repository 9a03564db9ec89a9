-- The chosen basis has cocycles and sheets that show it with its bases.
use Rattle.surf_surfaces.proofs.Common.{◌≡◌, ℕ, ◌+◌, ◌<◌, ◌≤◌, true, List, [], length, get_or, get_or-map, map, map-map, filter, min, refl, sym, ap, ◌∙◌, subst, arith, inl, inr, cases_lt, All-from_recursion, recursion_from_All, length-map, range_with_len, length-range_with_len, numbers, is_nothing, Decides-is_nothing, InSpan, trans_in, Split, IsSplit, Tree, cells_of, Mesh, edge_count, ends, IsSurface, class_of, edge_length, first, walk_length, loop_walk, loop_length, ArePositive, AreShortestTrees, Trees, AreChosen, Loop, walks, candidates, IsChosenBasis, is_no_later, place_at, place_of_loop, least_base, least_on_way}
use Rattle.surf_z2.proofs.Merge.{order_from_sorted}
use Rattle.surf_surfaces.specs.Homology.{IsLeastBasis}
use Rattle.surf_surfaces.proofs.bases.BasisLaws.{basis_is_least}
use Rattle.surf_surfaces.proofs.bases.FewBasesLaws.{is_loop_within, loop_in_candidates}
use Rattle.surf_surfaces.proofs.bases.FirstCycleLaws.{shortest_trees}
use Rattle.surf_surfaces.proofs.classes.ClassLaws.{some_split}
use Rattle.surf_surfaces.proofs.classes.LeastLaws.{all_mapped}
use Rattle.surf_surfaces.proofs.meshes.CellLaws.{surfaces_are_cells}
use Rattle.surf_surfaces.proofs.walks.OnTheWayLaws.{zero_distance, by_way, on_way_at, least_found, least_no_greater}
use Rattle.surf_sheets.specs.Sheets.{AreByLength, AreServed, AreShown}
use Rattle.surf_sheets.specs.Placed.{place_of_walk, AreByPlace, PlacedSheet, NoneRises, IsPastPlace, IsPlacedSheet, ArePlaced}
use Rattle.surf_sheets.specs.Laws.{ChosenBasesArePlaced}
use Rattle.surf_sheets.proofs.ChosenPlaces.{loop_place, free_basis, basis_spans, basis_sorted, each_of_basis}
use Rattle.surf_sheets.proofs.Coordinates.{takes_part, takes_passing}
use Rattle.surf_sheets.proofs.DualCocycles.{part, cocycle, sheet_at, crossed_where_part, shown_by_vertices, range_at}
use Rattle.surf_sheets.proofs.PlacedWalks.{no_later_length, no_later_base}

some_loop : Loop
some_loop = record { size = 0; base = 0; edge = 0; walk = [] }

module _ (mesh : Mesh) (lengths : List ℕ) (trees : ℕ → Tree) (surface : IsSurface mesh)
    (positive : ArePositive mesh lengths) (shortest : AreShortestTrees mesh lengths trees) where
  -- what is on a shortest way is on each that goes on over an edge
  least_after : (x u v e : ℕ) → x < mesh.vertices → u < mesh.vertices → v < mesh.vertices →
      ((y : ℕ) → y < mesh.vertices → (trees y).rank v ≤ (trees y).rank u + edge_length lengths e) →
      (trees x).rank v ≡ (trees x).rank u + edge_length lengths e →
      least_on_way mesh trees x v ≤ least_on_way mesh trees x u
  least_after x u v e x_in u_in v_in near rises =
      let y = least_on_way mesh trees x u in
      let found = least_found mesh lengths trees surface positive shortest x u u_in in
      let way = on_way_at mesh lengths trees surface positive shortest x u y found.1 in
      let long = by_way mesh lengths trees surface positive shortest x y v x_in found.0 v_in in
      let short = near y found.0 in
      least_no_greater mesh lengths trees surface positive shortest x v y found.0
      (omega (arith, way, long, short, rises))

  none_rises : (x e : ℕ) → x < mesh.vertices → e < edge_count mesh →
      NoneRises mesh lengths (trees x).rank (λ v. least_on_way mesh trees x v) e
  none_rises x e x_in e_in =
      let u = (ends mesh e).0 in
      let v = (ends mesh e).1 in
      let inside = (surfaces_are_cells mesh surface).complex.primal_ends e e_in in
      record {
        there = λ rises. least_after x u v e x_in inside.0 inside.1
            (λ y y_in. ((shortest.shortest y y_in).no_short_cut e e_in).0) rises;
        back = λ rises. least_after x v u e x_in inside.1 inside.0
            (λ y y_in. ((shortest.shortest y y_in).no_short_cut e e_in).1) rises;
      }

module _ (mesh : Mesh) (lengths : List ℕ) (surface : IsSurface mesh) (positive : ArePositive mesh lengths)
    (trees : ℕ → Trees) (chosen : AreChosen mesh lengths trees) (d : Split) (split : IsSplit (cells_of mesh) d)
    (basis : List Loop) (is : IsChosenBasis mesh lengths trees basis)
    (least : IsLeastBasis mesh lengths (walks basis)) (shortest : AreShortestTrees mesh lengths (λ x. (trees x).tree)) where
  -- each walk of the basis has the place of its loop
  walk_place : (i : ℕ) → i < length basis →
      place_of_walk mesh lengths (get_or (walks basis) i []) ≡ place_of_loop (get_or basis i some_loop)
  walk_place i l =
      ap (place_of_walk mesh lengths) (get_or-map (λ c. c.walk) basis i some_loop [] l)
      ∙ All-from_recursion (λ c. place_of_walk mesh lengths c.walk ≡ place_of_loop c) basis
      (each_of_basis mesh lengths surface positive trees chosen d split basis is
      (λ c. place_of_walk mesh lengths c.walk ≡ place_of_loop c)
      (λ c h. loop_place mesh lengths surface positive trees chosen c h)) i some_loop l

  by_place : AreByPlace mesh lengths (walks basis)
  by_place i j lt l =
      let n = length-map basis (λ c. c.walk) in
      let j_in : j < length basis = omega (arith, l, n) in
      let one = walk_place i (omega (arith, lt, j_in)) in
      let two = walk_place j j_in in
      ap (λ p. is_no_later p (place_of_walk mesh lengths (get_or (walks basis) j []))) one
      ∙ ap (is_no_later (place_of_loop (get_or basis i some_loop))) two
      ∙ order_from_sorted (λ c e. is_no_later (place_of_loop c) (place_of_loop e)) basis
      (basis_sorted mesh lengths surface positive trees chosen d split basis is) i j some_loop lt j_in

  by_length : AreByLength mesh lengths (walks basis)
  by_length i j lt l =
      no_later_length (walk_length mesh lengths (get_or (walks basis) i [])) (first (get_or (walks basis) i []))
      (walk_length mesh lengths (get_or (walks basis) j [])) (first (get_or (walks basis) j [])) (by_place i j lt l)

  shown : AreShown mesh lengths (walks basis)
      (cocycle mesh lengths (walks basis) surface positive least (λ x. (trees x).tree) shortest d split)
      (map (sheet_at mesh lengths (walks basis) surface positive least (λ x. (trees x).tree) shortest d split)
      (range_with_len 0 mesh.vertices))
  shown = shown_by_vertices mesh lengths (walks basis) surface positive least (λ x. (trees x).tree) shortest d split by_length

  abbrev pub placed_at : ℕ → PlacedSheet
  placed_at x = record {
    sheet = sheet_at mesh lengths (walks basis) surface positive least (λ y. (trees y).tree) shortest d split x;
    least = λ v. least_on_way mesh (λ y. (trees y).tree) x v;
  }

  -- a loop in which a walk takes part comes no sooner than it
  part_no_later : (x e i : ℕ) → x < mesh.vertices → e < edge_count mesh → i < length basis →
      part mesh lengths (walks basis) surface positive least (λ y. (trees y).tree) shortest d split i
      (class_of mesh d (loop_walk mesh (trees x).tree e)) ≡ true →
      is_no_later (place_of_loop (get_or basis i some_loop)) (place_at mesh lengths (λ y. (trees y).tree) x e) ≡ true
  part_no_later x e i x_in e_in i_in takes =
      let place = place_at mesh lengths (λ y. (trees y).tree) x e in
      let v = class_of mesh d (loop_walk mesh (trees x).tree e) in
      let within : InSpan numbers (map (λ c. class_of mesh d c.walk) (filter (is_loop_within place) basis)) v =
      trans_in numbers (map (λ c. class_of mesh d c.walk) (filter (is_loop_within place) basis))
      (map (λ c. class_of mesh d c.walk) (filter (is_loop_within place) (candidates mesh lengths trees))) v
      (basis_spans mesh lengths surface positive trees chosen d split basis is place)
      (loop_in_candidates mesh lengths (λ y. (trees y).tree) surface positive shortest trees chosen d split x e x_in e_in) in
      takes_passing numbers is_nothing Decides-is_nothing (λ c. class_of mesh d c.walk) (is_loop_within place) basis i
      some_loop v (free_basis mesh lengths surface positive trees chosen d split basis is) i_in within
      (ap (λ xs. takes_part numbers is_nothing Decides-is_nothing xs i v)
      (sym (map-map (class_of mesh d) (λ c. c.walk) basis)) ∙ takes)

  is_placed : (x : ℕ) → x < mesh.vertices → IsPlacedSheet mesh lengths (walks basis)
      (cocycle mesh lengths (walks basis) surface positive least (λ y. (trees y).tree) shortest d split) (placed_at x)
  is_placed x x_in = record {
    slack = λ e e_in. let both = (shortest.shortest x x_in).no_short_cut e e_in in (both.1, both.0);
    own = λ v v_in.
        let none = zero_distance mesh lengths (λ y. (trees y).tree) surface positive shortest v v_in in
        least_no_greater mesh lengths (λ y. (trees y).tree) surface positive shortest x v v v_in (omega (arith, none));
    before = λ e e_in. none_rises mesh lengths (λ y. (trees y).tree) surface positive shortest x e x_in e_in;
    past = λ i e in_range i_in e_in crossed.
        let n = length-map basis (λ c. c.walk) in
        let j_in : i < length basis = omega (arith, i_in, n) in
        let takes = sym (crossed_where_part mesh lengths (walks basis) surface positive least (λ y. (trees y).tree) shortest
        d split x i e x_in e_in) ∙ crossed in
        let at_loop = part_no_later x e i x_in e_in j_in takes in
        let no_later = ap (λ p. is_no_later p (place_at mesh lengths (λ y. (trees y).tree) x e)) (walk_place i j_in)
        ∙ at_loop in
        past_from i e no_later;
  }
    where
      past_from : (i e : ℕ) →
          is_no_later (place_of_walk mesh lengths (get_or (walks basis) i []))
          (place_at mesh lengths (λ y. (trees y).tree) x e) ≡ true →
          IsPastPlace mesh lengths (placed_at x) (place_of_walk mesh lengths (get_or (walks basis) i [])) e
      past_from i e no_later =
          let size = walk_length mesh lengths (get_or (walks basis) i []) in
          let base = first (get_or (walks basis) i []) in
          let way = loop_length mesh lengths (trees x).tree e in
          let low = least_base mesh (λ y. (trees y).tree) x e in
          let short : size ≤ way = no_later_length size base way low no_later in
          elim (cases_lt size way) [
            | inl less ↦ inl (omega (arith, less))
            | inr no_less ↦
                let bound : base ≤ min (least_on_way mesh (λ y. (trees y).tree) x (ends mesh e).0)
                (least_on_way mesh (λ y. (trees y).tree) x (ends mesh e).1) =
                no_later_base size base way low no_later no_less in
                inr (record {
                  no_margin = refl;
                  as_long = omega (arith, short, no_less);
                  one_end = omega (arith, bound);
                  other_end = omega (arith, bound);
                })
          ]

  pub placed_by_vertices : ArePlaced mesh lengths (walks basis)
      (cocycle mesh lengths (walks basis) surface positive least (λ x. (trees x).tree) shortest d split)
      (map placed_at (range_with_len 0 mesh.vertices))
  placed_by_vertices =
      let c = cocycle mesh lengths (walks basis) surface positive least (λ x. (trees x).tree) shortest d split in
      record {
        closed = least.is_basis.closed;
        count = least.is_basis.count;
        by_place = by_place;
        are_cocycles = shown.are_cocycles;
        paired = shown.paired;
        are_sheets = All-from_recursion (IsPlacedSheet mesh lengths (walks basis) c)
            (map placed_at (range_with_len 0 mesh.vertices))
            (all_mapped (IsPlacedSheet mesh lengths (walks basis) c) placed_at (range_with_len 0 mesh.vertices)
            (recursion_from_All (λ x. IsPlacedSheet mesh lengths (walks basis) c (placed_at x))
            (range_with_len 0 mesh.vertices) (λ k n l.
            let m = length-range_with_len 0 mesh.vertices in
            let k_in : k < mesh.vertices = omega (arith, l, m) in
            subst (λ x. IsPlacedSheet mesh lengths (walks basis) c (placed_at x)) (sym (range_at mesh.vertices k n k_in))
            (is_placed k k_in))));
        served = subst (AreServed mesh (walks basis) c)
            (sym (map-map (λ s. s.sheet) placed_at (range_with_len 0 mesh.vertices))) shown.served;
      }

pub chosen_bases_are_placed : ChosenBasesArePlaced
chosen_bases_are_placed mesh lengths trees basis surface positive chosen is =
    let (d, split) = some_split mesh surface in
    let shortest = shortest_trees mesh lengths surface positive trees chosen in
    let least = (basis_is_least mesh lengths trees basis surface positive chosen is).least in (
      cocycle mesh lengths (walks basis) surface positive least (λ x. (trees x).tree) shortest d split,
      map (placed_at mesh lengths surface positive trees chosen d split basis is least shortest)
          (range_with_len 0 mesh.vertices),
      placed_by_vertices mesh lengths surface positive trees chosen d split basis is least shortest,
    )
