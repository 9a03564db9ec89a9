-- A search from a vertex is a sheet, with labels by the paths of its tree.
use Rattle.surf_surfaces.proofs.Common.{◌≡◌, ℕ, ◌+◌, ◌<◌, ◌≤◌, Bool, true, min, List, eqb, sym, ap, ◌∙◌, arith, inl, inr, cases_Bool, cases_lt, xor, xor_comm, Chain, All-contains, Tree, loop, on_path, primal, cells_of, Mesh, edge_count, ends, IsSurface, class_of, edge_length, parity, loop_walk, loop_length, ArePositive, AreShortestTrees, is_no_later, place_at, least_base, least_on_way}
use Rattle.surf_z2.proofs.ParityLaws.{odd_below-xor-and, odd_below-at}
use Rattle.surf_surfaces.specs.FewBases.{Place}
use Rattle.surf_surfaces.proofs.bases.FewBasesLaws.{no_later-trans}
use Rattle.surf_surfaces.proofs.bases.FirstFoundLaws.{loop_closed}
use Rattle.surf_surfaces.proofs.classes.ClassLaws.{runs_loop}
use Rattle.surf_surfaces.proofs.meshes.CellLaws.{surfaces_are_cells}
use Rattle.surf_surfaces.proofs.walks.OnTheWayLaws.{zero_distance, by_way, on_way_at, least_found, least_no_greater}
use Rattle.surf_sheets.specs.Sheets.{is_odd_on, is_crossed}
use Rattle.surf_sheets.specs.Placed.{NoneRises, IsPastPlace}
use Rattle.surf_sheets.proofs.Oddness.{odd_in, odd_same, odd_parity}
use Rattle.surf_sheets.proofs.PlacedWalks.{no_later_length, no_later_base}
use Rattle.surf_sheetorder.specs.Off.{place_at_number, OffSheet, IsClear}
use Rattle.surf_sheetorder.specs.Searches.{AgreeWhereClear, sheet_of_search, IsLoopPast, edges_passing}
use Rattle.surf_sheetorder.specs.Laws.{LoopsPastLaterPlaces, SearchesAreSheets, ListedLoopsShow, SearchesShowMore}
use Rattle.surf_sheetorder.proofs.OffWalks.{sheets_show_more}
use Rattle.surf_sheetorder.proofs.Tests.{tests_are_cocycles}

pub loops_past_later_places : LoopsPastLaterPlaces
loops_past_later_places margin p q found no_later past =
    let short = no_later_length p.0 p.1 q.0 q.1 no_later in
    elim past [
      | inl more ↦ inl (omega (arith, more, short))
      | inr (none, at) ↦ inr (none, no_later-trans p q found no_later at)
    ]

-- so is what comes after a loop that is past it
pub past_after : (margin : ℕ) (place found later : Place) → is_no_later found later ≡ true →
    IsLoopPast margin place found → IsLoopPast margin place later
past_after margin place found later no_later past =
    let short = no_later_length found.0 found.1 later.0 later.1 no_later in
    elim past [
      | inl more ↦ inl (omega (arith, more, short))
      | inr (none, at) ↦ inr (none, no_later-trans place found later at no_later)
    ]

module _ (mesh : Mesh) (lengths : List ℕ) (trees : ℕ → Tree) (surface : IsSurface mesh)
    (positive : ArePositive mesh lengths) (shortest : AreShortestTrees mesh lengths trees) where
  -- an edge is crossed where its loop is odd on the set
  crossed_where_odd : (set : Chain) (x e : ℕ) → x < mesh.vertices → e < edge_count mesh →
      is_crossed mesh set (λ v. odd_in (edge_count mesh) set (on_path (trees x) v)) e
      ≡ is_odd_on mesh set (loop_walk mesh (trees x) e)
  crossed_where_odd set x e x_in e_in =
      let n = edge_count mesh in
      let one = on_path (trees x) (ends mesh e).0 in
      let two = on_path (trees x) (ends mesh e).1 in
      let closed = loop_closed mesh lengths trees surface shortest x e x_in e_in in
      let run = runs_loop mesh lengths surface (trees x) (shortest.is_tree x x_in) (shortest.shortest x x_in) e e_in in
      xor_comm (xor (odd_in n set one) (odd_in n set two)) (set e)
      ∙ ap (xor (set e)) (sym (odd_below-xor-and n one two set))
      ∙ ap (λ b. xor b (odd_in n set (λ h. xor (one h) (two h)))) (sym (odd_below-at n e set e_in))
      ∙ sym (odd_below-xor-and n (λ h. eqb e h) (λ h. xor (one h) (two h)) set)
      ∙ odd_same n set (loop (primal (cells_of mesh)) (trees x) e) (parity mesh (loop_walk mesh (trees x) e))
      (λ h l. sym (run.parities h l))
      ∙ sym (odd_parity mesh surface set (loop_walk mesh (trees x) e) closed)

  -- what is on a shortest way is on each that goes on over an edge
  least_after : (x u v e : ℕ) → x < mesh.vertices → u < mesh.vertices → v < mesh.vertices →
      ((y : ℕ) → y < mesh.vertices → (trees y).rank v ≤ (trees y).rank u + edge_length lengths e) →
      (trees x).rank v ≡ (trees x).rank u + edge_length lengths e →
      least_on_way mesh trees x v ≤ least_on_way mesh trees x u
  least_after x u v e x_in u_in v_in near rises =
      let y = least_on_way mesh trees x u in
      let found = least_found mesh lengths trees surface positive shortest x u u_in in
      let way = on_way_at mesh lengths trees surface positive shortest x u y found.1 in
      let long = by_way mesh lengths trees surface positive shortest x y v x_in found.0 v_in in
      let short = near y found.0 in
      least_no_greater mesh lengths trees surface positive shortest x v y found.0
      (omega (arith, way, long, short, rises))

  none_rises : (x e : ℕ) → x < mesh.vertices → e < edge_count mesh →
      NoneRises mesh lengths (trees x).rank (λ v. least_on_way mesh trees x v) e
  none_rises x e x_in e_in =
      let u = (ends mesh e).0 in
      let v = (ends mesh e).1 in
      let inside = (surfaces_are_cells mesh surface).complex.primal_ends e e_in in
      record {
        there = λ rises. least_after x u v e x_in inside.0 inside.1
            (λ y y_in. ((shortest.shortest y y_in).no_short_cut e e_in).0) rises;
        back = λ rises. least_after x v u e x_in inside.1 inside.0
            (λ y y_in. ((shortest.shortest y y_in).no_short_cut e e_in).1) rises;
      }

module _ (mesh : Mesh) (lengths other : List ℕ) (walks : List (List ℕ)) (cocycles : ℕ → Chain) (trees : ℕ → Tree)
    (off : ℕ → Bool) (z from to margin : ℕ) (agree : AgreeWhereClear mesh off lengths other) where
  abbrev sheet : OffSheet
  sheet = sheet_of_search mesh cocycles trees off z from to margin

  -- a loop past a place is a way over its edge that is past it
  past_from : (place : Place) (e : ℕ) → e < edge_count mesh → IsClear mesh off e →
      IsLoopPast margin place (place_at mesh other trees z e) →
      IsPastPlace mesh lengths (sheet_of_search mesh cocycles trees off z from to margin).placed place e
  past_from place e e_in clear past =
      let way = loop_length mesh other (trees z) e in
      let low = least_base mesh trees z e in
      let same = agree e e_in clear in
      elim past [
        | inl more ↦ inl (omega (arith, more, same))
        | inr (none, at) ↦
            let short : place.0 ≤ way = no_later_length place.0 place.1 way low at in
            elim (cases_lt place.0 way) [
              | inl less ↦ inl (omega (arith, less, none, same))
              | inr no_less ↦
                  let bound : place.1 ≤ min (least_on_way mesh trees z (ends mesh e).0)
                  (least_on_way mesh trees z (ends mesh e).1) =
                  no_later_base place.0 place.1 way low at no_less in
                  inr (record {
                    no_margin = none;
                    as_long = omega (arith, short, no_less, same);
                    one_end = omega (arith, bound);
                    other_end = omega (arith, bound);
                  })
            ]
      ]

pub searches_are_sheets : SearchesAreSheets
searches_are_sheets mesh lengths other walks cocycles trees off z from to margin surface positive shortest agree z_in past =
    record {
      slack = λ e e_in clear.
          let both = (shortest.shortest z z_in).no_short_cut e e_in in
          let one = both.0 in
          let two = both.1 in
          let same = agree e e_in clear in
          (omega (arith, two, same), omega (arith, one, same));
      own = λ v v_in out.
          let none = zero_distance mesh other trees surface positive shortest v v_in in
          least_no_greater mesh other trees surface positive shortest z v v v_in (omega (arith, none));
      before = λ e e_in clear.
          let falls = none_rises mesh other trees surface positive shortest z e z_in e_in in
          let same = agree e e_in clear in
          record {
            there = λ h. falls.there (omega (arith, h, same));
            back = λ h. falls.back (omega (arith, h, same));
          };
      past = λ i e in_range i_in e_in clear crossed.
          past_from mesh lengths other walks cocycles trees off z from to margin agree
          (place_at_number mesh lengths walks i) e e_in clear
          (past i e in_range.0 in_range.1 i_in e_in clear
          (sym (crossed_where_odd mesh other trees surface positive shortest (cocycles i) z e z_in e_in) ∙ crossed));
    }

pub listed_loops_show : ListedLoopsShow
listed_loops_show mesh d lengths other walks tests trees off z from to margin sought listed surface split linear positive
    shortest agree z_in are each unsought =
    searches_are_sheets mesh lengths other walks (λ i. edges_passing mesh d (tests i)) trees off z from to margin surface
    positive shortest agree z_in
    (λ i e i_from i_to i_in e_in clear odd_on.
    let passes : tests i (class_of mesh d (loop_walk mesh (trees z) e)) ≡ true =
    sym ((tests_are_cocycles mesh d (tests i) surface split (linear i)).1 (loop_walk mesh (trees z) e)
    (loop_closed mesh other trees surface shortest z e z_in e_in)) ∙ odd_on in
    elim (cases_Bool (sought (place_at mesh other trees z e))) [
      | inr out ↦ unsought i (place_at mesh other trees z e) i_from i_to i_in out
      | inl wanted ↦
          let (found, among, found_passes, no_later) = are i e i_from i_to e_in wanted passes in
          past_after margin (place_at_number mesh lengths walks i) found.place (place_at mesh other trees z e) no_later
          (All-contains (λ found. tests i found.class ≡ true →
          IsLoopPast margin (place_at_number mesh lengths walks i) found.place) listed found
          (each i i_from i_to i_in) among found_passes)
    ])

pub searches_show_more : SearchesShowMore
searches_show_more mesh d lengths other walks tests trees off z from to margin sought listed surface split linear positive
    shortest agree z_in are each unsought i i_from i_to i_in shown x near =
    sheets_show_more mesh lengths walks (λ j. edges_passing mesh d (tests j))
    (sheet_of_search mesh (λ j. edges_passing mesh d (tests j)) trees off z from to margin) surface
    (listed_loops_show mesh d lengths other walks tests trees off z from to margin sought listed surface split linear
    positive shortest agree z_in are each unsought) i (i_from, i_to) i_in shown x near
