-- Sets of edges that are alike, and rounds that have cocycles of their own.
use Rattle.surf_surfaces.proofs.Common.{◌&&◌, [], ◌∷◌, sym, ap, ◌∙◌, arith, All-contains, odd_below-same, walk_chain, primal, cells_of, edge_count}
use Rattle.surf_surfaces.proofs.walks.GraphWalkLaws.{graph_walk}
use Rattle.surf_sheets.specs.Sheets.{is_crossed}
use Rattle.surf_sheets.proofs.Oddness.{odd_graph_walk}
use Rattle.surf_sheets.proofs.Ways.{crossed_round}
use Rattle.surf_sheetorder.specs.Rounds.{IsRound}
use Rattle.surf_sheetorder.specs.Laws.{AlikeSetsAreOddAlike, RoundsShowFirst, RoundsHavePlacesOfBasis}
use Rattle.surf_sheetorder.proofs.Orders.{ordered_sheets_come_first}
use Rattle.surf_sheetorder.proofs.FirstBases.{first_walks_have_places_of_basis}

pub alike_sets_are_odd_alike : AlikeSetsAreOddAlike
alike_sets_are_odd_alike mesh set other [] surface alike closed = absurd (omega (arith, closed.is_walk.begins))
alike_sets_are_odd_alike mesh set other (u ∷ rest) surface (label, differ) closed =
    let g = primal (cells_of mesh) in
    let w = graph_walk mesh surface [] (u ∷ rest) closed in
    odd_graph_walk mesh surface other u rest closed
    ∙ odd_below-same (edge_count mesh) (λ e. walk_chain g u rest e && other e)
    (λ e. walk_chain g u rest e && is_crossed mesh set label e)
    (λ e l. ap (λ b. walk_chain g u rest e && b) (differ e l))
    ∙ crossed_round g set label u rest w.closed ∙ sym (odd_graph_walk mesh surface set u rest closed)

pub rounds_show_first : RoundsShowFirst
rounds_show_first mesh lengths walks cocycles rounds surface shown = record {
  claimed = shown.claimed;
  first = λ i i_in walk closed on.
      let (round, among, of) = shown.each i i_in in
      let is = All-contains (IsRound mesh lengths walks cocycles) rounds round shown.are_rounds among in
      ordered_sheets_come_first mesh lengths walks round.cocycles round.sheets round.count surface is.are_sheets
      is.in_order i i_in (is.served i of) walk closed
      (alike_sets_are_odd_alike mesh (cocycles i) (round.cocycles i) walk surface (is.alike i of) closed ∙ on);
}

pub rounds_have_places_of_basis : RoundsHavePlacesOfBasis
rounds_have_places_of_basis mesh lengths walks cocycles rounds trees basis surface positive shown chosen is =
    first_walks_have_places_of_basis mesh lengths walks cocycles trees basis surface positive
    (rounds_show_first mesh lengths walks cocycles rounds surface shown) chosen is
