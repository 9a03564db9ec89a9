use Rattle.surf_sheets.proofs.PlacedWalks.{earlier_places_are_past, placed_walks_are_shown, odd_walks_come_no_sooner}
use Rattle.surf_sheets.proofs.PlacedBases.{placed_walks_have_places_of_basis}
use Rattle.surf_sheets.proofs.law_of_sheet_places.Goals as goal

pub returns : goal.returns
returns c = record {
  earlier = earlier_places_are_past;
  shown = placed_walks_are_shown;
  no_sooner = odd_walks_come_no_sooner;
  places = placed_walks_have_places_of_basis;
}
