use Rattle.surf_sheetorder.proofs.FirstBases.{first_walks_have_places_of_basis}
use Rattle.surf_sheetorder.proofs.RoundLaws.{alike_sets_are_odd_alike, rounds_show_first, rounds_have_places_of_basis}
use Rattle.surf_sheetorder.proofs.law_of_rounds.Goals as goal

pub returns : goal.returns
returns c = record {
  alike = alike_sets_are_odd_alike;
  places = first_walks_have_places_of_basis;
  first = rounds_show_first;
  rounds = rounds_have_places_of_basis;
}
