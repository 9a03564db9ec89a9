use Rattle.surf_sheetorder.proofs.Needs.{sums_need_first, searches_show_needs, labelled_edges_show_needs, loops_have_places_of_basis}
use Rattle.surf_sheetorder.proofs.law_of_needs.Goals as goal

pub returns : goal.returns
returns c = record {
  first = sums_need_first;
  searches = searches_show_needs;
  labelled = labelled_edges_show_needs;
  places = loops_have_places_of_basis;
}
