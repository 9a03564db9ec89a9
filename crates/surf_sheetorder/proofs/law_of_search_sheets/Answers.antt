use Rattle.surf_sheetorder.proofs.SearchSheets.{loops_past_later_places, searches_are_sheets, listed_loops_show, searches_show_more}
use Rattle.surf_sheetorder.proofs.law_of_search_sheets.Goals as goal

pub returns : goal.returns
returns c = record {
  later = loops_past_later_places;
  searches = searches_are_sheets;
  listed = listed_loops_show;
  more = searches_show_more;
}
