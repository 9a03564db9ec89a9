use Rattle.surf_sheetorder.proofs.OffWalks.{sheets_show_more}
use Rattle.surf_sheetorder.proofs.Orders.{ordered_sheets_show, served_sets_show, ordered_sheets_come_first}
use Rattle.surf_sheetorder.proofs.law_of_sheet_order.Goals as goal

pub returns : goal.returns
returns c = record {
  more = sheets_show_more;
  ordered = ordered_sheets_show;
  sets = served_sets_show;
  first = ordered_sheets_come_first;
}
