use Rattle.surf_sheets.proofs.Ways.{odd_walks_are_no_shorter}
use Rattle.surf_sheets.proofs.Bases.{shown_walks_are_least, shown_walks_are_least_in_order}
use Rattle.surf_sheets.proofs.law_of_sheets.Goals as goal

pub returns : goal.returns
returns c = record {
  no_shorter = odd_walks_are_no_shorter;
  least = shown_walks_are_least;
  in_order = shown_walks_are_least_in_order;
}
