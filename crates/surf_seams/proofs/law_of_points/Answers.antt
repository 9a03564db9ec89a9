use Rattle.surf_seams.proofs.Few.{one_point_is_not_cut, joined_points_are_short}
use Rattle.surf_seams.proofs.Enough.{two_points_are_cut, points_apart_are_long, three_points_are_long}
use Rattle.surf_seams.proofs.Openings.{cuts_through_are_long, points_are_on_border}
use Rattle.surf_seams.proofs.Pieces.{cuts_through_are_connected, points_are_on_cut}
use Rattle.surf_seams.proofs.Ways.{cuts_through_are_ways}
use Rattle.surf_seams.proofs.law_of_points.Goals as goal

pub returns : goal.returns
returns c = record {
  long = cuts_through_are_long;
  two = two_points_are_cut;
  apart = points_apart_are_long;
  three = three_points_are_long;
  alone = one_point_is_not_cut;
  joined = joined_points_are_short;
  connected = cuts_through_are_connected;
  on_cut = points_are_on_cut;
  on_border = points_are_on_border;
  ways = cuts_through_are_ways;
}
