use Rattle.surf_seams.proofs.Taking.{cuts_through_exist, cuts_through_are_one, taken_back_are_through, taking_back_keeps, taking_back_ends, taking_back_goes_on, endless_are_through_none, cuts_through_grow}
use Rattle.surf_seams.proofs.law_of_cuts_through.Goals as goal

pub returns : goal.returns
returns c = record {
  exist = cuts_through_exist;
  one = cuts_through_are_one;
  reached = taken_back_are_through;
  keeps = taking_back_keeps;
  ends = taking_back_ends;
  goes_on = taking_back_goes_on;
  none = endless_are_through_none;
  grow = cuts_through_grow;
}
