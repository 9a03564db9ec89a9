use Rattle.surf_seams.proofs.AtBase.{full_cuts_start, openings_through_at_are_one}
use Rattle.surf_seams.proofs.Openings.{taken_back_are_trimmed, opened_through_are_openings, openings_through_are_openings, openings_through_exist, openings_through_are_one, opened_are_through}
use Rattle.surf_seams.proofs.law_of_openings_through.Goals as goal

pub returns : goal.returns
returns c = record {
  start = full_cuts_start;
  trimmed = taken_back_are_trimmed;
  discs = opened_through_are_openings;
  openings = openings_through_are_openings;
  exist = openings_through_exist;
  one = openings_through_are_one;
  opened = opened_are_through;
  at_base = openings_through_at_are_one;
}
