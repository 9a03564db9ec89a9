use Rattle.surf_caps.proofs.Covers.{walks_depend_on_enough, loops_depend_on_enough, enough_everywhere}
use Rattle.surf_caps.proofs.Grow.{caps_grow_enough}
use Rattle.surf_caps.proofs.Heights.{asked_ends_meet}
use Rattle.surf_caps.proofs.Images.{everywhere_meets, meets_fewer, sets_meet}
use Rattle.surf_caps.proofs.Places.{chosen_loops_are_met, enough_have_places, full_count_has_places}
use Rattle.surf_caps.proofs.Starts.{start_law, found_are_walks}
use Rattle.surf_caps.proofs.law_of_caps.Goals as goal

pub returns : goal.returns
returns c = record {
  from_start = start_law;
  meet = asked_ends_meet;
  sets = sets_meet;
  all = everywhere_meets;
  found = found_are_walks;
  fewer = meets_fewer;
  walks = walks_depend_on_enough;
  loops = loops_depend_on_enough;
  everywhere = enough_everywhere;
  met = chosen_loops_are_met;
  places = enough_have_places;
  full = full_count_has_places;
  grow = caps_grow_enough;
}
