use Rattle.surf_caps.proofs.Barring.{barred_loops_come_no_sooner, barred_searches_suffice, near_places_need_no_more}
use Rattle.surf_caps.proofs.Searched.{stage_searches_keep}
use Rattle.surf_caps.proofs.law_of_barred_searches.Goals as goal

pub returns : goal.returns
returns c = record {
  barred = barred_searches_suffice;
  no_sooner = barred_loops_come_no_sooner;
  near = near_places_need_no_more;
  keep = stage_searches_keep;
}
