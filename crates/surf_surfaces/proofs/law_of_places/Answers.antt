use Rattle.surf_surfaces.proofs.classes.NoLongerLaws.{no_longer}
use Rattle.surf_surfaces.proofs.classes.PlaceLaws.{loop_systems_are_least_in_order, bases_are_least_in_order, least_loop_systems_are_alike, least_bases_are_alike}
use Rattle.surf_surfaces.proofs.law_of_places.Goals as goal

pub returns : goal.returns
returns c = record {
  no_longer = no_longer;
  loops = loop_systems_are_least_in_order;
  bases = bases_are_least_in_order;
  loops_alike = least_loop_systems_are_alike;
  bases_alike = least_bases_are_alike;
}
