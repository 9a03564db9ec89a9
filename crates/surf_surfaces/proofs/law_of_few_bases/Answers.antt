use Rattle.surf_surfaces.proofs.bases.FewBasesLaws.{few_bases_suffice}
use Rattle.surf_surfaces.proofs.bases.FirstCycleLaws.{shortest_trees}
use Rattle.surf_surfaces.proofs.bases.FoundPlaces.{places_are_those_of_basis}
use Rattle.surf_surfaces.proofs.walks.SignedEndsLaws.{signed_ends_meet_all}
use Rattle.surf_surfaces.proofs.law_of_few_bases.Goals as goal

pub returns : goal.returns
returns c = record {
  meets = signed_ends_meet_all;
  suffice = few_bases_suffice;
  places = places_are_those_of_basis;
  trees = λ mesh lengths trees surface positive chosen. shortest_trees mesh lengths surface positive trees chosen;
}
