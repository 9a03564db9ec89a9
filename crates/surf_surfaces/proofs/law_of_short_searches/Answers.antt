use Rattle.surf_surfaces.proofs.bases.FirstFoundLaws.{ends_are_near, short_searches_suffice}
use Rattle.surf_surfaces.proofs.walks.NearTreeLaws.{near_trees_have_loops}
use Rattle.surf_surfaces.proofs.law_of_short_searches.Goals as goal

pub returns : goal.returns
returns c = record { near = ends_are_near; loops = near_trees_have_loops; suffice = short_searches_suffice }
