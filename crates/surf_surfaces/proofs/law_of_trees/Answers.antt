use Rattle.surf_surfaces.proofs.bases.ChoiceExists.{choice_exists}
use Rattle.surf_surfaces.proofs.walks.ShortestTreeLaws.{shortest_trees_are_one}
use Rattle.surf_surfaces.proofs.classes.CotreeLaws.{cotrees_are_one, heavy_cotrees_are_heaviest}
use Rattle.surf_surfaces.proofs.law_of_trees.Goals as goal

pub returns : goal.returns
returns c = record {
  exist = choice_exists;
  shortest = shortest_trees_are_one;
  heaviest = cotrees_are_one;
  heavy =
      heavy_cotrees_are_heaviest;
}
