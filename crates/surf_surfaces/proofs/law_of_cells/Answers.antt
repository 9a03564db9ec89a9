use Rattle.surf_surfaces.proofs.meshes.CellLaws.{surfaces_are_cells}
use Rattle.surf_surfaces.proofs.walks.GraphWalkLaws.{boundaries_are_null, walks_are_graph_walks}
use Rattle.surf_surfaces.proofs.classes.ClassLaws.{independence_is_that_of_chains}
use Rattle.surf_surfaces.proofs.law_of_cells.Goals as goal

pub returns : goal.returns
returns c = record {
  surfaces = surfaces_are_cells;
  boundaries = boundaries_are_null;
  walks = walks_are_graph_walks;
  independent = independence_is_that_of_chains;
}
