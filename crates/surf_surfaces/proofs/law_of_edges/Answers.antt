use Rattle.surf_surfaces.proofs.LawProofs.{edges_are_in_order, edges_are_sides, edges_are_ordered, edges_are_determined, edges_are_numbered}
use Rattle.surf_surfaces.proofs.law_of_edges.Goals as goal

pub returns : goal.returns
returns c = record {
  in_order = edges_are_in_order;
  sides = edges_are_sides;
  ordered = edges_are_ordered;
  determined = edges_are_determined;
  numbered = edges_are_numbered;
}
