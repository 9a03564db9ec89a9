use Rattle.surf_treecheck.proofs.EdgeUp.{edge_up_is}
use Rattle.surf_treecheck.proofs.edges.edge_up_at.Goals as goal

pub returns : goal.returns
returns c = record {
  edge = edge_up_is c.args.mesh.now c.args.p c.args.v c.law_of_surface.ensures.surface c.edge_at.result c.edge_at.ensures.edge;
}
