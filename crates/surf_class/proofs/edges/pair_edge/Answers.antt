use Rattle.surf_class.proofs.Pairs.{pair_number}
use Rattle.surf_class.proofs.edges.pair_edge.Goals as goal

pub returns-clause-edge : goal.returns-clause-edge
returns-clause-edge c = pair_number c.args.mesh.now c.args.pair c.in-Some.edge c.requires.ordered c.in-Some.ensures.0 c.in-Some.ensures.1
