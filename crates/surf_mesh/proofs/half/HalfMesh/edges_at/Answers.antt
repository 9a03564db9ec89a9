use Rattle.surf_mesh.proofs.LinkLaws.{edge_row}
use Rattle.surf_mesh.proofs.half.HalfMesh.edges_at.Goals as goal

pub returns-clause-row : goal.returns-clause-row
returns-clause-row c =
    edge_row c.args.self.now c.law_of_surface.ensures.surface.is_mesh c.args.v c.ring_edges.result.now
    c.ring_edges.ensures.edges.at c.ring_edges.ensures.edges.all
