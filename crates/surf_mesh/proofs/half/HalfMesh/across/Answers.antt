use Rattle.surf_mesh.proofs.LinkLaws.{mate_link}
use Rattle.surf_mesh.proofs.half.HalfMesh.across.Goals as goal

pub returns : goal.returns
returns c = record {
  link =
      mate_link c.args.self.now c.law_of_surface.ensures.surface c.args.s c.mate-t.result c.face_of.result
      c.edge_of-e.result c.requires.side c.mate-t.ensures c.face_of.ensures c.edge_of-e.ensures;
}
