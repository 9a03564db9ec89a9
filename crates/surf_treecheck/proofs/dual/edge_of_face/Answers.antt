use Rattle.surf_surfaces.proofs.Common.{sym, ◌∙◌, true≢false}
use Rattle.surf_treecheck.proofs.EdgeUp.{number_is}
use Rattle.surf_treecheck.proofs.FaceEdges.{no_side, side_of}
use Rattle.surf_treecheck.proofs.dual.edge_of_face.Goals as goal

pub returns-in-None : goal.returns-in-None
returns-in-None c = record {
  edge = no_side c.args.mesh.now c.args.f c.args.u c.args.v c.requires.face c.in-None.ensures.edge;
}

pub returns-then-is_beside : goal.returns-then-is_beside
returns-then-is_beside c =
    let mesh = c.args.mesh.now in
    let e = c.in-Some.e in
    let is = side_of mesh c.args.f c.args.u c.args.v e c.law_of_surface.ensures.surface c.in-Some.ensures.edge.0
    c.in-Some.ensures.edge.1 in
    record {
      edge = (
        is ∙ sym c.if-is_beside.ensures.beside,
        c.in-Some.ensures.edge.0,
        number_is mesh c.args.u c.args.v e c.in-Some.ensures.edge.0 c.in-Some.ensures.edge.1,
      );
    }

pub returns-else-is_beside : goal.returns-else-is_beside
returns-else-is_beside c =
    let mesh = c.args.mesh.now in
    let is = side_of mesh c.args.f c.args.u c.args.v c.in-Some.e c.law_of_surface.ensures.surface c.in-Some.ensures.edge.0
    c.in-Some.ensures.edge.1 in
    record { edge = λ has. true≢false (sym has ∙ is ∙ sym c.if-is_beside.ensures.beside) }
