use Rattle.surf_surfaces.proofs.Common.{◌≡◌, eqb, get_or, false, ap, ◌∙◌, xor, xor_assoc, faces_of}
use Rattle.surf_class.proofs.StepEdges.{both_faces}
use Rattle.surf_class.proofs.check.turn_faces.Goals as goal

pub returns : goal.returns
returns c =
    let mesh = c.args.mesh.now in
    let old = c.args.odd.now in
    let near : c.index.result ≡ (faces_of mesh c.args.edge).0 =
    c.index.ensures ∙ ap (λ p. p.0) c.faces_beside-near.ensures.faces in
    let far : c.index-2.result ≡ (faces_of mesh c.args.edge).1 =
    c.index-2.ensures ∙ ap (λ p. p.1) c.faces_beside-near.ensures.faces in
    record {
      turned = λ f l.
          c.turn-2.ensures.turned f ∙ ap (λ x. xor x (eqb f c.index-2.result)) (c.turn.ensures.turned f)
          ∙ xor_assoc (get_or old f false) (eqb f c.index.result) (eqb f c.index-2.result)
          ∙ ap (λ n. xor (get_or old f false) (xor (eqb f n) (eqb f c.index-2.result))) near
          ∙ ap (λ n. xor (get_or old f false) (xor (eqb f (faces_of mesh c.args.edge).0) (eqb f n))) far
          ∙ ap (xor (get_or old f false)) (both_faces mesh c.law_of_surface.ensures.surface c.args.edge f c.requires.edge);
    }
