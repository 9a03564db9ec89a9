use Rattle.surf_surfaces.proofs.Common.{◌+◌, length, refl, ap, ◌∙◌, arith, owners, first_side}
use Rattle.surf_soup.specs.Darts.{DartTables}
use Rattle.surf_soup.proofs.HalfLaws.{face_of_side}
use Rattle.surf_soup.proofs.darts.Darts.span_at.Goals as goal

pub span-requires : goal.span-requires
span-requires c =
    let mesh = c.args.self.now.mesh in
    let own = face_of_side mesh (owners 0 mesh.faces) c.args.side 0 refl c.requires in
    omega (arith, own.is_face, c.face_at.ensures, ap (λ (t : DartTables). length t.mesh.faces) c.self.view_is)

pub returns-clause-start : goal.returns-clause-start
returns-clause-start c =
    c.span.ensures.start ∙ ap (λ (t : DartTables). first_side t.mesh c.face_at.result) c.self.view_is
    ∙ ap (first_side c.args.self.now.mesh) c.face_at.ensures

pub returns-clause-end : goal.returns-clause-end
returns-clause-end c =
    c.span.ensures.end ∙ ap (λ (t : DartTables). first_side t.mesh (c.face_at.result + 1)) c.self.view_is
    ∙ ap (λ f. first_side c.args.self.now.mesh (f + 1)) c.face_at.ensures
