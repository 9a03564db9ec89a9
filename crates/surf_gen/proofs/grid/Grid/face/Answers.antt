use Rattle.surf_surfaces.proofs.Common.{◌≡◌, ◌+◌, ◌*◌, ◌/◌, ◌%◌, ap, sym, ◌∙◌, arith, div-add-mod', mod_below, face_at}
use Rattle.surf_tori.specs.Torus.{torus}
use Rattle.surf_tori.proofs.TorusLaws.{cell_faces_at}
use Rattle.surf_gen.proofs.grid.Grid.face.Goals as goal

pub returns-then-f-eq0-clause-corners : goal.returns-then-f-eq0-clause-corners
returns-then-f-eq0-clause-corners c =
    let f = c.args.f in
    let whole : f / 2 * 2 + f % 2 ≡ f = div-add-mod' f 2 in
    let even : f % 2 ≡ 0 = c.if-f-eq0.true in
    let is = cell_faces_at c.args.self.rows c.args.self.columns (f / 2) c.args.self.tall c.args.self.wide
    (omega (arith, whole, even, c.requires)) in
    c.first_face.ensures.corners ∙ sym is.0
    ∙ ap (face_at (torus c.args.self.rows c.args.self.columns)) (omega (arith, whole, even))

pub returns-else-f-eq0-clause-corners : goal.returns-else-f-eq0-clause-corners
returns-else-f-eq0-clause-corners c =
    let f = c.args.f in
    let whole : f / 2 * 2 + f % 2 ≡ f = div-add-mod' f 2 in
    let small = mod_below f 2 (omega arith) in
    let odd = c.if-f-eq0.false in
    let is = cell_faces_at c.args.self.rows c.args.self.columns (f / 2) c.args.self.tall c.args.self.wide
    (omega (arith, whole, c.requires)) in
    c.second_face.ensures.corners ∙ sym is.1
    ∙ ap (face_at (torus c.args.self.rows c.args.self.columns)) (omega (arith, whole, small, odd))
