use Rattle.surf_surfaces.proofs.Common.{◌≡◌, ◌*◌, ◌-◌, sym, subst, face_count}
use Rattle.surf_words.specs.Shapes.{Shape, mesh_of}
use Rattle.surf_words.proofs.ShapeLaws.{shape_faces}
use Rattle.surf_words.proofs.shape.Shape.faces.Goals as goal

pub returns : goal.returns
returns c =
    let inside = c.self.inside in
    let seen : Shape = record { tori = inside.tori; rows = inside.rows; columns = inside.columns } in
    subst (λ s. 2 * (c.from-tori.result * (c.from.result * c.from-2.result)) - 2 * (c.from-tori.result - 1)
    ≡ face_count (mesh_of s)) c.self.view_is
    (rw (c.from-tori.ensures, c.from.ensures, c.from-2.ensures) (sym (shape_faces seen c.self.invariant)))
