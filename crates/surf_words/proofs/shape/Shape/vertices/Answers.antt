use Rattle.std.proofs.Common.{◌≡◌, ◌*◌, ◌-◌, sym, subst}
use Rattle.surf_words.specs.Shapes.{Shape, mesh_of}
use Rattle.surf_words.proofs.ShapeLaws.{shape_vertices}
use Rattle.surf_words.proofs.shape.Shape.vertices.Goals as goal

pub returns : goal.returns
returns c =
    let inside = c.self.inside in
    let seen : Shape = record { tori = inside.tori; rows = inside.rows; columns = inside.columns } in
    subst (λ s. c.from-tori.result * (c.from.result * c.from-2.result) - 3 * (c.from-tori.result - 1)
    ≡ (mesh_of s).vertices) c.self.view_is
    (rw (c.from-tori.ensures, c.from.ensures, c.from-2.ensures) (sym (shape_vertices seen c.self.invariant)))
