use Rattle.surf_surfaces.proofs.Common.{◌≡◌, ◌*◌, sym, subst, loop_count}
use Rattle.surf_words.specs.Shapes.{Shape, mesh_of}
use Rattle.surf_words.proofs.ShapeLaws.{shape_loops}
use Rattle.surf_words.proofs.shape.Shape.loops.Goals as goal

pub returns-clause-count : goal.returns-clause-count
returns-clause-count c =
    let inside = c.self.inside in
    let seen : Shape = record { tori = inside.tori; rows = inside.rows; columns = inside.columns } in
    subst (λ s. 2 * c.from.result ≡ loop_count (mesh_of s)) c.self.view_is
    (rw c.from.ensures (sym (shape_loops seen c.self.invariant)))
