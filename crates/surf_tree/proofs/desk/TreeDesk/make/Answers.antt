use Rattle.std.proofs.Common.{arith}
use Rattle.surf_mesh.proofs.LinkLaws.{cells_few}
use Rattle.surf_tree.proofs.desk.TreeDesk.make.Goals as goal

pub make-requires-2 : goal.make-requires-2
make-requires-2 c =
    let few = (cells_few c.args.mesh.now c.law_of_surface.ensures.surface c.law_of_surface.ensures.few).0 in
    record { few = omega (arith, few, c.vertices-2.ensures) }
