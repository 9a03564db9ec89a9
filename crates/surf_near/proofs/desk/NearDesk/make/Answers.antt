use Rattle.surf_near.proofs.Common.{arith, cells_few}
use Rattle.surf_near.proofs.desk.NearDesk.make.Goals as goal

pub make-requires : goal.make-requires
make-requires c =
    let few = cells_few c.args.mesh.now c.vertices.ensures.surface c.vertices.ensures.few in
    record { few = omega (arith, few.0, c.vertices.ensures.count) }
