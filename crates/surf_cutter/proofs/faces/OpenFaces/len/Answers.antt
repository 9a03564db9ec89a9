use Rattle.std.proofs.Common.{length, ap, arith}
use Rattle.surf_cutter.proofs.FaceTables.{row_count}
use Rattle.surf_cutter.proofs.faces.OpenFaces.len.Goals as goal

pub returns : goal.returns
returns c = omega (
  arith,
  c.len.ensures,
  row_count c.self.inside.starts.items c.self.inside.corners.items c.self.invariant,
  ap length c.self.view_is,
)
