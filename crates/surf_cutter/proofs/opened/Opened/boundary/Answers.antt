use Rattle.surf_slit.proofs.Common.{rules}
use Rattle.surf_cutter.proofs.Common.{IsBoundary, mesh_of}
use Rattle.surf_cutter.proofs.BoundaryOne.{boundary_one}
use Rattle.surf_cutter.proofs.opened.Opened.boundary.Goals as goal

pub returns-clause-only : goal.returns-clause-only
returns-clause-only c list is =
    let own : IsBoundary (mesh_of c.args.self.now) c.deref.result.now = search rules in
    boundary_one (mesh_of c.args.self.now) list c.deref.result.now is own
