use Rattle.surf_cutter.proofs.FaceTables.{rows_of, bounds_of}
use Rattle.surf_cutter.proofs.faces.OpenFaces.of_corners.Goals as goal

pub returns : goal.returns
returns c =
    let mesh = c.args.mesh.now in
    let starts = c.in_ok-starts.starts.items in
    let items = c.args.corners.items in
    record { rows = rows_of mesh starts items c.in_ok-starts.ensures (bounds_of mesh starts items c.in_ok-starts.ensures c.requires) }
