use Rattle.surf_surfaces.proofs.Common.{◌≡◌, ◌≤◌, ◌+◌, ◌-◌, length, arith, edge_count, face_count}
use Rattle.surf_certcheck.proofs.cases.BasisCase.law_of_cycles.Goals as goal

pub returns : goal.returns
returns c =
    let case = c.args.self.now in
    let mesh = case.mesh.now in
    let few : edge_count mesh + 2 - (mesh.vertices + face_count mesh) ≤ 1024 = case.few in
    let count : length case.cert.now.cycles + mesh.vertices + face_count mesh ≡ edge_count mesh + 2 = case.shape.loops.cycles in
    record { few = omega (arith, few, count) }
