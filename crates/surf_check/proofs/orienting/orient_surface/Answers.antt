use Rattle.surf_surfaces.proofs.Common.{◌≡◌, List, Bool, false, length, sym, subst, replicate, face_count, IsOrientation}
use Rattle.std.proofs.Math.ListN.{length-replicate}
use Rattle.surf_check.specs.Growth.{flag_of}
use Rattle.surf_check.proofs.orienting.orient_surface.Goals as goal

pub returns-in-Some : goal.returns-in-Some
returns-in-Some c =
    let mesh = c.args.mesh.now in
    let plain = replicate (face_count mesh) false in
    let told : (c.in-Some.turning ≡ plain) × IsOrientation mesh (flag_of plain) =
    rw c.in-Some.is at c.in_ok-turning.ensures in
    let P : List Bool → Type 0 = λ xs. (length xs ≡ face_count mesh) × IsOrientation mesh (flag_of xs) in
    subst P (sym told.0) (length-replicate (face_count mesh) false, told.1)
