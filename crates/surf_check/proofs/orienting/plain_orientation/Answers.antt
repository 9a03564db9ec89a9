use Rattle.surf_surfaces.proofs.Common.{◌≡◌, List, Bool, false, sym, subst, ◌∙◌, replicate, face_count, IsOrientation}
use Rattle.surf_orientation.proofs.OneSidedLaws.{orientations_fit}
use Rattle.surf_check.specs.Growth.{flag_of}
use Rattle.surf_check.proofs.orienting.plain_orientation.Goals as goal

pub returns-in-None : goal.returns-in-None
returns-in-None c =
    let mesh = c.args.mesh.now in
    let plain = replicate (face_count mesh) false in
    let Q : List Bool → Type 0 = λ xs. IsOrientation mesh (flag_of xs) in
    let are : c.in_ok-flags.flags.items ≡ plain = c.in_ok-flags.ensures in (
      c.from_flags.ensures ∙ are,
      subst Q (c.deref.ensures.value ∙ are) c.in-None.ensures,
    )

pub returns-in-Some : goal.returns-in-Some
returns-in-Some c =
    let mesh = c.args.mesh.now in
    let plain = replicate (face_count mesh) false in
    let Q : List Bool → Type 0 = λ xs. IsOrientation mesh (flag_of xs) in
    let are : c.in_ok-flags.flags.items ≡ plain = c.in_ok-flags.ensures in
    let flags = c.deref.result.now in
    λ turning. c.in-Some.ensures.1 ((orientations_fit mesh (flag_of flags) c.law_of_surface.ensures.surface).0
    (subst Q (sym (c.deref.ensures.value ∙ are)) turning) c.in-Some.field-0 c.in-Some.ensures.0)
