use Rattle.std.proofs.Common.{subst}
use Rattle.surf_check.specs.Growth.{flag_of}
use Rattle.surf_check.specs.Oriented.{AreSides}
use Rattle.surf_check.specs.declared.answers.Sides.{Sides}
use Rattle.surf_check.proofs.kinds.are_two.Goals as goal

pub returns-in-Two : goal.returns-in-Two
returns-in-Two c =
    let P : Sides → Type 0 = AreSides c.args.mesh.now in
    let sides = subst P c.in-Two.is c.in_ok-orient_surface.ensures in
    (flag_of c.in-Two.field-0, sides.1)
