use Rattle.std.proofs.Common.{sym, subst}
use Rattle.surf_cutter.specs.Opened.{OpenMesh, IsOpenedInOrder}
use Rattle.surf_cutter.proofs.cutting.open_bordered.Goals as goal

pub returns : goal.returns
returns c =
    let P : OpenMesh → Type 0 = λ o. IsOpenedInOrder c.args.cut.now.mesh c.args.cut.now.marks o in
    subst P (sym c.from_parts.ensures) c.in_ok-disc.ensures
