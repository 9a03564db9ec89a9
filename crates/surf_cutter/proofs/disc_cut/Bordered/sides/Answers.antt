use Rattle.surf_slit.proofs.Common.{sym, subst}
use Rattle.surf_cutter.proofs.Common.{AreBorderSides, mesh_of}
use Rattle.surf_cutter.proofs.disc_cut.Bordered.sides.Goals as goal

pub returns : goal.returns
returns c =
    let disc = mesh_of c.self.inside.disc.now in
    subst (λ disc. AreBorderSides disc c.deref.result.now) c.self.view_is (subst (AreBorderSides disc) (sym c.deref.ensures.value) c.self.invariant.all)
