use Rattle.surf_slit.proofs.Common.{◌≡◌, subst, IfErr}
use Rattle.surf_cutter.proofs.Common.{Near, kind_of, MarkedMesh, IsNearFor}
use Rattle.surf_cutter.proofs.along_tree.disc_outside.Goals as goal

pub returns-clause-near : goal.returns-clause-near
returns-clause-near c =
    let P : MarkedMesh → Type 0 = λ held. IfErr c.open_disc.result (λ e. e ≡ Near → IsNearFor held.mesh held.marks (kind_of c.args.kind)) in
    subst P c.of.ensures c.open_disc.ensures.near
