use Rattle.surf_slit.proofs.Common.{◌≡◌, List, Bool, subst, rules, IfErr}
use Rattle.surf_cutter.proofs.Common.{Near, through, MarkedMesh, IsNearFor}
use Rattle.surf_cutter.proofs.along_tree.cut_through.Goals as goal

pub returns-clause-near : goal.returns-clause-near
returns-clause-near c =
    let same : c.in_ok-flags.flags.items ≡ c.args.cotree.now.held = search rules in
    let P : MarkedMesh → Type 0 = λ held. IfErr c.open_through.result (λ e. e ≡ Near → IsNearFor held.mesh held.marks (through c.args.points.now)) in
    let Q : List Bool → Type 0 = λ held. IfErr c.open_through.result (λ e. e ≡ Near → IsNearFor c.args.mesh.now held (through c.args.points.now)) in
    subst Q same (subst P c.of.ensures c.open_through.ensures.near)
