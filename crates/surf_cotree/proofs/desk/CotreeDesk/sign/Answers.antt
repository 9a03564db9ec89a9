use Rattle.surf_cotree.proofs.Common.{◌≤◌, ap, sym, subst, length, arith, CotreeTables}
use Rattle.surf_cotree.proofs.Tabled.{width_enough}
use Rattle.surf_cotree.proofs.desk.CotreeDesk.sign.Goals as goal

pub write-requires-clause-few : goal.write-requires-clause-few
write-requires-clause-few c =
    let d = c.self.inside in
    let enough = width_enough c.args.mesh.now c.args.self.now c.requires.grown c.requires.few in
    let few : length d.left.items ≤ d.signs.width =
    subst (λ (t : CotreeTables). length t.left ≤ t.width) (sym c.self.view_is) enough in
    let lent = ap length c.deref-4.ensures.value in
    omega (arith, few, lent)
