use Rattle.surf_slit.proofs.Common.{ℕ, List, Bool, IfOk-weaker, IsOpenedBy, IsUncut, AreLabels}
use Rattle.surf_cutter.proofs.Common.{AreInOrder}
use Rattle.surf_cutter.proofs.copies.open_along.Goals as goal

pub returns-clause-opened : goal.returns-clause-opened
returns-clause-opened c =
    let mesh = c.args.mesh.now in
    let labels = c.in_ok-labels.labels.items in
    IfOk-weaker c.open_by.result
    (λ r. (cut : List Bool) (count : ℕ) → AreLabels mesh cut labels count → IsOpenedBy mesh (IsUncut mesh cut) r.0.items r.1)
    (λ r. IsOpenedBy mesh (IsUncut mesh c.args.cut.now) r.0.items r.1)
    (λ r opened. opened c.args.cut.now c.in_ok-labels.count c.in_ok-labels.ensures) c.open_by.ensures.opened

pub returns-clause-order : goal.returns-clause-order
returns-clause-order c =
    let mesh = c.args.mesh.now in
    let labels = c.in_ok-labels.labels.items in
    IfOk-weaker c.open_by.result
    (λ r. (cut : List Bool) (count : ℕ) → AreLabels mesh cut labels count → AreInOrder mesh r.0.items r.1)
    (λ r. AreInOrder mesh r.0.items r.1)
    (λ r order. order c.args.cut.now c.in_ok-labels.count c.in_ok-labels.ensures) c.open_by.ensures.order
