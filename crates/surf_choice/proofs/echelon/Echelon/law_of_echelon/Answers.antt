use Rattle.surf_choice.proofs.Common.{◌≤◌, length, subst, Independent, numbers, Rows}
use Rattle.surf_choice.proofs.Admitted.{rows_few}
use Rattle.surf_choice.proofs.Greatest.{independent_led}
use Rattle.surf_choice.proofs.echelon.Echelon.law_of_echelon.Goals as goal

pub returns-clause-independent : goal.returns-clause-independent
returns-clause-independent c =
    let t = c.self.inside in
    subst (λ (r : Rows). Independent numbers r.rows) c.self.view_is (independent_led t.rows.items t.tops.items c.self.invariant.0.led)

pub returns-clause-few : goal.returns-clause-few
returns-clause-few c =
    let t = c.self.inside in
    subst (λ (r : Rows). length r.rows ≤ r.width) c.self.view_is (rows_few t.rows.items t.tops.items t.places.items c.self.invariant.0)
