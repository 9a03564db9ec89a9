use Rattle.surf_slit.proofs.Common.{subst, IfOk, IfOk-weaker, Mesh}
use Rattle.surf_cutter.proofs.Common.{trimmed, IsOpenedInOrder, IsChosenFor}
use Rattle.surf_cutter.proofs.Chosen.{chosen_opening}
use Rattle.surf_cutter.proofs.cutting.open_trimmed.Goals as goal
use Rattle.surf_cutter.proofs.cutting.open_trimmed.Goals.{After-open_bordered}

opened : (c : After-open_bordered) → IfOk c.open_bordered.result (λ o. IsOpenedInOrder c.args.held.mesh c.in_ok-cut.cut.marks o)
opened c = subst (λ (mesh : Mesh). IfOk c.open_bordered.result (λ o. IsOpenedInOrder mesh c.in_ok-cut.cut.marks o)) c.in_ok-cut.ensures.mesh c.open_bordered.ensures

pub returns-clause-chosen : goal.returns-clause-chosen
returns-clause-chosen c =
    let held = c.args.held in
    IfOk-weaker c.open_bordered.result (λ o. IsOpenedInOrder held.mesh c.in_ok-cut.cut.marks o) (λ o. IsChosenFor held.mesh held.marks trimmed o)
    c.in_ok-cut.ensures.chosen.chosen (opened (goal.at.returns-clause-chosen c).After-open_bordered)

pub returns-clause-opening : goal.returns-clause-opening
returns-clause-opening c =
    chosen_opening c.law_of_held.ensures.surface c.law_of_held.ensures.held c.in_ok-cut.ensures.chosen c.open_bordered.result
    (opened (goal.at.returns-clause-opening c).After-open_bordered)
