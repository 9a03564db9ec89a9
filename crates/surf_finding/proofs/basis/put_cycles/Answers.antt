use Rattle.surf_answers.proofs.Common.{◌≡◌, ℕ, List, get_or, subst, Err, err_from_is_err_and, measured_line, Fills}
use Rattle.surf_basis.specs.declared.cycle.Cycle.{Cycle}
use Rattle.surf_finding.specs.CycleTexts.{cycle_found_line}
use Rattle.surf_texts.proofs.Filling.{stopped}
use Rattle.surf_finding.proofs.basis.put_cycles.Goals as goal

pub returns-in_err-put_cycle : goal.returns-in_err-put_cycle
returns-in_err-put_cycle c =
    let cycle = c.cycle-item.result in
    let i = c.loop-cycle.cycle-index in
    let fault = c.in_err-put_cycle.field-0.0 in
    let here : cycle ≡ get_or c.args.cycles.now i cycle = c.cycle-item.is in
    let p = err_from_is_err_and c.from_residual.result c.from_residual.ensures.1 in
    rw (p.1, p.2) (stopped c.args.page.now c.loop-cycle.page c.put_cycle.new.page cycle_found_line c.args.cycles.now i cycle fault c.loop-cycle-test.true c.loop-cycle.invariant
    (subst (λ (x : Cycle). Fills {A = Unit {0}} c.loop-cycle.page c.put_cycle.new.page (cycle_found_line x) (Err fault)) here
    (subst (λ (walk : List ℕ). Fills {A = Unit {0}} c.loop-cycle.page c.put_cycle.new.page (measured_line "cycle " cycle.length walk) (Err fault)) c.vertices.ensures c.in_err-put_cycle.ensures.fills)))
