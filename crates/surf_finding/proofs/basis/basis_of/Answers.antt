use Rattle.surf_answers.proofs.Common.{◌≡◌, List, refl, subst, grown, Stops, measured_text, GivesBasis, page_answered}
use Rattle.surf_answers.proofs.Common.{page_stopped}
use Rattle.surf_basis.specs.Cycles.{as_loops}
use Rattle.surf_basis.specs.declared.cycle.Cycle.{Cycle}
use Rattle.surf_finding.proofs.FindingLaws.{gives_basis}
use Rattle.surf_finding.proofs.basis.basis_of.Goals as goal

pub returns-in_err-put_basis : goal.returns-in_err-put_basis
returns-in_err-put_basis c =
    let basis = as_loops c.in_ok-basis.basis.items in
    let e = c.in_ok-basis.ensures in
    let fault = c.in_err-put_basis.field-0.0 in
    page_stopped (GivesBasis c.args.mesh.now c.args.lengths.now) (measured_text "cycles " "cycle " basis) c.make-page.result c.make-page.ensures.empty
    (gives_basis c.args.mesh.now c.args.lengths.now c.law_of_surface.ensures.surface c.law_of_lengths.ensures.lengths c.requires.lengths basis e.chosen e.least) fault
    (subst (λ (cycles : List Cycle). Stops c.make-page.result (measured_text "cycles " "cycle " (as_loops cycles)) fault) c.deref.ensures.value c.in_err-put_basis.ensures.1)
    c.from_residual-in_err-put_basis.result c.from_residual-in_err-put_basis.ensures.1

pub returns : goal.returns
returns c =
    let basis = as_loops c.in_ok-basis.basis.items in
    let e = c.in_ok-basis.ensures in
    page_answered (GivesBasis c.args.mesh.now c.args.lengths.now) (measured_text "cycles " "cycle " basis) c.make-page.result c.make-page.ensures.empty
    (gives_basis c.args.mesh.now c.args.lengths.now c.law_of_surface.ensures.surface c.law_of_lengths.ensures.lengths c.requires.lengths basis e.chosen e.least) c.put_basis.new.page
    (subst (λ (cycles : List Cycle). c.put_basis.new.page ≡ grown c.make-page.result (measured_text "cycles " "cycle " (as_loops cycles))) c.deref.ensures.value c.in_ok-put_basis.ensures)
    c.yes.result _ c.yes.ensures refl c.into_bytes.ensures.bytes c.into_bytes.ensures.within
