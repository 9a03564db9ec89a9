use Rattle.surf_answers.proofs.Common.{refl, GivesCycle, page_answered, page_stopped}
use Rattle.surf_finding.specs.CycleTexts.{found_text}
use Rattle.surf_finding.proofs.FindingLaws.{gives_cycle}
use Rattle.surf_finding.proofs.cycle.cycle_of.Goals as goal

pub returns-in_err-put_found : goal.returns-in_err-put_found
returns-in_err-put_found c =
    let found = c.in_ok-found.found in
    let e = c.in_ok-found.ensures in
    page_stopped (GivesCycle c.args.mesh.now c.args.lengths.now) (found_text found) c.make-page.result c.make-page.ensures.empty
    (gives_cycle c.args.mesh.now c.args.lengths.now c.law_of_surface.ensures.surface c.law_of_lengths.ensures.lengths c.requires.lengths found e.first e.shortest e.separate)
    c.in_err-put_found.field-0.0 c.in_err-put_found.ensures.1 c.from_residual-in_err-put_found.result c.from_residual-in_err-put_found.ensures.1

pub returns : goal.returns
returns c =
    let found = c.in_ok-found.found in
    let e = c.in_ok-found.ensures in
    page_answered (GivesCycle c.args.mesh.now c.args.lengths.now) (found_text found) c.make-page.result c.make-page.ensures.empty
    (gives_cycle c.args.mesh.now c.args.lengths.now c.law_of_surface.ensures.surface c.law_of_lengths.ensures.lengths c.requires.lengths found e.first e.shortest e.separate)
    c.put_found.new.page c.in_ok-put_found.ensures c.yes.result _ c.yes.ensures refl c.into_bytes.ensures.bytes c.into_bytes.ensures.within
