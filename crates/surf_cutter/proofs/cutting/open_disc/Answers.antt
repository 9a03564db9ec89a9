use Rattle.surf_surfaces.proofs.Common.{subst, err_from_is_err_and, Mesh}
use Rattle.surf_cutter.specs.Opened.{IsOpenedInOrder}
use Rattle.surf_cutter.proofs.Chosen.{chosen_is_opening, chosen_border}
use Rattle.surf_cutter.proofs.cutting.open_disc.Goals as goal

pub returns-in_err-cut-clause-near : goal.returns-in_err-cut-clause-near
returns-in_err-cut-clause-near c =
    let p = err_from_is_err_and c.from_residual.result c.from_residual.ensures.1 in
    rw (p.1, p.2) c.in_err-cut.ensures.near

pub returns-clause-chosen : goal.returns-clause-chosen
returns-clause-chosen c =
    let opened = subst (λ (mesh : Mesh). IsOpenedInOrder mesh c.in_ok-cut.cut.marks c.in_ok-opened.opened) c.in_ok-cut.ensures.mesh c.in_ok-opened.ensures in
    c.in_ok-cut.ensures.chosen.chosen c.in_ok-opened.opened opened

pub returns-clause-opening : goal.returns-clause-opening
returns-clause-opening c =
    let opened = subst (λ (mesh : Mesh). IsOpenedInOrder mesh c.in_ok-cut.cut.marks c.in_ok-opened.opened) c.in_ok-cut.ensures.mesh c.in_ok-opened.ensures in
    chosen_is_opening c.law_of_held.ensures.surface c.law_of_held.ensures.held c.in_ok-cut.ensures.chosen c.in_ok-opened.opened
    opened

pub returns-clause-border : goal.returns-clause-border
returns-clause-border c =
    let opened = subst (λ (mesh : Mesh). IsOpenedInOrder mesh c.in_ok-cut.cut.marks c.in_ok-opened.opened) c.in_ok-cut.ensures.mesh c.in_ok-opened.ensures in
    chosen_border c.law_of_held.ensures.surface c.law_of_held.ensures.held c.in_ok-cut.ensures.chosen c.requires c.in_ok-opened.opened
    opened
