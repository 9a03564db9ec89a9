use Rattle.surf_answers.proofs.Common.{◌≡◌, Bool, List, length, ap, ◌∙◌, sym, subst}
use Rattle.surf_cutter.specs.Opened.{IsHeld, IsChosenFor, IsNearFor}
use Rattle.surf_loops.specs.Loops.{with_cotree}
use Rattle.surf_cutting.proofs.CutLaws.{desk_is_held, desk_cuts, desk_nears, desk_origins}
use Rattle.surf_cutting.proofs.cut.held_at.Goals as goal
use Rattle.surf_cutting.proofs.cut.held_at.Goals.{After-into_held}

-- the flags are those of such tables
flags_are : (c : After-into_held) → c.into_held.result.items ≡ c.in_ok-loops.ensures.greedy.cotree.held
flags_are c = c.into_held.ensures.held ∙ sym c.in_ok-loops.ensures.greedy.held

pub returns-clause-size : goal.returns-clause-size
returns-clause-size c = ap length (flags_are c) ∙ c.in_ok-loops.ensures.greedy.greedy.made.cotree.held

pub returns-clause-held : goal.returns-clause-held
returns-clause-held c =
    let g = c.in_ok-loops.ensures.greedy in
    subst (IsHeld c.args.mesh.now) (sym (flags_are c))
    (desk_is_held c.args.mesh.now c.args.lengths.now c.args.base (with_cotree c.in_ok-loops.loops g.cotree) c.law_of_surface.ensures.surface g.greedy)

pub returns-clause-cuts : goal.returns-clause-cuts
returns-clause-cuts c kind o inside chosen =
    let mesh = c.args.mesh.now in
    let g = c.in_ok-loops.ensures.greedy in
    desk_cuts mesh c.args.lengths.now c.args.base (with_cotree c.in_ok-loops.loops g.cotree) c.law_of_surface.ensures.surface g.greedy kind o
    (subst (λ (held : List Bool). IsChosenFor mesh held kind o) (flags_are c) chosen) inside

pub returns-clause-near : goal.returns-clause-near
returns-clause-near c kind near =
    let mesh = c.args.mesh.now in
    let g = c.in_ok-loops.ensures.greedy in
    desk_nears mesh c.args.lengths.now c.args.base (with_cotree c.in_ok-loops.loops g.cotree) c.law_of_surface.ensures.surface g.greedy kind
    (subst (λ (held : List Bool). IsNearFor mesh held kind) (flags_are c) near)

pub returns-clause-origins : goal.returns-clause-origins
returns-clause-origins c kind o chosen =
    let mesh = c.args.mesh.now in
    let g = c.in_ok-loops.ensures.greedy in
    desk_origins mesh c.args.lengths.now c.args.base (with_cotree c.in_ok-loops.loops g.cotree) c.law_of_surface.ensures.surface g.greedy kind o
    (subst (λ (held : List Bool). IsChosenFor mesh held kind o) (flags_are c) chosen)
