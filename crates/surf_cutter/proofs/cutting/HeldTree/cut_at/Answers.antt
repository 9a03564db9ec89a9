use Rattle.surf_slit.proofs.Common.{◌≡◌, ◌≤◌, ◌<◌, ◌∙◌, ℕ, ap, sym, subst, arith, length, List, Bool, All, with_items_is, with_items}
use Rattle.surf_cutter.proofs.Common.{cut_count, through, MarkedMesh, IsChosenCut, IsNearFor, is_cut, IsTakenTo}
use Rattle.surf_cutter.proofs.Takes.{through_is_chosen, through_is_near, counted_cut}
use Rattle.surf_cutter.proofs.cutting.HeldTree.cut_at.Goals as goal
use Rattle.surf_cutter.proofs.cutting.HeldTree.cut_at.Goals.{After-count_cut}

-- what is left of the full cut
left : (c : After-count_cut) → (with_items c.turned_over-cut.result c.take_cut.new.cut).items ≡ c.take_cut.new.cut
left c = with_items_is c.turned_over-cut.result c.take_cut.new.cut (omega (arith, c.take_cut.auto.cut, c.deref_mut.ensures.len))

same : (c : After-count_cut) → length c.take_cut.new.cut ≡ length c.turned_over-cut.result.items
same c = c.take_cut.auto.cut ∙ ap length c.deref_mut.ensures.value

taken : (c : After-count_cut) → IsTakenTo c.self.inside.mesh.now c.args.points.now c.turned_over-cut.result.items c.take_cut.new.cut
taken c = subst (λ (marks : List Bool). IsTakenTo c.self.inside.mesh.now c.args.points.now marks c.take_cut.new.cut) c.deref_mut.ensures.value c.in_ok-take_cut.ensures.taken

counted : (c : After-count_cut) → c.count_cut.result ≡ cut_count c.self.inside.mesh.now (is_cut c.take_cut.new.cut)
counted c =
    counted_cut c.self.inside.mesh.now c.take_cut.new.cut (same c ∙ c.turned_over-cut.ensures.0 ∙ c.self.invariant.size) c.count_cut.result
    (rw (c.deref.ensures.value, left c) at c.count_cut.ensures)

is_chosen : (c : After-count_cut) → 2 ≤ c.count_cut.result →
    IsChosenCut c.self.inside.mesh.now c.self.inside.flags.items (through c.args.points.now) (with_items c.turned_over-cut.result c.take_cut.new.cut).items
is_chosen c many =
    subst (IsChosenCut c.self.inside.mesh.now c.self.inside.flags.items (through c.args.points.now)) (sym (left c))
    (through_is_chosen c.law_of_surface.ensures.surface c.self.inside.flags.items c.turned_over-cut.result.items c.self.invariant.size c.turned_over-cut.ensures c.self.invariant.held
    c.args.points.now c.take_cut.new.cut (same c) (taken c) (subst (λ (n : ℕ). 2 ≤ n) (counted c) many))

pub take_cut-requires-clause-flags : goal.take_cut-requires-clause-flags
take_cut-requires-clause-flags c = ap length c.deref_mut.ensures.value ∙ c.turned_over-cut.ensures.0 ∙ c.self.invariant.size

pub take_cut-requires-clause-points : goal.take_cut-requires-clause-points
take_cut-requires-clause-points c = subst (λ (held : MarkedMesh). All (λ v. v < held.mesh.vertices) c.args.points.now) (sym c.self.view_is) c.requires

pub count_cut-requires : goal.count_cut-requires
count_cut-requires c =
    let less = c.take_cut.new.cut in
    let items = with_items_is c.turned_over-cut.result less (omega (arith, c.take_cut.auto.cut, c.deref_mut.ensures.len)) in
    let size = c.deref.ensures.value ∙ items in
    omega (arith, ap length size, c.take_cut.auto.cut, ap length c.deref_mut.ensures.value, c.turned_over-cut.ensures.0, c.self.invariant.size, c.law_of_surface.ensures.edges)

pub returns-then-count_cut-lt2-clause-near : goal.returns-then-count_cut-lt2-clause-near
returns-then-count_cut-lt2-clause-near c _ =
    let i = (goal.at.returns-then-count_cut-lt2-clause-near c).After-count_cut in
    subst (λ (held : MarkedMesh). IsNearFor held.mesh held.marks (through c.args.points.now)) c.self.view_is
    (through_is_near c.law_of_surface.ensures.surface c.self.inside.flags.items c.turned_over-cut.result.items c.self.invariant.size c.turned_over-cut.ensures c.self.invariant.held
    c.args.points.now c.take_cut.new.cut (same i) (taken i) (subst (λ (n : ℕ). n < 2) (counted i) c.if-count_cut-lt2.true))

pub of-requires : goal.of-requires
of-requires c = (is_chosen (goal.at.of-requires c).After-count_cut c.if-count_cut-lt2.false).disc

pub returns-clause-mesh : goal.returns-clause-mesh
returns-clause-mesh c = ap (λ (cut : MarkedMesh). cut.mesh) c.of.ensures ∙ ap (λ (held : MarkedMesh). held.mesh) c.self.view_is

pub returns-clause-chosen : goal.returns-clause-chosen
returns-clause-chosen c =
    let marks = ap (λ (cut : MarkedMesh). cut.marks) c.of.ensures in
    subst (λ (held : MarkedMesh). IsChosenCut held.mesh held.marks (through c.args.points.now) c.of.result.marks) c.self.view_is
    (subst (IsChosenCut c.self.inside.mesh.now c.self.inside.flags.items (through c.args.points.now)) (sym marks)
    (is_chosen (goal.at.returns-clause-chosen c).After-count_cut c.if-count_cut-lt2.false))
