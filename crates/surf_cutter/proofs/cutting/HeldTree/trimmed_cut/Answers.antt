use Rattle.surf_slit.proofs.Common.{◌≡◌, ◌∙◌, ap, sym, subst, arith, length, List, Bool, with_items_is, with_items}
use Rattle.surf_cutter.proofs.Common.{trimmed, MarkedMesh, IsChosenCut, IsTrimmedFrom}
use Rattle.surf_cutter.proofs.Chosen.{trimmed_is_chosen}
use Rattle.surf_cutter.proofs.cutting.HeldTree.trimmed_cut.Goals as goal
use Rattle.surf_cutter.proofs.cutting.HeldTree.trimmed_cut.Goals.{After-law_of_surface}

is_chosen : (c : After-law_of_surface) → IsChosenCut c.self.inside.mesh.now c.self.inside.flags.items trimmed (with_items c.turned_over-cut.result c.trim_cut.new.cut).items
is_chosen c =
    let mesh = c.self.inside.mesh.now in
    let held = c.self.inside.flags.items in
    let cut = c.turned_over-cut.result.items in
    let less = c.trim_cut.new.cut in
    let items : (with_items c.turned_over-cut.result less).items ≡ less = with_items_is c.turned_over-cut.result less (omega (arith, c.trim_cut.auto.cut, c.deref_mut.ensures.len)) in
    let steps : IsTrimmedFrom mesh cut less = subst (λ (marks : List Bool). IsTrimmedFrom mesh marks less) c.deref_mut.ensures.value c.in_ok-trim_cut.ensures.trimmed in
    subst (IsChosenCut mesh held trimmed) (sym items)
    (trimmed_is_chosen c.law_of_surface.ensures.surface held cut c.self.invariant.size c.turned_over-cut.ensures c.self.invariant.held less
    (c.trim_cut.auto.cut ∙ ap length c.deref_mut.ensures.value) steps c.in_ok-trim_cut.ensures.ended)

pub trim_cut-requires : goal.trim_cut-requires
trim_cut-requires c = ap length c.deref_mut.ensures.value ∙ c.turned_over-cut.ensures.0 ∙ c.self.invariant.size

pub of-requires : goal.of-requires
of-requires c = (is_chosen (goal.at.of-requires c).After-law_of_surface).disc

pub returns-clause-mesh : goal.returns-clause-mesh
returns-clause-mesh c = ap (λ (cut : MarkedMesh). cut.mesh) c.of.ensures ∙ ap (λ (held : MarkedMesh). held.mesh) c.self.view_is

pub returns-clause-chosen : goal.returns-clause-chosen
returns-clause-chosen c =
    let marks = ap (λ (cut : MarkedMesh). cut.marks) c.of.ensures in
    subst (λ (held : MarkedMesh). IsChosenCut held.mesh held.marks trimmed c.of.result.marks) c.self.view_is
    (subst (IsChosenCut c.self.inside.mesh.now c.self.inside.flags.items trimmed) (sym marks) (is_chosen (goal.at.returns-clause-chosen c).After-law_of_surface))
