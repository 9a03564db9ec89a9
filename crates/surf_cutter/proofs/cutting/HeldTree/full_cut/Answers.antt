use Rattle.surf_slit.proofs.Common.{◌∙◌, ap, sym, subst}
use Rattle.surf_cutter.proofs.Common.{full, MarkedMesh, IsChosenCut}
use Rattle.surf_cutter.proofs.Chosen.{full_is_chosen}
use Rattle.surf_cutter.proofs.cutting.HeldTree.full_cut.Goals as goal
use Rattle.surf_cutter.proofs.cutting.HeldTree.full_cut.Goals.{After-turned_over-cut}

is_chosen : (c : After-turned_over-cut) → IsChosenCut c.self.inside.mesh.now c.self.inside.flags.items full c.turned_over-cut.result.items
is_chosen c =
    full_is_chosen c.law_of_surface.ensures.surface c.self.inside.flags.items c.turned_over-cut.result.items c.self.invariant.size
    c.turned_over-cut.ensures c.self.invariant.held

pub of-requires : goal.of-requires
of-requires c = (is_chosen (goal.at.of-requires c).After-turned_over-cut).disc

pub returns-clause-mesh : goal.returns-clause-mesh
returns-clause-mesh c = ap (λ (cut : MarkedMesh). cut.mesh) c.of.ensures ∙ ap (λ (held : MarkedMesh). held.mesh) c.self.view_is

pub returns-clause-chosen : goal.returns-clause-chosen
returns-clause-chosen c =
    let marks = ap (λ (cut : MarkedMesh). cut.marks) c.of.ensures in
    subst (λ (held : MarkedMesh). IsChosenCut held.mesh held.marks full c.of.result.marks) c.self.view_is
    (subst (IsChosenCut c.self.inside.mesh.now c.self.inside.flags.items full) (sym marks) (is_chosen (goal.at.returns-clause-chosen c).After-turned_over-cut))
