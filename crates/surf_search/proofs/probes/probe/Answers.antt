use Rattle.surf_search.proofs.Common.{◌<◌, ◌∙◌, sym, subst, SurfaceTables, StaysEnough}
use Rattle.surf_finder.proofs.Marked.{ends_inside}
use Rattle.surf_search.proofs.probes.probe.Goals as goal

pub search_to-requires-clause-base : goal.search_to-requires-clause-base
search_to-requires-clause-base c =
    let mesh = c.args.surface.now.mesh.now in
    let inside = ends_inside mesh c.law_of_surface.ensures.surface c.args.edge c.requires.edge c.ends-base.result c.ends-base.ensures in
    subst (λ (g : SurfaceTables). c.ends-base.result.0 < g.mesh.vertices) (sym (c.loop-step.invariant.same ∙ c.requires.finder)) inside.0

pub loop-step-preserved : goal.loop-step-preserved
loop-step-preserved c =
    let stays = subst (λ (g : SurfaceTables). StaysEnough g c.loop-step.choice c.search_to.new.choice) c.loop-step.invariant.same
    c.in_ok-search_to.ensures.kept in
    record {
      same = c.search_to.ensures.same ∙ c.loop-step.invariant.same;
      width = c.search_to.ensures.width ∙ c.loop-step.invariant.width;
      kept = λ caps kept. stays caps (c.loop-step.invariant.kept caps kept);
    }
