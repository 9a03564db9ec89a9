use Rattle.surf_search.proofs.Common.{◌∙◌, subst, SurfaceTables, StaysEnough}
use Rattle.surf_search.proofs.probes.probe_all.Goals as goal

pub loop-edge-preserved : goal.loop-edge-preserved
loop-edge-preserved c =
    let stays = subst (λ (g : SurfaceTables). StaysEnough g c.loop-edge.choice c.probe.new.choice) c.loop-edge.invariant.same
    c.in_ok-probe.ensures.kept in
    record {
      same = c.probe.ensures.same ∙ c.loop-edge.invariant.same;
      width = c.probe.ensures.width ∙ c.loop-edge.invariant.width;
      kept = λ caps kept. stays caps (c.loop-edge.invariant.kept caps kept);
    }
