use Rattle.surf_slit.proofs.Common.{◌≡◌, ◌<◌, length, replicate, false, ℕ, ap, ◌∙◌, refl, arith, rules, length-replicate, edge_count, side_count, corner_at}
use Rattle.surf_slit.proofs.Steps.{corner_below}
use Rattle.surf_slit.proofs.VertexLabels.{vertices_are_labels}
use Rattle.surf_slit.proofs.slit.Slit.start.Goals as goal

pub invariant_of-result : goal.invariant_of-result
invariant_of-result c =
    let mesh = c.args.mesh.now in
    let surface = c.law_of_surface.ensures.surface in
    let none : c.in_ok-cut.cut.items ≡ replicate (edge_count mesh) false = search rules in
    let many : c.vertices-count.result ≡ mesh.vertices = c.vertices-count.ensures.count in
    let low : (s : ℕ) → s < side_count mesh → corner_at mesh s < c.loop-v.v = λ s h. let b = corner_below surface s h in let n = c.vertices-v-end.ensures.count in let e = c.loop-v-test.false in omega arith in
    let are = vertices_are_labels surface c.loop-v.labels.items c.loop-v.invariant.size (λ s h. c.loop-v.invariant.by_vertex s h (low s h)) in
    record {
      surface = surface;
      few = c.law_of_surface.ensures.few;
      flags = ap length none ∙ length-replicate (edge_count mesh) false;
      are_labels = rw (none, many) are;
    }

pub returns : goal.returns
returns c =
    let mesh = c.args.mesh.now in
    let surface = c.law_of_surface.ensures.surface in
    let none : c.in_ok-cut.cut.items ≡ replicate (edge_count mesh) false = search rules in
    let low : (s : ℕ) → s < side_count mesh → corner_at mesh s < c.loop-v.v = λ s h. let b = corner_below surface s h in let n = c.vertices-v-end.ensures.count in let e = c.loop-v-test.false in omega arith in
    record {
      same_mesh = refl;
      none_cut = none;
      by_vertex = λ s h. c.loop-v.invariant.by_vertex s h (low s h);
      as_many = c.vertices-count.ensures.count;
    }
