use Rattle.surf_finder.proofs.Common.{◌<◌, ◌+◌, ◌-◌, ◌++◌, ◌≡◌, ℕ, replicate, length, ap, ◌∙◌, arith, edge_count, ends, ends_in}
use Rattle.surf_finder.proofs.Rising.{low_rises, starts_filled, starts_next, starts_last, starts_done}
use Rattle.surf_finder.proofs.rises.Rises.make.Goals as goal

pub loop-e-preserved : goal.loop-e-preserved
loop-e-preserved c =
    let mesh = c.args.mesh.now in
    let e = c.loop-e.e in
    let old = c.loop-e.starts.items in
    let e_in : e < edge_count mesh = omega (arith, c.loop-e-test.true, c.edges-e-end.ensures.count) in
    let low : c.ends-low.result.0 ≡ (ends mesh e).0 = ap (λ (p : ℕ × ℕ). p.0) c.ends-low.ensures ∙ ap (λ n. (ends mesh n).0) c.new.ensures in
    let low_in : (ends mesh e).0 < mesh.vertices = (ends_in mesh c.law_of_surface.ensures.surface e e_in).0 in
    let (filled, long) = starts_filled mesh e (c.ends-low.result.0 + 1) old c.fill.new.starts.items c.loop-e.invariant
    (omega (arith, e_in)) (omega (arith, low, low_in))
    (λ f le l. (let rises = low_rises mesh e f le l in omega (arith, low, rises))) (c.in_ok-fill.ensures.filled ∙ ap (λ n. old ++ replicate (n + 1 - length old) e) c.index.ensures) in
    starts_next mesh e c.fill.new.starts.items filled (omega (arith, low, long))

pub returns : goal.returns
returns c =
    let mesh = c.args.mesh.now in
    let old = c.loop-e.starts.items in
    let new = c.fill-2.new.starts.items in
    let push : new ≡ old ++ replicate (mesh.vertices + 1 - length old) (edge_count mesh) = c.in_ok-fill-2.ensures.filled
    ∙ ap (λ n. old ++ replicate (n + 1 - length old) c.edges.result) c.vertices-2.ensures.count
    ∙ ap (λ n. old ++ replicate (mesh.vertices + 1 - length old) n) c.edges.ensures.count in
    let (filled, long) = starts_filled mesh (edge_count mesh) (mesh.vertices + 1) old new
    (starts_last mesh c.loop-e.e old c.loop-e.invariant (omega (arith, c.loop-e-test.false, c.edges-e-end.ensures.count)))
    (omega arith) (omega arith) (λ f le l. absurd (omega (arith, le, l))) push in
    record { starts = starts_done mesh (edge_count mesh) new filled long }
