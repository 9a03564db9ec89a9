use Rattle.surf_surfaces.proofs.Common.{rules, ◌≡◌, ◌+◌, ◌<◌, length, take, bit_xor, ap, sym, ◌∙◌, arith, steps, edge_number}
use Rattle.surf_treecheck.proofs.Steps.{sets_more, count_steps, take_whole}
use Rattle.surf_sheetcheck.specs.Cocycles.{edge_set, steps_set}
use Rattle.surf_sheetcheck.proofs.pairing.walk_sum.Goals as goal

pub loop-i-preserved : goal.loop-i-preserved
loop-i-preserved c =
    let mesh = c.args.case.now.mesh.now in
    let cert = c.args.case.now.cert.now in
    let ss = steps c.args.walk.now in
    let i = c.loop-i.i in
    let size = count_steps c.args.walk.now c.requires.closed.begins in
    let here : i < length ss = omega (arith, size, c.loop-i-test.true) in
    c.add_set.ensures.added ∙ ap (λ x. bit_xor x (edge_set mesh cert c.step_edge.result)) c.loop-i.invariant
    ∙ ap (λ e. bit_xor (steps_set mesh cert (take i ss)) (edge_set mesh cert e)) c.step_edge.ensures.edge
    ∙ sym (sets_more (λ s. edge_set mesh cert (edge_number mesh s)) ss i (0, 0) here)

pub returns : goal.returns
returns c =
    let mesh = c.args.case.now.mesh.now in
    let cert = c.args.case.now.cert.now in
    let ss = steps c.args.walk.now in
    let size = count_steps c.args.walk.now c.requires.closed.begins in
    let end : c.loop-i.i + 1 ≡ length c.args.walk.now = search rules in
    record { sum = c.loop-i.invariant ∙ ap (steps_set mesh cert) (take_whole ss c.loop-i.i (omega (arith, end, size))) }
