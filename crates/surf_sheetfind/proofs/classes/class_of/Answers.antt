use Rattle.surf_surfaces.proofs.Common.{rules, ◌≡◌, ◌+◌, ◌<◌, length, map, take, slice_index, bit_xor, ap, sym, ◌∙◌, arith, numbers, sum_of, steps, edge_number}
use Rattle.surf_treecheck.proofs.Steps.{sets_more, count_steps, take_whole}
use Rattle.surf_sheetfind.proofs.classes.class_of.Goals as goal

pub loop-i-preserved : goal.loop-i-preserved
loop-i-preserved c =
    let mesh = c.args.mesh.now in
    let table = c.args.signatures.now.signatures in
    let ss = steps c.args.walk.now in
    let i = c.loop-i.i in
    let size = count_steps c.args.walk.now c.requires.closed.begins in
    let here : i < length ss = omega (arith, size, c.loop-i-test.true) in
    c.add.ensures ∙ ap (λ x. bit_xor x c.signature.result) c.loop-i.invariant
    ∙ ap (bit_xor (sum_of numbers (map (λ s. slice_index table (edge_number mesh s)) (take i ss))))
    (c.signature.ensures.signature ∙ ap (slice_index table) c.step_edge.ensures.edge)
    ∙ sym (sets_more (λ s. slice_index table (edge_number mesh s)) ss i (0, 0) here)

pub returns : goal.returns
returns c =
    let mesh = c.args.mesh.now in
    let table = c.args.signatures.now.signatures in
    let ss = steps c.args.walk.now in
    let size = count_steps c.args.walk.now c.requires.closed.begins in
    let end : c.loop-i.i + 1 ≡ length c.args.walk.now = search rules in
    record {
      class = c.loop-i.invariant
          ∙ ap (λ xs. sum_of numbers (map (λ s. slice_index table (edge_number mesh s)) xs))
          (take_whole ss c.loop-i.i (omega (arith, end, size)));
    }
