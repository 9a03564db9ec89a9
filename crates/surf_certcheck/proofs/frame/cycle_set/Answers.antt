use Rattle.surf_surfaces.proofs.Common.{rules, ◌≡◌, ◌+◌, ◌<◌, ℕ, length, get_or, map, take, bit_xor, ap, sym, ◌∙◌, arith, numbers, sum_of, steps, edge_signature, edge_number}
use Rattle.surf_treecheck.proofs.Steps.{sets_more, count_steps, take_whole}
use Rattle.surf_certcheck.proofs.frame.cycle_set.Goals as goal

pub loop-i-preserved : goal.loop-i-preserved
loop-i-preserved c = λ d to taken.
    let mesh = c.args.mesh.now in
    let ss = steps c.args.list.now in
    let i = c.loop-i.i in
    let size = count_steps c.args.list.now c.requires.closed.begins in
    let here : i < length ss = omega (arith, size, c.loop-i-test.true) in
    let f : ℕ × ℕ → ℕ = λ s. edge_signature mesh d (edge_number mesh s) in
    let so_far = sum_of numbers (map (λ s. edge_signature mesh d (edge_number mesh s)) (take i ss)) in
    let next = edge_signature mesh d (edge_number mesh (get_or ss i (0, 0))) in
    let is : c.signature.result ≡ to next =
    c.signature.ensures.set ∙ taken.each c.step_edge.result c.step_edge.ensures.inside
    ∙ ap (λ e. to (edge_signature mesh d e)) c.step_edge.ensures.edge in
    c.add.ensures ∙ ap (λ x. bit_xor x c.signature.result) (c.loop-i.invariant d to taken)
    ∙ ap (bit_xor (to so_far)) is ∙ sym (taken.linear.add so_far next)
    ∙ ap to (sym (sets_more (λ s. edge_signature mesh d (edge_number mesh s)) ss i (0, 0) here))

pub returns : goal.returns
returns c =
    let mesh = c.args.mesh.now in
    let ss = steps c.args.list.now in
    let size = count_steps c.args.list.now c.requires.closed.begins in
    let end : c.loop-i.i + 1 ≡ length c.args.list.now = search rules in
    record {
      sum = λ d to taken.
          c.loop-i.invariant d to taken
          ∙ ap (λ xs. to (sum_of numbers (map (λ s. edge_signature mesh d (edge_number mesh s)) xs)))
          (take_whole ss c.loop-i.i (omega (arith, end, size)));
    }
