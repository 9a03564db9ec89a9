use Rattle.surf_surfaces.proofs.Common.{rules, ◌≡◌, ◌≤◌, ◌+◌, ◌^◌, ◌<◌, length, get_or, map, sum, take, ap, sym, ◌∙◌, arith, steps, edge_length, edge_number}
use Rattle.surf_treecheck.proofs.Steps.{sum_more, count_steps, take_whole}
use Rattle.surf_certcheck.proofs.cycles.length_of.Goals as goal

pub loop-i-preserved : goal.loop-i-preserved
loop-i-preserved c =
    let mesh = c.args.mesh.now in
    let lengths = c.args.lengths.now in
    let ss = steps c.args.list.now in
    let i = c.loop-i.i in
    let size = count_steps c.args.list.now c.requires.closed.begins in
    let here : i < length ss = omega (arith, size, c.loop-i-test.true) in
    let is : c.from-total.result ≡ edge_length lengths (edge_number mesh (get_or ss i (0, 0))) =
    c.from-total.ensures ∙ c.of.ensures.value ∙ ap (edge_length lengths) c.step_edge.ensures.edge in
    let small : c.from-total.result ≤ 2 ^ 32 = search rules in
    record {
      total = ap (λ n. n + c.from-total.result) c.loop-i.invariant.total
          ∙ ap (λ n. sum (map (λ s. edge_length lengths (edge_number mesh s)) (take i ss)) + n) is
          ∙ sym (sum_more (λ s. edge_length lengths (edge_number mesh s)) ss i (0, 0) here);
      bound = omega (arith, small, c.loop-i.invariant.bound);
    }

pub returns-clause-length : goal.returns-clause-length
returns-clause-length c =
    let mesh = c.args.mesh.now in
    let lengths = c.args.lengths.now in
    let ss = steps c.args.list.now in
    let size = count_steps c.args.list.now c.requires.closed.begins in
    let end : c.loop-i.i + 1 ≡ length c.args.list.now = search rules in
    c.loop-i.invariant.total
    ∙ ap (λ xs. sum (map (λ s. edge_length lengths (edge_number mesh s)) xs))
    (take_whole ss c.loop-i.i (omega (arith, end, size)))
