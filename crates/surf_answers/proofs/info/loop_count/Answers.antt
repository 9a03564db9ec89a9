use Rattle.surf_answers.proofs.Common.{arith, counts_are_at_most_two_more}
use Rattle.surf_answers.proofs.info.loop_count.Goals as goal

pub overflow_sub-result : goal.overflow_sub-result
overflow_sub-result c =
    let few = counts_are_at_most_two_more c.args.mesh.now c.edges-edges.ensures.surface in
    omega (arith, few, c.edges-edges.ensures.count, c.vertices.ensures.count, c.faces.ensures.count)

pub returns : goal.returns
returns c =
    let few = counts_are_at_most_two_more c.args.mesh.now c.edges-edges.ensures.surface in
    omega (arith, few, c.edges-edges.ensures.count, c.vertices.ensures.count, c.faces.ensures.count)
