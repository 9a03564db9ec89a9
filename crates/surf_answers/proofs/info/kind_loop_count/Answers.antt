use Rattle.surf_answers.proofs.Common.{arith, counts_are_at_most_two_more}
use Rattle.surf_soup.proofs.HalfLaws.{edges_few}
use Rattle.surf_answers.proofs.info.kind_loop_count.Goals as goal

pub overflow_sub-result : goal.overflow_sub-result
overflow_sub-result c =
    let few = counts_are_at_most_two_more c.args.kind.now c.law_of_kind.ensures.surface in
    omega (arith, few, c.edges-edges.ensures.count, c.vertices.ensures.count, c.faces.ensures.count)

pub returns-clause-loops : goal.returns-clause-loops
returns-clause-loops c =
    let few = counts_are_at_most_two_more c.args.kind.now c.law_of_kind.ensures.surface in
    omega (arith, few, c.edges-edges.ensures.count, c.vertices.ensures.count, c.faces.ensures.count)

pub returns-clause-few : goal.returns-clause-few
returns-clause-few c = omega (
  arith,
  edges_few c.args.kind.now c.law_of_kind.ensures.surface,
  c.law_of_kind.ensures.few,
  c.edges-edges.ensures.count,
)
