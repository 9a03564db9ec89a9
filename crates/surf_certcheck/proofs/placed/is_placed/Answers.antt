use Rattle.surf_surfaces.proofs.Common.{nat_lt, length, arith, number}
use Rattle.surf_certcheck.proofs.Sorting.{greatest_tells, none_tells}
use Rattle.surf_certcheck.proofs.placed.is_placed.Goals as goal

pub returns-in-None : goal.returns-in-None
returns-in-None c = record {
  placed = λ small. none_tells c.args.limit c.args.weights.now (number c.args.words.now) c.in-None.ensures.greatest;
}

pub returns-then-place-weights : goal.returns-then-place-weights
returns-then-place-weights c = record {
  placed = λ small. greatest_tells c.args.limit c.args.weights.now (number c.args.words.now) c.in-Some.place
      c.is_up_to.result c.requires.sorted small c.in-Some.ensures.greatest (λ l. c.is_up_to.ensures.up_to);
}

pub returns-else-place-weights : goal.returns-else-place-weights
returns-else-place-weights c = record {
  placed = λ small. greatest_tells c.args.limit c.args.weights.now (number c.args.words.now) c.in-Some.place
      (nat_lt c.in-Some.place (length c.args.weights.now)) c.requires.sorted small c.in-Some.ensures.greatest
      (λ l. absurd (omega (arith, l, c.if-place-weights.false)));
}
