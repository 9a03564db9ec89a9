use Rattle.surf_basis.proofs.Common.{◌≤◌, subst, arith, get_or_default}
use Rattle.surf_basis.proofs.base_loops.greatest_of.Goals as goal

pub returns : goal.returns
returns c = record {
  greatest = λ k d l.
      subst (λ n. n ≤ c.loop-length.greatest) (get_or_default c.args.lengths.now k 0 d l)
      (c.loop-length.invariant k (omega (arith, l, c.loop-length-test.false)));
}
