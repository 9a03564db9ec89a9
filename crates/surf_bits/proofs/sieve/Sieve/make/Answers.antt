use Rattle.std.proofs.Common.{arith}
use Rattle.surf_bits.proofs.Rows.{are_rows-none}
use Rattle.surf_bits.proofs.sieve.Sieve.make.Goals as goal

pub invariant_of-result : goal.invariant_of-result
invariant_of-result c = (
  rw (c.in_ok-with_capacity.ensures.items, c.in_ok-with_capacity-2.ensures.items, c.in_ok-with_capacity-3.ensures.items) (are_rows-none c.args.width c.div_ceil-stride.result c.requires (omega (arith, c.div_ceil-stride.ensures))),
  omega (arith, c.in_ok-with_capacity.ensures.capacity),
  omega (arith, c.in_ok-with_capacity-2.ensures.capacity),
  omega (arith, c.in_ok-with_capacity-3.ensures.capacity),
)
