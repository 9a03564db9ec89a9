use Rattle.std.proofs.Common.{arith}
use Rattle.surf_bits.proofs.Rows.{are_rows-none}
use Rattle.surf_bits.proofs.sieve.Sieve.clear.Goals as goal

pub invariant_of-self : goal.invariant_of-self
invariant_of-self c =
    let h = c.self.invariant in (
      rw (c.clear.ensures.items, c.clear-2.ensures.items, c.clear-3.ensures.items) (are_rows-none c.self.inside.width c.self.inside.stride h.0.width_most h.0.stride_is),
      omega (arith, h.1, c.clear.ensures.capacity),
      omega (arith, h.2, c.clear-2.ensures.capacity),
      omega (arith, h.3, c.clear-3.ensures.capacity),
    )
