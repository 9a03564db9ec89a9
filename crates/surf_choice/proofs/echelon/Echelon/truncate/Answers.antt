use Rattle.surf_choice.proofs.Common.{arith}
use Rattle.surf_choice.proofs.Admitted.{echelon_front}
use Rattle.surf_choice.proofs.echelon.Echelon.truncate.Goals as goal

pub invariant_of-self : goal.invariant_of-self
invariant_of-self c =
    let t = c.self.inside in (
      rw (c.truncate.ensures.items, c.truncate-2.ensures.items) (echelon_front c.args.count t.rows.items t.tops.items t.places.items c.self.invariant.0),
      omega (arith, c.truncate.ensures.capacity, c.self.invariant.1),
      omega (arith, c.truncate-2.ensures.capacity, c.self.invariant.2),
    )
