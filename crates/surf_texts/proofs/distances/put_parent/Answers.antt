use Rattle.std.proofs.Common.{ℕ, length, length-append, ap, arith}
use Rattle.surf_surfaces.proofs.Common.{decimal, length-decimal-le}
use Rattle.surf_texts.proofs.distances.put_parent.Goals as goal

pub put_whole-requires : goal.put_whole-requires
put_whole-requires c =
    let n : ℕ = c.number.result in
    record { room = omega (arith, length-decimal-le 20 n (omega arith) (omega (arith, c.number.type_inv)) (omega (arith, c.number.type_inv)), c.requires.room) }

pub returns-in-Some-clause-short : goal.returns-in-Some-clause-short
returns-in-Some-clause-short c =
    let n : ℕ = c.number.result in
    omega (arith, ap length c.put_whole.ensures.before, length-append (decimal n) c.args.slip.now, length-decimal-le 20 n (omega arith) (omega (arith, c.number.type_inv)) (omega (arith, c.number.type_inv)))
