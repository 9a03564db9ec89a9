use Rattle.std.proofs.Common.{arith}
use Rattle.surf_bits.proofs.Front.{number_front}
use Rattle.surf_bits.proofs.words.add_words.Goals as goal

pub returns : goal.returns
returns c =
    let us = c.args.words.now in
    let vs = c.args.other.now in
    let ws = c.loop-i.words in
    let inv = c.loop-i.invariant in
    number_front us vs ws (omega arith) (omega arith) inv.fits (λ k. omega (arith, c.type_inv.other k)) (λ k l. inv.added k (omega arith)) (λ k l. inv.same k (omega arith))
