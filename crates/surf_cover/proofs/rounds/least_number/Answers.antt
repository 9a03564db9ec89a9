use Rattle.std.proofs.Common.{eqb, ap, arith}
use Rattle.std.proofs.lemmas.Nat.Bits.{bit_at-trailing_zeros}
use Rattle.std.specs.Int.{w32}
use Rattle.surf_cover.proofs.rounds.least_number.Goals as goal

pub returns-clause-has : goal.returns-clause-has
returns-clause-has c =
    let low = bit_at-trailing_zeros w32 c.args.set (omega (arith, c.requires.some)) (omega arith) in
    ap (λ b. eqb b 1) low.1

pub returns-clause-least : goal.returns-clause-least
returns-clause-least c =
    let low = bit_at-trailing_zeros w32 c.args.set (omega (arith, c.requires.some)) (omega arith) in
    λ k l. ap (λ b. eqb b 1) (low.2 k l)
