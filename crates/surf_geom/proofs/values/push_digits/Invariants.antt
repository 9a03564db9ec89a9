use Rattle.std.proofs.Common.{◌≡◌, ◌<◌, ◌^◌, take}
use Rattle.surf_geom.specs.Digits.{pushed}
use Rattle.surf_geom.proofs.values.push_digits.Given as goal

abbrev pub invariant-loop-digit : goal.invariant-loop-digit
invariant-loop-digit l = record { small : l.amount < 10 ^ 18; so_far : l.amount ≡ pushed l.fn.amount (take l.digit-index l.digits) }
