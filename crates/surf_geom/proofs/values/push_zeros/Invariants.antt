use Rattle.std.proofs.Common.{◌≡◌, ◌<◌, ◌*◌, ◌^◌}
use Rattle.surf_geom.proofs.values.push_zeros.Given as goal

abbrev pub invariant-loop : goal.invariant-loop
invariant-loop l = record { small : l.amount < 10 ^ 18; so_far : l.amount ≡ l.fn.amount * 10 ^ l.counter }
