use Rattle.std.proofs.Common.{◌≡◌, ◌<◌, ◌^◌, drop}
use Rattle.surf_text.proofs.Digits.{number_on}
use Rattle.surf_text.proofs.number.read_whole.Given as goal

abbrev pub invariant-loop-b : goal.invariant-loop-b
invariant-loop-b l = record { fits : l.number < 2 ^ 64; so_far : number_on l.number (drop l.b-index l.token) ≡ number_on 0 l.token }
