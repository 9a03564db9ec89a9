use Rattle.std.proofs.Common.{◌≡◌, ◌+◌, length}
use Rattle.surf_class.specs.Numbers.{numbers_from}
use Rattle.surf_class.proofs.Reading.{with_front}
use Rattle.surf_class.proofs.numbers.read_numbers.Given as goal

-- the numbers before, and those to come
abbrev pub invariant-loop-token : goal.invariant-loop-token
invariant-loop-token l = record {
  numbers : with_front l.numbers.items (numbers_from (length l.numbers.items) l.tokens.tokens) ≡ numbers_from 0 l.fn.tokens.tokens;
  few : length l.numbers.items + length l.tokens.tokens ≡ length l.fn.tokens.tokens;
}

abbrev pub decreases-loop-token : goal.decreases-loop-token
decreases-loop-token l = length l.tokens.tokens
