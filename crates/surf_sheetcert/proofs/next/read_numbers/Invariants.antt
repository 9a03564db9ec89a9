use Rattle.surf_cert.proofs.Common.{◌≡◌, length, tokens_of, numbers_of}
use Rattle.surf_cert.proofs.Numbers.{with_numbers}
use Rattle.surf_sheetcert.proofs.next.read_numbers.Given as goal

abbrev pub invariant-loop-token : goal.invariant-loop-token
invariant-loop-token l = with_numbers l.numbers.items (numbers_of l.tokens.tokens) ≡ numbers_of (tokens_of l.fn.line.bytes.now)

abbrev pub decreases-loop-token : goal.decreases-loop-token
decreases-loop-token l = length l.tokens.tokens
