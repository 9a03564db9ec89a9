use Rattle.std.proofs.Common.{◌≡◌, ◌+◌, length}
use Rattle.surf_text.proofs.tokens.Tokens.has.Given as goal

abbrev pub invariant-loop : goal.invariant-loop
invariant-loop l = l.counter + length l.tokens.tokens ≡ length l.fn.self.tokens
