use Rattle.std.proofs.Common.{◌≡◌, length, drop}
use Rattle.std.specs.Prelude.{nat_le}
use Rattle.surf_text.specs.Text.{tokens_of}
use Rattle.surf_text.proofs.Counting.{count_on}
use Rattle.surf_text.proofs.tokens.has_tokens.Given as goal

abbrev pub invariant-loop-b : goal.invariant-loop-b
invariant-loop-b l = nat_le l.missing (count_on l.inside (drop l.b-index l.line)) ≡ nat_le l.fn.least (length (tokens_of l.line))
