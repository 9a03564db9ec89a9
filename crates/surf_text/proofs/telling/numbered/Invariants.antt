use Rattle.std.proofs.Common.{◌≡◌, ◌++◌, take, string_bytes}
use Rattle.surf_text.specs.Numbers.{numbers_text}
use Rattle.surf_text.proofs.telling.numbered.Given as goal

abbrev pub invariant-loop-n : goal.invariant-loop-n
invariant-loop-n l = string_bytes l.line ≡ l.words ++ numbers_text (take l.n-index l.numbers)
