use Rattle.std.proofs.Common.{refl}
use Rattle.surf_text.proofs.Words.{words_trimmed, trimmed_begins}
use Rattle.surf_text.proofs.tokens.Tokens.between_blanks.Goals as goal

pub invariant_of-result : goal.invariant_of-result
invariant_of-result c = rw c.trim.ensures.bytes (trimmed_begins c.args.line.now)

pub returns : goal.returns
returns c = record { tokens = rw (c.trim.ensures.bytes, words_trimmed c.args.line.now) refl }
