use Rattle.std.proofs.Common.{refl}
use Rattle.surf_text.specs.Text.{uncommented}
use Rattle.surf_text.proofs.Words.{words_trimmed, trimmed_begins}
use Rattle.surf_text.proofs.tokens.Tokens.over.Goals as goal

pub invariant_of-result : goal.invariant_of-result
invariant_of-result c = rw c.trim.ensures.bytes (trimmed_begins c.before_comment.result.now)

pub returns : goal.returns
returns c = record { tokens = rw (c.trim.ensures.bytes, c.before_comment.ensures.bytes, words_trimmed (uncommented c.args.line.now)) refl }
