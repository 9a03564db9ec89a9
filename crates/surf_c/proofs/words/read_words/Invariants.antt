use Rattle.std.proofs.Common.{◌≡◌, ◌++◌, length}
use Rattle.surf_words.specs.Words.{texts}
use Rattle.surf_text.specs.Text.{words_of}
use Rattle.surf_c.proofs.words.read_words.Given as goal

-- the words before, and those to come
abbrev pub invariant-loop-token : goal.invariant-loop-token
invariant-loop-token l = record {
  words : texts l.words.items ++ l.tokens.tokens ≡ words_of l.text;
}

abbrev pub decreases-loop-token : goal.decreases-loop-token
decreases-loop-token l = length l.tokens.tokens
