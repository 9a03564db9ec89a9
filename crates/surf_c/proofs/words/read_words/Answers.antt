use Rattle.surf_words.specs.Words.{texts}
use Rattle.surf_text.specs.Text.{words_of}
use Rattle.surf_c.proofs.WordLaws.{bad_word}
use Rattle.surf_c.proofs.words.read_words.Goals as goal

pub returns-in-Err-clause-no_text : goal.returns-in-Err-clause-no_text
returns-in-Err-clause-no_text c = λ no_text.
    bad_word (texts c.loop-token.words.items) c.loop-token.tokens.tokens (words_of c.args.text.now) c.in-Some.token.now c.next_token.new.self.tokens
    c.loop-token.invariant.words c.in-Some.ensures.next (c.in-Err.ensures.no_text no_text)
