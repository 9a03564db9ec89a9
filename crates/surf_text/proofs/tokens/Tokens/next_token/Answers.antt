use Rattle.std.proofs.Common.{◌≡◌, List, ℕ, ◌∷◌, sym, ◌∙◌, ap}
use Rattle.surf_text.specs.Text.{words_of, behind_word, trimmed_front}
use Rattle.surf_text.specs.Walks.{TokenWalk}
use Rattle.surf_text.proofs.Words.{front_twice, next_words}
use Rattle.surf_text.proofs.tokens.Tokens.next_token.Goals as goal

pub invariant_of-self : goal.invariant_of-self
invariant_of-self c = rw c.trim_front-self-inside.ensures.bytes (front_twice c.split_blank.result.1.now)

pub returns-clause-next : goal.returns-clause-next
returns-clause-next c =
    let rest = c.self.inside.rest.now in
    let behind : behind_word rest ≡ c.trim_front-self-inside.result.now = ap trimmed_front (sym c.split_blank.ensures.behind) ∙ sym c.trim_front-self-inside.ensures.bytes in
    sym (ap (λ (w : TokenWalk). w.tokens) c.self.view_is)
    ∙ next_words rest c.self.invariant (sym c.is_empty.ensures ∙ c.if-is_empty.false)
    ∙ ap (λ (w : List ℕ). w ∷ words_of (behind_word rest)) (sym c.split_blank.ensures.word)
    ∙ ap (λ (b : List ℕ). c.split_blank.result.0.now ∷ words_of b) behind
