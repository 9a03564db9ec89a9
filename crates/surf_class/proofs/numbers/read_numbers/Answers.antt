use Rattle.surf_cert.proofs.Common.{◌≡◌, ◌+◌, ◌∷◌, [], ◌++◌, ◌∙◌, sym, ap, ℕ, List, Err, length, arith, subst, length-append, common_steps}
use Rattle.surf_class.proofs.Common.{numbers_from, Bad}
use Rattle.surf_class.proofs.Reading.{with_front, number_more, number_bad, numbers_done}
use Rattle.surf_class.proofs.numbers.read_numbers.Goals as goal

pub returns-in_default-read_number-clause-numbers : goal.returns-in_default-read_number-clause-numbers
returns-in_default-read_number-clause-numbers c = λ other.
    let long : c.len.result ≡ length c.loop-token.numbers.items = grind (arith, common_steps) in
    number_bad c.loop-token.numbers.items c.loop-token.tokens.tokens (numbers_from 0 c.args.tokens.tokens) c.loop-token.invariant.numbers
    c.in-Some.token.now c.next_token.new.self.tokens c.in-Some.ensures.next (sym c.read_number.ensures.number ∙ c.in_default-read_number.is)
    ∙ ap (λ (n : ℕ). Err (Bad n)) (sym long)

pub loop-token-preserved : goal.loop-token-preserved
loop-token-preserved c =
    let front = c.loop-token.numbers.items in
    let n = c.in-Some-read_number.number in
    let rest = c.next_token.new.self.tokens in
    let pushed : c.push.new.self.items ≡ front ++ n ∷ [] = c.in_ok-push.ensures.items in
    let long : length (front ++ n ∷ []) ≡ length front + 1 = length-append front (n ∷ []) in
    let taken = ap length c.in-Some.ensures.next in
    record {
      numbers = subst (λ (xs : List ℕ). with_front xs (numbers_from (length xs) rest) ≡ numbers_from 0 c.args.tokens.tokens) (sym pushed)
          (number_more front c.loop-token.tokens.tokens (numbers_from 0 c.args.tokens.tokens) c.loop-token.invariant.numbers
          c.in-Some.token.now rest n c.in-Some.ensures.next (sym c.read_number.ensures.number ∙ c.in-Some-read_number.is));
      few = subst (λ (xs : List ℕ). length xs + length rest ≡ length c.args.tokens.tokens) (sym pushed)
          (omega (arith, long, taken, c.loop-token.invariant.few));
    }

pub returns-clause-numbers : goal.returns-clause-numbers
returns-clause-numbers c =
    numbers_done c.loop-token.numbers.items c.loop-token.tokens.tokens (numbers_from 0 c.args.tokens.tokens) c.loop-token.invariant.numbers
    c.in_default.ensures.next.0
