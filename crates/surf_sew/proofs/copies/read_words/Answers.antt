use Rattle.surf_sew.proofs.Common.{ℕ, Option, Some, sym, ◌∙◌, ap, whole, TokenWalk, origin_at}
use Rattle.surf_sew.proofs.CopyLines.{five_words}
use Rattle.surf_sew.proofs.copies.read_words.Goals as goal

pub returns : goal.returns
returns c =
    let words = sym (ap (λ (w : TokenWalk). w.tokens) c.between_blanks-words.ensures.tokens) ∙ c.in_ok-next_token.ensures.next in
    let named = sym c.is_word.ensures.word ∙ c.if-not-is_word.false in
    let last = sym c.is_empty.ensures.empty ∙ c.if-not-is_empty.false in
    let whole_line = five_words c.args.place _ _ _ _ _ _ _ _ _ _ _ words c.in_ok-next_token-2.ensures.next c.in_ok-copy.ensures.next c.in_ok-from.ensures.next c.in_ok-vertex.ensures.next last named in
    record {
      origin = c.origin_at.ensures.origin
          ∙ ap (λ (i : Option ℕ). origin_at c.args.place i (Some c.in_ok-read_whole-2.field-0)) c.in_ok-read_whole.ensures.number
          ∙ ap (λ (v : Option ℕ). origin_at c.args.place (whole c.in_ok-copy.copy.now) v) c.in_ok-read_whole-2.ensures.number
          ∙ sym whole_line;
    }
