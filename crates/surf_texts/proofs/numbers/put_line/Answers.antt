use Rattle.std.proofs.Common.{◌≡◌, ◌++◌, ℕ, List, append-nil, codes, decimal, subst, Ok, Err}
use Rattle.std.proofs.lemmas.Result.{err_from_is_err_and}
use Rattle.surf_text.specs.Numbers.{numbers_text}
use Rattle.surf_text.specs.Pages.{grown}
use Rattle.surf_texts.specs.Fills.{Fills}
use Rattle.surf_texts.proofs.Filling.{stopped_first, fills_both, fills_from_puts}
use Rattle.surf_texts.proofs.numbers.put_line.Goals as goal

pub returns-in_err-push_pieces : goal.returns-in_err-push_pieces
returns-in_err-push_pieces c =
    let word = c.args.word.now in
    let n : ℕ = c.args.length in
    let walk = numbers_text c.args.walk.now in
    let old = c.args.page.now in
    let new = c.push_pieces.new.self in
    let fault = c.in_err-push_pieces.field-0.0 in
    let p = err_from_is_err_and c.from_residual.result c.from_residual.ensures.1 in
    rw (p.1, p.2) (record {
      fills = stopped_first old new ((word ++ decimal n) ++ walk) (codes "\n") fault
          (stopped_first old new (word ++ decimal n) walk fault
          (subst (λ (t : List ℕ). Fills {A = Unit {0}} old new (word ++ t) (Err fault)) (append-nil (decimal n)) c.in_err-push_pieces.ensures.puts));
    })

pub returns-in_err-put_walk : goal.returns-in_err-put_walk
returns-in_err-put_walk c =
    let word = c.args.word.now in
    let n : ℕ = c.args.length in
    let walk = numbers_text c.args.walk.now in
    let old = c.args.page.now in
    let mid = c.push_pieces.new.self in
    let new = c.put_walk.new.page in
    let fault = c.in_err-put_walk.field-0.0 in
    let p = err_from_is_err_and c.from_residual-in_err-put_walk.result c.from_residual-in_err-put_walk.ensures.1 in
    let named : mid ≡ grown old (word ++ decimal n) = subst (λ (t : List ℕ). mid ≡ grown old (word ++ t)) (append-nil (decimal n)) c.in_ok-push_pieces.ensures.puts.0 in
    rw (p.1, p.2) (record {
      fills = stopped_first old new ((word ++ decimal n) ++ walk) (codes "\n") fault
          (fills_both {T = Unit {0}} old mid new (word ++ decimal n) walk (Err fault) named c.in_err-put_walk.ensures.fills);
    })

pub returns : goal.returns
returns c =
    let word = c.args.word.now in
    let n : ℕ = c.args.length in
    let walk = numbers_text c.args.walk.now in
    let old = c.args.page.now in
    let mid = c.push_pieces.new.self in
    let far = c.put_walk.new.page in
    let new = c.push_bytes.new.self in
    let named : mid ≡ grown old (word ++ decimal n) = subst (λ (t : List ℕ). mid ≡ grown old (word ++ t)) (append-nil (decimal n)) c.in_ok-push_pieces.ensures.puts.0 in
    record {
      fills = fills_both old far new ((word ++ decimal n) ++ walk) (codes "\n") c.push_bytes.result
          (fills_both {T = Unit {0}} old mid far (word ++ decimal n) walk (Ok tt) named c.in_ok-put_walk.ensures.fills)
          (fills_from_puts far new (codes "\n") c.push_bytes.result c.push_bytes.ensures.puts);
    }
