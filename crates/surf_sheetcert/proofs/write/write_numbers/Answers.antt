use Rattle.surf_cert.proofs.Common.{◌<◌, ◌≤◌, ℕ, List, ◌∷◌, ◌++◌, length, get_or, refl, subst, codes, decimal, append-nil, err_from_is_err_and, Puts, loop_more, loop_stop, loop_done, numbers_text}
use Rattle.surf_sheetcert.proofs.write.write_numbers.Goals as goal

pub returns-in_err-push_pieces : goal.returns-in_err-push_pieces
returns-in_err-push_pieces c =
    let xs = c.args.numbers.now in
    let i = c.loop-number.number-index in
    let lt : i < length xs = c.loop-number-test.true in
    let one : Puts c.loop-number.page c.push_pieces.new.self (codes " " ++ decimal (get_or xs i 0)) c.push_pieces.result = subst (λ (t : List ℕ). Puts c.loop-number.page c.push_pieces.new.self (32 ∷ t) c.push_pieces.result) (append-nil (decimal (get_or xs i 0))) c.push_pieces.ensures.puts in
    let p = err_from_is_err_and c.from_residual.result c.from_residual.ensures.1 in
    record { puts = loop_stop numbers_text (λ (n : ℕ). codes " " ++ decimal n) refl (λ x xs. refl) xs i 0 lt c.args.page.now c.loop-number.page c.push_pieces.new.self (tt {0}) c.loop-number.invariant c.push_pieces.result c.in_err-push_pieces.field-0.0 c.from_residual.result c.in_err-push_pieces.was (rw (p.1, p.2) refl) one }

pub loop-number-preserved : goal.loop-number-preserved
loop-number-preserved c =
    let xs = c.args.numbers.now in
    let i = c.loop-number.number-index in
    let lt : i < length xs = c.loop-number-test.true in
    let one : Puts c.loop-number.page c.push_pieces.new.self (codes " " ++ decimal (get_or xs i 0)) c.push_pieces.result = subst (λ (t : List ℕ). Puts c.loop-number.page c.push_pieces.new.self (32 ∷ t) c.push_pieces.result) (append-nil (decimal (get_or xs i 0))) c.push_pieces.ensures.puts in
    loop_more numbers_text (λ (n : ℕ). codes " " ++ decimal n) refl (λ x xs. refl) xs i 0 lt c.args.page.now c.loop-number.page c.push_pieces.new.self (tt {0}) c.loop-number.invariant c.push_pieces.result c.in_ok-push_pieces.field-0 c.in_ok-push_pieces.was one

pub returns : goal.returns
returns c =
    let xs = c.args.numbers.now in
    let le : length xs ≤ c.loop-number.number-index = c.loop-number-test.false in
    record { puts = loop_done numbers_text (λ (n : ℕ). codes " " ++ decimal n) refl (λ x xs. refl) xs c.loop-number.number-index c.args.page.now c.loop-number.page (tt {0}) le c.loop-number.invariant }
