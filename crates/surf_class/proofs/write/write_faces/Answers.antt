use Rattle.surf_cert.proofs.Common.{◌<◌, ◌≤◌, ℕ, List, ◌∷◌, ◌++◌, length, get_or, refl, ◌∙◌, ap, subst, codes, decimal, append-nil, err_from_is_err_and, Puts, loop_more, loop_stop, loop_done, numbers_text}
use Rattle.surf_class.proofs.write.write_faces.Goals as goal

pub returns-in_err-push_pieces : goal.returns-in_err-push_pieces
returns-in_err-push_pieces c =
    let xs = c.args.faces.now in
    let i = c.loop-face.face-index in
    let lt : i < length xs = c.loop-face-test.true in
    let one : Puts c.loop-face.page c.push_pieces.new.self (codes " " ++ decimal (get_or xs i c.face-item.result)) c.push_pieces.result = subst (λ (x : ℕ). Puts c.loop-face.page c.push_pieces.new.self (codes " " ++ decimal x) c.push_pieces.result) c.face-item.is (subst (λ (t : List ℕ). Puts c.loop-face.page c.push_pieces.new.self (32 ∷ t) c.push_pieces.result) (append-nil (decimal c.index.result) ∙ ap decimal c.index.ensures) c.push_pieces.ensures.puts) in
    let p = err_from_is_err_and c.from_residual.result c.from_residual.ensures.1 in
    record { puts = loop_stop numbers_text (λ (n : ℕ). codes " " ++ decimal n) refl (λ x xs. refl) xs i c.face-item.result lt c.args.page.now c.loop-face.page c.push_pieces.new.self (tt {0}) c.loop-face.invariant c.push_pieces.result c.in_err-push_pieces.field-0.0 c.from_residual.result c.in_err-push_pieces.was (rw (p.1, p.2) refl) one }

pub loop-face-preserved : goal.loop-face-preserved
loop-face-preserved c =
    let xs = c.args.faces.now in
    let i = c.loop-face.face-index in
    let lt : i < length xs = c.loop-face-test.true in
    let one : Puts c.loop-face.page c.push_pieces.new.self (codes " " ++ decimal (get_or xs i c.face-item.result)) c.push_pieces.result = subst (λ (x : ℕ). Puts c.loop-face.page c.push_pieces.new.self (codes " " ++ decimal x) c.push_pieces.result) c.face-item.is (subst (λ (t : List ℕ). Puts c.loop-face.page c.push_pieces.new.self (32 ∷ t) c.push_pieces.result) (append-nil (decimal c.index.result) ∙ ap decimal c.index.ensures) c.push_pieces.ensures.puts) in
    loop_more numbers_text (λ (n : ℕ). codes " " ++ decimal n) refl (λ x xs. refl) xs i c.face-item.result lt c.args.page.now c.loop-face.page c.push_pieces.new.self (tt {0}) c.loop-face.invariant c.push_pieces.result c.in_ok-push_pieces.field-0 c.in_ok-push_pieces.was one

pub returns : goal.returns
returns c =
    let xs = c.args.faces.now in
    let le : length xs ≤ c.loop-face.face-index = c.loop-face-test.false in
    record { puts = loop_done numbers_text (λ (n : ℕ). codes " " ++ decimal n) refl (λ x xs. refl) xs c.loop-face.face-index c.args.page.now c.loop-face.page (tt {0}) le c.loop-face.invariant }
