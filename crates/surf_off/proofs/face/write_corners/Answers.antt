use Rattle.surf_surfaces.proofs.Common.{ℕ, List, ◌++◌, map, get_or, refl, ◌∙◌, ap, subst, codes, decimal, append-nil, err_from_is_err_and}
use Rattle.surf_text.specs.Pages.{Puts}
use Rattle.surf_text.proofs.Writing.{loop_more, loop_stop, loop_done}
use Rattle.surf_text.specs.Numbers.{numbers_text}
use Rattle.surf_off.proofs.face.write_corners.Goals as goal

-- what is put for a corner, by the number of each corner, and for several of them
piece : {X : Type 0} → (X → ℕ) → X → List ℕ
piece number x = codes " " ++ decimal (number x)

text : {X : Type 0} → (X → ℕ) → List X → List ℕ
text number xs = numbers_text (map number xs)

pub returns-in_err-push_pieces : goal.returns-in_err-push_pieces
unfolding piece text
returns-in_err-push_pieces g c =
    let number = g.N.Numbered.number in
    let p = err_from_is_err_and c.from_residual.result c.from_residual.ensures.1 in
    let one : Puts c.loop-c.page c.push_pieces.new.self (piece number (get_or c.args.corners.now c.loop-c.c-index c.c-item.result)) c.push_pieces.result =
    subst (λ (t : List ℕ). Puts c.loop-c.page c.push_pieces.new.self (codes " " ++ t) c.push_pieces.result) (append-nil (decimal c.number.result) ∙ ap decimal (c.number.ensures ∙ ap number c.c-item.is)) c.push_pieces.ensures.puts in
    record { puts = loop_stop (text number) (piece number) refl (λ x xs. refl) c.args.corners.now c.loop-c.c-index c.c-item.result c.loop-c-test.true c.args.page.now c.loop-c.page c.push_pieces.new.self (tt {0}) c.loop-c.invariant c.push_pieces.result c.in_err-push_pieces.field-0.0 c.from_residual.result c.in_err-push_pieces.was (rw (p.1, p.2) refl) one }

pub loop-c-preserved : goal.loop-c-preserved
unfolding piece text
loop-c-preserved g c =
    let number = g.N.Numbered.number in
    let one : Puts c.loop-c.page c.push_pieces.new.self (piece number (get_or c.args.corners.now c.loop-c.c-index c.c-item.result)) c.push_pieces.result =
    subst (λ (t : List ℕ). Puts c.loop-c.page c.push_pieces.new.self (codes " " ++ t) c.push_pieces.result) (append-nil (decimal c.number.result) ∙ ap decimal (c.number.ensures ∙ ap number c.c-item.is)) c.push_pieces.ensures.puts in
    loop_more (text number) (piece number) refl (λ x xs. refl) c.args.corners.now c.loop-c.c-index c.c-item.result c.loop-c-test.true c.args.page.now c.loop-c.page c.push_pieces.new.self (tt {0}) c.loop-c.invariant c.push_pieces.result c.in_ok-push_pieces.field-0 c.in_ok-push_pieces.was one

pub returns : goal.returns
unfolding piece text
returns g c =
    let number = g.N.Numbered.number in
    record { puts = loop_done (text number) (piece number) refl (λ x xs. refl) c.args.corners.now c.loop-c.c-index c.args.page.now c.loop-c.page (tt {0}) c.loop-c-test.false c.loop-c.invariant }
