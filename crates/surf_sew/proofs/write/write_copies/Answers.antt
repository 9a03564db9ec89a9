use Rattle.surf_sew.proofs.Common.{◌≡◌, ℕ, List, [], ◌++◌, get_or, refl, ◌∙◌, ap, subst, codes, slice_index_or, err_from_is_err_and, Puts, loop_more, loop_stop, loop_done, lines_text, lines_at}
use Rattle.surf_sew.proofs.write.write_copies.Goals as goal

pub returns-in_err-write_line : goal.returns-in_err-write_line
returns-in_err-write_line c =
    let lines = c.args.text.now.vertex_lines in
    let text : List ℕ → List ℕ = λ cs. lines_text (lines_at lines cs) in
    let piece : ℕ → List ℕ = λ k. slice_index_or lines k [] ++ codes "\n" in
    let i = c.loop-c.c-index in
    let p = err_from_is_err_and c.from_residual.result c.from_residual.ensures.1 in
    let copy : c.new.result ≡ get_or c.args.copies.now i 0 = c.new.ensures in
    let one : Puts c.loop-c.page c.write_line.new.page (piece (get_or c.args.copies.now i 0)) c.write_line.result =
    subst (λ (t : List ℕ). Puts c.loop-c.page c.write_line.new.page (t ++ codes "\n") c.write_line.result) (c.vertex_line.ensures.line ∙ ap (λ (k : ℕ). slice_index_or lines k []) copy) c.write_line.ensures.puts in
    record { puts = loop_stop text piece refl (λ x xs. refl) c.args.copies.now i 0 c.loop-c-test.true c.args.page.now c.loop-c.page c.write_line.new.page (tt {0}) c.loop-c.invariant c.write_line.result c.in_err-write_line.field-0.0 c.from_residual.result c.in_err-write_line.was (rw (p.1, p.2) refl) one }

pub loop-c-preserved : goal.loop-c-preserved
loop-c-preserved c =
    let lines = c.args.text.now.vertex_lines in
    let text : List ℕ → List ℕ = λ cs. lines_text (lines_at lines cs) in
    let piece : ℕ → List ℕ = λ k. slice_index_or lines k [] ++ codes "\n" in
    let i = c.loop-c.c-index in
    let copy : c.new.result ≡ get_or c.args.copies.now i 0 = c.new.ensures in
    let one : Puts c.loop-c.page c.write_line.new.page (piece (get_or c.args.copies.now i 0)) c.write_line.result =
    subst (λ (t : List ℕ). Puts c.loop-c.page c.write_line.new.page (t ++ codes "\n") c.write_line.result) (c.vertex_line.ensures.line ∙ ap (λ (k : ℕ). slice_index_or lines k []) copy) c.write_line.ensures.puts in
    loop_more text piece refl (λ x xs. refl) c.args.copies.now i 0 c.loop-c-test.true c.args.page.now c.loop-c.page c.write_line.new.page (tt {0}) c.loop-c.invariant c.write_line.result c.in_ok-write_line.field-0 c.in_ok-write_line.was one

pub returns : goal.returns
returns c =
    let lines = c.args.text.now.vertex_lines in
    record { puts = loop_done (λ cs. lines_text (lines_at lines cs)) (λ k. slice_index_or lines k [] ++ codes "\n") refl (λ x xs. refl) c.args.copies.now c.loop-c.c-index c.args.page.now c.loop-c.page (tt {0}) c.loop-c-test.false c.loop-c.invariant }
