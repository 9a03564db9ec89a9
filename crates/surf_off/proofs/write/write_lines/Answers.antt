use Rattle.surf_surfaces.proofs.Common.{ℕ, List, [], ◌++◌, get_or, refl, ◌∙◌, ap, subst, codes, slice_index_or, err_from_is_err_and}
use Rattle.surf_text.specs.Pages.{Puts}
use Rattle.surf_text.proofs.Writing.{loop_more, loop_stop, loop_done}
use Rattle.surf_off.specs.Written.{lines_text, lines_at}
use Rattle.surf_off.proofs.write.write_lines.Goals as goal

pub returns-in_err-write_line : goal.returns-in_err-write_line
returns-in_err-write_line c =
    let lines = c.args.text.now.vertex_lines in
    let text : List ℕ → List ℕ = λ vs. lines_text (lines_at lines vs) in
    let piece : ℕ → List ℕ = λ v. slice_index_or lines v [] ++ codes "\n" in
    let p = err_from_is_err_and c.from_residual.result c.from_residual.ensures.1 in
    let one : Puts c.loop-v.page c.write_line.new.page (piece (get_or c.args.origins.now c.loop-v.v-index c.v-item.result)) c.write_line.result =
    subst (λ (t : List ℕ). Puts c.loop-v.page c.write_line.new.page (t ++ codes "\n") c.write_line.result) (c.vertex_line.ensures.line ∙ ap (λ (v : ℕ). slice_index_or lines v []) c.v-item.is) c.write_line.ensures.puts in
    record { puts = loop_stop text piece refl (λ x xs. refl) c.args.origins.now c.loop-v.v-index c.v-item.result c.loop-v-test.true c.args.page.now c.loop-v.page c.write_line.new.page (tt {0}) c.loop-v.invariant c.write_line.result c.in_err-write_line.field-0.0 c.from_residual.result c.in_err-write_line.was (rw (p.1, p.2) refl) one }

pub loop-v-preserved : goal.loop-v-preserved
loop-v-preserved c =
    let lines = c.args.text.now.vertex_lines in
    let text : List ℕ → List ℕ = λ vs. lines_text (lines_at lines vs) in
    let piece : ℕ → List ℕ = λ v. slice_index_or lines v [] ++ codes "\n" in
    let one : Puts c.loop-v.page c.write_line.new.page (piece (get_or c.args.origins.now c.loop-v.v-index c.v-item.result)) c.write_line.result =
    subst (λ (t : List ℕ). Puts c.loop-v.page c.write_line.new.page (t ++ codes "\n") c.write_line.result) (c.vertex_line.ensures.line ∙ ap (λ (v : ℕ). slice_index_or lines v []) c.v-item.is) c.write_line.ensures.puts in
    loop_more text piece refl (λ x xs. refl) c.args.origins.now c.loop-v.v-index c.v-item.result c.loop-v-test.true c.args.page.now c.loop-v.page c.write_line.new.page (tt {0}) c.loop-v.invariant c.write_line.result c.in_ok-write_line.field-0 c.in_ok-write_line.was one

pub returns : goal.returns
returns c =
    let lines = c.args.text.now.vertex_lines in
    record { puts = loop_done (λ vs. lines_text (lines_at lines vs)) (λ v. slice_index_or lines v [] ++ codes "\n") refl (λ x xs. refl) c.args.origins.now c.loop-v.v-index c.args.page.now c.loop-v.page (tt {0}) c.loop-v-test.false c.loop-v.invariant }
