use Rattle.surf_surfaces.proofs.Common.{◌≡◌, ◌<◌, ℕ, List, ◌++◌, length, get_or, refl, sym, ◌∙◌, ap, subst, codes, arith, range_with_len, length-range_with_len, get_or-range_with_len, err_from_is_err_and}
use Rattle.surf_text.specs.Pages.{Puts}
use Rattle.surf_text.proofs.Writing.{loop_more, loop_stop, loop_done}
use Rattle.surf_off.specs.Written.{lines_text, points, point_text}
use Rattle.surf_off.proofs.made.write_points.Goals as goal

pub returns-in_err-push_bytes : goal.returns-in_err-push_bytes
returns-in_err-push_bytes c =
    let n = c.args.vertices in
    let v = c.loop-v.v in
    let text : List ℕ → List ℕ = λ vs. lines_text (points vs) in
    let piece : ℕ → List ℕ = λ v. point_text v ++ codes "\n" in
    let at : get_or (range_with_len 0 n) v 0 ≡ v = get_or-range_with_len 0 n v 0 c.loop-v-test.true ∙ omega arith in
    let lt : v < length (range_with_len 0 n) = omega (arith, length-range_with_len 0 n, c.loop-v-test.true) in
    let one : Puts c.loop-v.page c.push_bytes.new.self (piece (get_or (range_with_len 0 n) v 0)) c.push_bytes.result = subst (λ (t : List ℕ). Puts c.loop-v.page c.push_bytes.new.self t c.push_bytes.result) (c.bytes.ensures.bytes ∙ c.make_point.ensures.line ∙ ap piece (sym at)) c.push_bytes.ensures.puts in
    let p = err_from_is_err_and c.from_residual.result c.from_residual.ensures.1 in
    record { puts = loop_stop text piece refl (λ x xs. refl) (range_with_len 0 n) v 0 lt c.args.page.now c.loop-v.page c.push_bytes.new.self (tt {0}) c.loop-v.invariant c.push_bytes.result c.in_err-push_bytes.field-0.0 c.from_residual.result c.in_err-push_bytes.was (rw (p.1, p.2) refl) one }

pub loop-v-preserved : goal.loop-v-preserved
loop-v-preserved c =
    let n = c.args.vertices in
    let v = c.loop-v.v in
    let text : List ℕ → List ℕ = λ vs. lines_text (points vs) in
    let piece : ℕ → List ℕ = λ v. point_text v ++ codes "\n" in
    let at : get_or (range_with_len 0 n) v 0 ≡ v = get_or-range_with_len 0 n v 0 c.loop-v-test.true ∙ omega arith in
    let lt : v < length (range_with_len 0 n) = omega (arith, length-range_with_len 0 n, c.loop-v-test.true) in
    let one : Puts c.loop-v.page c.push_bytes.new.self (piece (get_or (range_with_len 0 n) v 0)) c.push_bytes.result = subst (λ (t : List ℕ). Puts c.loop-v.page c.push_bytes.new.self t c.push_bytes.result) (c.bytes.ensures.bytes ∙ c.make_point.ensures.line ∙ ap piece (sym at)) c.push_bytes.ensures.puts in
    loop_more text piece refl (λ x xs. refl) (range_with_len 0 n) v 0 lt c.args.page.now c.loop-v.page c.push_bytes.new.self (tt {0}) c.loop-v.invariant c.push_bytes.result c.in_ok-push_bytes.field-0 c.in_ok-push_bytes.was one

pub returns : goal.returns
returns c =
    let n = c.args.vertices in
    record { puts = loop_done (λ vs. lines_text (points vs)) (λ v. point_text v ++ codes "\n") refl (λ x xs. refl) (range_with_len 0 n) c.loop-v.v c.args.page.now c.loop-v.page (tt {0}) (omega (arith, length-range_with_len 0 n, c.loop-v-test.false)) c.loop-v.invariant }
