use Rattle.surf_surfaces.proofs.Common.{◌≡◌, ◌<◌, ℕ, List, length, get_or, refl, sym, ◌∙◌, ap, subst, arith, slice_index, range_with_len, length-range_with_len, get_or-range_with_len, err_from_is_err_and}
use Rattle.surf_text.specs.Pages.{Puts}
use Rattle.surf_text.proofs.Writing.{loop_more, loop_stop, loop_done}
use Rattle.surf_off.proofs.FaceRows.{other_default}
use Rattle.surf_off.specs.Written.{copy_text, copies_text}
use Rattle.surf_off.proofs.write.write_copies.Goals as goal

pub returns-in_err-push_bytes : goal.returns-in_err-push_bytes
returns-in_err-push_bytes c =
    let origins = c.args.origins.now in
    let i = c.loop-i.i in
    let piece : ℕ → List ℕ = λ i. copy_text i (slice_index origins i) in
    let n = length origins in
    let at : get_or (range_with_len 0 n) i 0 ≡ i = get_or-range_with_len 0 n i 0 c.loop-i-test.true ∙ omega arith in
    let lt : i < length (range_with_len 0 n) = omega (arith, length-range_with_len 0 n, c.loop-i-test.true) in
    let v : c.index-origins-i.result ≡ get_or origins i 0 = c.index-origins-i.is ∙ other_default origins i c.index-origins-i.result 0 c.loop-i-test.true in
    let one : Puts c.loop-i.page c.push_bytes.new.self (piece (get_or (range_with_len 0 n) i 0)) c.push_bytes.result = subst (λ (t : List ℕ). Puts c.loop-i.page c.push_bytes.new.self t c.push_bytes.result) (c.bytes.ensures.bytes ∙ c.make_comment.ensures.comment ∙ ap (copy_text i) v ∙ ap piece (sym at)) c.push_bytes.ensures.puts in
    let p = err_from_is_err_and c.from_residual.result c.from_residual.ensures.1 in
    record { puts = loop_stop (copies_text origins) piece refl (λ x xs. refl) (range_with_len 0 n) i 0 lt c.args.page.now c.loop-i.page c.push_bytes.new.self (tt {0}) c.loop-i.invariant c.push_bytes.result c.in_err-push_bytes.field-0.0 c.from_residual.result c.in_err-push_bytes.was (rw (p.1, p.2) refl) one }

pub loop-i-preserved : goal.loop-i-preserved
loop-i-preserved c =
    let origins = c.args.origins.now in
    let i = c.loop-i.i in
    let piece : ℕ → List ℕ = λ i. copy_text i (slice_index origins i) in
    let n = length origins in
    let at : get_or (range_with_len 0 n) i 0 ≡ i = get_or-range_with_len 0 n i 0 c.loop-i-test.true ∙ omega arith in
    let lt : i < length (range_with_len 0 n) = omega (arith, length-range_with_len 0 n, c.loop-i-test.true) in
    let v : c.index-origins-i.result ≡ get_or origins i 0 = c.index-origins-i.is ∙ other_default origins i c.index-origins-i.result 0 c.loop-i-test.true in
    let one : Puts c.loop-i.page c.push_bytes.new.self (piece (get_or (range_with_len 0 n) i 0)) c.push_bytes.result = subst (λ (t : List ℕ). Puts c.loop-i.page c.push_bytes.new.self t c.push_bytes.result) (c.bytes.ensures.bytes ∙ c.make_comment.ensures.comment ∙ ap (copy_text i) v ∙ ap piece (sym at)) c.push_bytes.ensures.puts in
    loop_more (copies_text origins) piece refl (λ x xs. refl) (range_with_len 0 n) i 0 lt c.args.page.now c.loop-i.page c.push_bytes.new.self (tt {0}) c.loop-i.invariant c.push_bytes.result c.in_ok-push_bytes.field-0 c.in_ok-push_bytes.was one

pub returns : goal.returns
returns c =
    let origins = c.args.origins.now in
    let n = length origins in
    record { puts = loop_done (copies_text origins) (λ i. copy_text i (slice_index origins i)) refl (λ x xs. refl) (range_with_len 0 n) c.loop-i.i c.args.page.now c.loop-i.page (tt {0}) (omega (arith, length-range_with_len 0 n, c.loop-i-test.false)) c.loop-i.invariant }
