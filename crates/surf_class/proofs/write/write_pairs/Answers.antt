use Rattle.surf_cert.proofs.Common.{◌<◌, ◌≤◌, ℕ, length, get_or, refl, subst, err_from_is_err_and, Puts, loop_more, loop_stop, loop_done}
use Rattle.surf_class.proofs.PairTexts.{ends_text, end_text, ends_cons}
use Rattle.surf_class.proofs.write.write_pairs.Goals as goal

pub returns-in_err-write_pair : goal.returns-in_err-write_pair
returns-in_err-write_pair c =
    let xs = c.args.pairs.now in
    let i = c.loop-pair.pair-index in
    let lt : i < length xs = c.loop-pair-test.true in
    let d = c.pair-item.result in
    let one : Puts c.loop-pair.page c.write_pair.new.page (end_text (get_or xs i d)) c.write_pair.result =
    subst (λ (x : ℕ × ℕ). Puts c.loop-pair.page c.write_pair.new.page (end_text x) c.write_pair.result) c.pair-item.is c.write_pair.ensures.puts in
    let p = err_from_is_err_and c.from_residual.result c.from_residual.ensures.1 in
    record { puts = loop_stop ends_text end_text refl ends_cons xs i d lt c.args.page.now c.loop-pair.page c.write_pair.new.page (tt {0}) c.loop-pair.invariant c.write_pair.result c.in_err-write_pair.field-0.0 c.from_residual.result c.in_err-write_pair.was (rw (p.1, p.2) refl) one }

pub loop-pair-preserved : goal.loop-pair-preserved
loop-pair-preserved c =
    let xs = c.args.pairs.now in
    let i = c.loop-pair.pair-index in
    let lt : i < length xs = c.loop-pair-test.true in
    let d = c.pair-item.result in
    let one : Puts c.loop-pair.page c.write_pair.new.page (end_text (get_or xs i d)) c.write_pair.result =
    subst (λ (x : ℕ × ℕ). Puts c.loop-pair.page c.write_pair.new.page (end_text x) c.write_pair.result) c.pair-item.is c.write_pair.ensures.puts in
    loop_more ends_text end_text refl ends_cons xs i d lt c.args.page.now c.loop-pair.page c.write_pair.new.page (tt {0}) c.loop-pair.invariant c.write_pair.result c.in_ok-write_pair.field-0 c.in_ok-write_pair.was one

pub returns : goal.returns
returns c =
    let xs = c.args.pairs.now in
    let le : length xs ≤ c.loop-pair.pair-index = c.loop-pair-test.false in
    record { puts = loop_done ends_text end_text refl ends_cons xs c.loop-pair.pair-index c.args.page.now c.loop-pair.page (tt {0}) le c.loop-pair.invariant }
