use Rattle.surf_cert.proofs.Common.{◌<◌, ◌≤◌, ℕ, length, get_or, refl, subst, flat_map, err_from_is_err_and, Puts, loop_more, loop_stop, loop_done, pair_line}
use Rattle.surf_cert.proofs.write.write_pairs.Goals as goal

pub returns-in_err-push_pieces : goal.returns-in_err-push_pieces
returns-in_err-push_pieces c =
    let xs = c.args.pairs.now in
    let i = c.loop-u.u-index in
    let lt : i < length xs = c.loop-u-test.true in
    let one : Puts c.loop-u.page c.push_pieces.new.self (pair_line (get_or xs i c.loop-u-item.result)) c.push_pieces.result = subst (λ (x : ℕ × ℕ). Puts c.loop-u.page c.push_pieces.new.self (pair_line x) c.push_pieces.result) c.loop-u-item.is (rw (← c.index.ensures, ← c.index-in-loop-u.ensures) c.push_pieces.ensures.puts) in
    let p = err_from_is_err_and c.from_residual.result c.from_residual.ensures.1 in
    record { puts = loop_stop (flat_map pair_line) pair_line refl (λ x xs. refl) xs i c.loop-u-item.result lt c.args.page.now c.loop-u.page c.push_pieces.new.self (tt {0}) c.loop-u.invariant c.push_pieces.result c.in_err-push_pieces.field-0.0 c.from_residual.result c.in_err-push_pieces.was (rw (p.1, p.2) refl) one }

pub loop-u-preserved : goal.loop-u-preserved
loop-u-preserved c =
    let xs = c.args.pairs.now in
    let i = c.loop-u.u-index in
    let lt : i < length xs = c.loop-u-test.true in
    let one : Puts c.loop-u.page c.push_pieces.new.self (pair_line (get_or xs i c.loop-u-item.result)) c.push_pieces.result = subst (λ (x : ℕ × ℕ). Puts c.loop-u.page c.push_pieces.new.self (pair_line x) c.push_pieces.result) c.loop-u-item.is (rw (← c.index.ensures, ← c.index-in-loop-u.ensures) c.push_pieces.ensures.puts) in
    loop_more (flat_map pair_line) pair_line refl (λ x xs. refl) xs i c.loop-u-item.result lt c.args.page.now c.loop-u.page c.push_pieces.new.self (tt {0}) c.loop-u.invariant c.push_pieces.result c.in_ok-push_pieces.field-0 c.in_ok-push_pieces.was one

pub returns : goal.returns
returns c =
    let xs = c.args.pairs.now in
    let le : length xs ≤ c.loop-u.u-index = c.loop-u-test.false in
    record { puts = loop_done (flat_map pair_line) pair_line refl (λ x xs. refl) xs c.loop-u.u-index c.args.page.now c.loop-u.page (tt {0}) le c.loop-u.invariant }
