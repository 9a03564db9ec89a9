use Rattle.surf_sew.proofs.Common.{◌≤◌, ◌+◌, ℕ, List, length, drop, sym, ◌∙◌, ap, arith, slice_split, position_or_len, take_rest, is_line_end, is_comment_sign, found_is, not_found, word_lines_from, copies_among}
use Rattle.surf_sew.proofs.Skips.{none_left, copies_behind, lines_behind}
use Rattle.surf_sew.proofs.copies.skip_lines.Goals as goal

pub returns-in_err-sign-clause-copies : goal.returns-in_err-sign-clause-copies
returns-in_err-sign-clause-copies c =
    rw c.from_residual.ensures (λ n. none_left c.args.bytes.now n (not_found is_comment_sign c.args.bytes.now (sym c.in_err-sign.ensures.place)))

pub returns-clause-copies : goal.returns-clause-copies
returns-clause-copies c =
    let bytes = c.args.bytes.now in
    let s : ℕ = c.line_start-start.result in
    let f = found_is is_comment_sign bytes c.in_ok-sign.sign (sym c.in_ok-sign.ensures.place) in
    let before : s ≤ position_or_len is_comment_sign bytes = omega (arith, f.1, c.line_start-start.ensures.before) in
    λ n. copies_behind bytes s before (omega (arith, f.0, before)) c.line_start-start.ensures.behind n
    ∙ ap (λ (i : ℕ). copies_among (word_lines_from (n + i) (slice_split is_line_end (drop s bytes)))) (sym c.count_ends.ensures.count)
    ∙ ap (λ (t : List ℕ). copies_among (word_lines_from (n + c.count_ends.result) (slice_split is_line_end t))) (sym (take_rest bytes s))

pub returns-clause-lines : goal.returns-clause-lines
returns-clause-lines c =
    let bytes = c.args.bytes.now in
    let s : ℕ = c.line_start-start.result in
    let f = found_is is_comment_sign bytes c.in_ok-sign.sign (sym c.in_ok-sign.ensures.place) in
    let before : s ≤ position_or_len is_comment_sign bytes = omega (arith, f.1, c.line_start-start.ensures.before) in
    let all = lines_behind bytes s before (omega (arith, f.0, before)) c.line_start-start.ensures.behind in
    let rest = ap (λ (t : List ℕ). length (slice_split is_line_end t)) (take_rest bytes s) in
    omega (arith, all, rest, c.count_ends.ensures.count)
