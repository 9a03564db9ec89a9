use Rattle.std.proofs.Common.{◌≡◌, ◌+◌, ℕ, drop, sym, ◌∙◌, ap, arith}
use Rattle.surf_cert.proofs.BlankLines.{from_line, blank_passed, token_passed, min_passed, no_more}
use Rattle.surf_cert.proofs.blank.find_behind.Goals as goal

pub loop-left-preserved-then-not-is_empty : goal.loop-left-preserved-then-not-is_empty
loop-left-preserved-then-not-is_empty c =
    let l = c.first_line-line.result in
    let loop = c.loop-left in
    let past = min_passed c.args.text.now loop.at l.len c.min-at.result c.if-at-text.true c.min-at.ensures in
    record {
      few = omega (arith, past.0, loop.invariant.few);
      inside = past.1;
      same = token_passed c.args.text.now l.bytes.now loop.at (loop.lines + 1) loop.left l.len c.min-at.result _ c.first_line-line.ensures.len c.first_line-line.ensures.bytes c.min-at.ensures loop.invariant.same (sym c.is_empty.ensures ∙ c.if-not-is_empty.true) c.loop-left-test.true;
    }

pub loop-left-preserved : goal.loop-left-preserved
loop-left-preserved c =
    let l = c.first_line-line.result in
    let loop = c.loop-left in
    let past = min_passed c.args.text.now loop.at l.len c.min-at.result c.if-at-text.true c.min-at.ensures in
    record {
      few = omega (arith, past.0, loop.invariant.few);
      inside = past.1;
      same = blank_passed c.args.text.now l.bytes.now loop.at (loop.lines + 1) loop.left l.len c.min-at.result _ c.first_line-line.ensures.len c.first_line-line.ensures.bytes c.min-at.ensures loop.invariant.same (sym c.is_empty.ensures ∙ c.if-not-is_empty.false);
    }

pub returns-else-at-text-clause-lines : goal.returns-else-at-text-clause-lines
returns-else-at-text-clause-lines c = no_more c.args.text.now c.loop-left.at (c.loop-left.lines + 1) c.loop-left.left _ c.if-at-text.false c.loop-left.invariant.same

pub returns-after-loop-left-clause-lines : goal.returns-after-loop-left-clause-lines
returns-after-loop-left-clause-lines c =
    let none : 0 ≡ c.loop-left.left = omega (arith, c.loop-left-test.false) in
    ap (λ (k : ℕ). drop k (from_line (c.loop-left.lines + 1) (drop c.loop-left.at c.args.text.now))) none ∙ c.loop-left.invariant.same
