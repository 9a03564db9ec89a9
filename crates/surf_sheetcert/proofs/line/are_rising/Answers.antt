use Rattle.surf_cert.proofs.Common.{sym, arith}
use Rattle.surf_sheetcert.proofs.Rising.{rising_more, rising_low, rising_high, rising_done}
use Rattle.surf_sheetcert.proofs.line.are_rising.Goals as goal
use Rattle.surf_sheetcert.proofs.line.are_rising.Goals.{then-number-before-via-then-number-before, then-number-before-via-else-number-before+then-number-k}

pub returns-then-number-before : goal.returns-then-number-before
returns-then-number-before c = elim c.then-number-before.branch [
  | then-number-before-via-then-number-before w ↦ record { rises = sym (rising_low c.args.k c.loop-number.before c.args.numbers.now c.loop-number.number-index _ c.loop-number.invariant 0 c.loop-number-test.true w.if-number-before.true) }
  | then-number-before-via-else-number-before+then-number-k w ↦ record { rises = sym (rising_high c.args.k c.loop-number.before c.args.numbers.now c.loop-number.number-index _ c.loop-number.invariant 0 c.loop-number-test.true w.if-number-k.true) }
]

pub loop-number-preserved : goal.loop-number-preserved
loop-number-preserved c = rising_more c.args.k c.loop-number.before c.args.numbers.now c.loop-number.number-index _ c.loop-number.invariant 0 c.loop-number-test.true
    (let above = c.if-number-before.false in omega (arith, above)) (let most = c.if-number-k.false in omega (arith, most))

pub returns : goal.returns
returns c = record { rises = sym (rising_done c.args.k c.loop-number.before c.args.numbers.now c.loop-number.number-index _ c.loop-number.invariant c.loop-number-test.false) }
