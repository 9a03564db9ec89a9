use Rattle.std.proofs.Common.{sym, ◌∙◌, arith}
use Rattle.surf_text.proofs.Words.{back_more, back_ends, back_none}
use Rattle.surf_text.proofs.places.trim_back.Goals as goal
use Rattle.surf_text.proofs.places.trim_back.Goals.{then-loop-end-test+else-is_blank, else-loop-end-test}

pub loop-end-preserved : goal.loop-end-preserved
loop-end-preserved c = record {
  within = omega arith;
  same = back_more c.args.bytes.now c.loop-end.end c.loop-end-test.true c.loop-end.invariant.within (sym c.if-is_blank.ensures.blank) ∙ c.loop-end.invariant.same;
}

pub returns : goal.returns
returns c = elim c.loop-end-test.branch [
  | then-loop-end-test+else-is_blank w ↦ record { bytes = back_ends c.args.bytes.now c.loop-end.end c.loop-end.invariant.within (sym w.if-is_blank.ensures.blank) w.loop-end-test.true ∙ c.loop-end.invariant.same }
  | else-loop-end-test w ↦ record { bytes = back_none c.args.bytes.now c.loop-end.end w.loop-end-test.false ∙ c.loop-end.invariant.same }
]
