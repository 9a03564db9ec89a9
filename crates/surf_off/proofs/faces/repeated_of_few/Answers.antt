use Rattle.std.proofs.Common.{sym, ◌∙◌}
use Rattle.surf_off.proofs.Marks.{not_before}
use Rattle.surf_off.proofs.Repeats.{repeats_here, repeats_later, distinct_more, no_repeat}
use Rattle.surf_off.proofs.faces.repeated_of_few.Goals as goal

pub returns-then-is_among-clause-first : goal.returns-then-is_among-clause-first
returns-then-is_among-clause-first c =
    let us = c.args.corners.now in
    let i = c.loop-i.i in
    sym (repeats_here us i c.index-corners-i.result c.index-corners-i.is c.loop-i-test.true (sym c.is_among.ensures.among ∙ c.if-is_among.true)) ∙ c.loop-i.invariant.so_far

pub loop-i-preserved : goal.loop-i-preserved
loop-i-preserved c =
    let us = c.args.corners.now in
    let i = c.loop-i.i in
    let u = c.index-corners-i.result in
    let new = sym c.is_among.ensures.among ∙ c.if-is_among.false in
    record {
      so_far = sym (repeats_later us i u c.index-corners-i.is c.loop-i-test.true new) ∙ c.loop-i.invariant.so_far;
      distinct = distinct_more us i u c.index-corners-i.is c.loop-i-test.true c.loop-i.invariant.distinct (not_before _ u new);
    }

pub returns-clause-first : goal.returns-clause-first
returns-clause-first c = sym (no_repeat c.args.corners.now c.loop-i.i c.loop-i-test.false) ∙ c.loop-i.invariant.so_far
