use Rattle.std.proofs.Common.{◌≡◌, ◌<◌, ◌+◌, ℕ, true, false, length, get_or, set, take, sym, ◌∙◌, ap, subst, arith, eq-eqb}
use Rattle.surf_surfaces.proofs.Common.{list_any, ◌==◌, ne_eqb}
use Rattle.surf_off.proofs.Marks.{Marked, marked_more, not_before}
use Rattle.surf_off.proofs.Repeats.{repeats_here, repeats_later, distinct_more, no_repeat}
use Rattle.surf_off.proofs.faces.repeated.Goals as goal

pub returns-then-marks-index-clause-first : goal.returns-then-marks-index-clause-first
returns-then-marks-index-clause-first c =
    let us = c.args.corners.now in
    let i = c.loop-u.u-index in
    let u : ℕ = c.u-item.result in
    let is : u ≡ get_or us i u = c.u-item.is in
    let inside : u < length c.loop-u.marks = let w = c.requires.within i u c.loop-u-test.true in omega arith in
    let marked : (get_or c.loop-u.marks u 0 == c.args.stamp) ≡ true = ap (λ (k : ℕ). get_or c.loop-u.marks k 0 == c.args.stamp) (sym c.index.ensures) ∙ eq-eqb _ _ c.if-marks-index.true in
    sym (repeats_here us i u is c.loop-u-test.true (sym (c.loop-u.invariant.marked.same u inside) ∙ marked)) ∙ c.loop-u.invariant.so_far

pub loop-u-preserved : goal.loop-u-preserved
loop-u-preserved c =
    let us = c.args.corners.now in
    let i = c.loop-u.u-index in
    let u : ℕ = c.u-item.result in
    let is : u ≡ get_or us i u = c.u-item.is in
    let inside : u < length c.loop-u.marks = let w = c.requires.within i u c.loop-u-test.true in omega arith in
    let unmarked : (get_or c.loop-u.marks u 0 == c.args.stamp) ≡ false = ap (λ (k : ℕ). get_or c.loop-u.marks k 0 == c.args.stamp) (sym c.index.ensures) ∙ ne_eqb _ _ c.if-marks-index.false in
    let new : list_any (λ s. s == u) (take i us) ≡ false = sym (c.loop-u.invariant.marked.same u inside) ∙ unmarked in
    record {
      so_far = sym (repeats_later us i u is c.loop-u-test.true new) ∙ c.loop-u.invariant.so_far;
      distinct = distinct_more us i u is c.loop-u-test.true c.loop-u.invariant.distinct (not_before (take i us) u new);
      marked = subst (λ (k : ℕ). Marked (set c.loop-u.marks k c.args.stamp) c.args.stamp (take (i + 1) us)) (sym c.index-in-loop-u.ensures) (marked_more c.loop-u.marks c.args.stamp us i u inside c.loop-u-test.true is c.loop-u.invariant.marked);
    }

pub returns-clause-first : goal.returns-clause-first
returns-clause-first c = sym (no_repeat c.args.corners.now c.loop-u.u-index c.loop-u-test.false) ∙ c.loop-u.invariant.so_far
