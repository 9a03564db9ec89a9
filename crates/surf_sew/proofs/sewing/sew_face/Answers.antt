use Rattle.surf_sew.proofs.Common.{◌≡◌, ◌<◌, ◌+◌, ℕ, List, [], ◌∷◌, ◌++◌, true, false, length, get_or, set, take, sym, ◌∙◌, ap, subst, arith, eq-eqb, ◌==◌, slice_index, list_any, ne_eqb, length-map, take_more, Marked, marked_more, not_before, sewn_face}
use Rattle.surf_off.proofs.Repeats.{repeats_here, repeats_later, distinct_more, no_repeat}
use Rattle.surf_sew.proofs.Faults.{corner_is}
use Rattle.surf_sew.proofs.sewing.sew_face.Goals as goal

pub returns-then-marks-index-clause-first : goal.returns-then-marks-index-clause-first
returns-then-marks-index-clause-first c =
    let origins = c.args.origins.now in
    let face = c.args.face.now in
    let us = sewn_face origins face in
    let i = c.loop-c.c-index in
    let v : ℕ = c.index-origins-index.result in
    let few : c.index.result < length origins = let w = c.requires.inside i c.c-item.result c.loop-c-test.true in omega (arith, w, c.c-item.is, c.index.ensures) in
    let is : v ≡ get_or us i v = corner_is origins face i c.index.result c.c-item.result v c.loop-c-test.true c.c-item.is c.index.ensures few c.index-origins-index.is in
    let lt : i < length us = omega (arith, length-map face (slice_index origins), c.loop-c-test.true) in
    let inside : v < length c.loop-c.marks = let w = c.requires.within c.index.result v few in omega (arith, w, c.index-origins-index.is) in
    let marked : (get_or c.loop-c.marks v 0 == c.args.stamp) ≡ true = ap (λ (k : ℕ). get_or c.loop-c.marks k 0 == c.args.stamp) (sym c.index-in-loop-c.ensures) ∙ eq-eqb _ _ c.if-marks-index.true in
    sym (repeats_here us i v is lt (sym (c.loop-c.invariant.marked.same v inside) ∙ marked)) ∙ c.loop-c.invariant.so_far

pub loop-c-preserved : goal.loop-c-preserved
loop-c-preserved c =
    let origins = c.args.origins.now in
    let face = c.args.face.now in
    let us = sewn_face origins face in
    let i = c.loop-c.c-index in
    let v : ℕ = c.index-origins-index.result in
    let few : c.index.result < length origins = let w = c.requires.inside i c.c-item.result c.loop-c-test.true in omega (arith, w, c.c-item.is, c.index.ensures) in
    let is : v ≡ get_or us i v = corner_is origins face i c.index.result c.c-item.result v c.loop-c-test.true c.c-item.is c.index.ensures few c.index-origins-index.is in
    let lt : i < length us = omega (arith, length-map face (slice_index origins), c.loop-c-test.true) in
    let inside : v < length c.loop-c.marks = let w = c.requires.within c.index.result v few in omega (arith, w, c.index-origins-index.is) in
    let unmarked : (get_or c.loop-c.marks v 0 == c.args.stamp) ≡ false = ap (λ (k : ℕ). get_or c.loop-c.marks k 0 == c.args.stamp) (sym c.index-in-loop-c.ensures) ∙ ne_eqb _ _ c.if-marks-index.false in
    let new : list_any (λ s. s == v) (take i us) ≡ false = sym (c.loop-c.invariant.marked.same v inside) ∙ unmarked in
    record {
      so_far = sym (repeats_later us i v is lt new) ∙ c.loop-c.invariant.so_far;
      distinct = distinct_more us i v is lt c.loop-c.invariant.distinct (not_before (take i us) v new);
      marked = subst (λ (k : ℕ). Marked (set c.loop-c.marks k c.args.stamp) c.args.stamp (take (i + 1) us)) (sym c.index-in-loop-c-2.ensures) (marked_more c.loop-c.marks c.args.stamp us i v inside lt is c.loop-c.invariant.marked);
      corners = c.in_ok-push.ensures.items ∙ ap (λ (xs : List ℕ). xs ++ v ∷ []) c.loop-c.invariant.corners ∙ ap (λ (x : ℕ). take i us ++ x ∷ []) is ∙ sym (take_more us i v lt);
    }

pub returns-clause-first : goal.returns-clause-first
returns-clause-first c =
    let us = sewn_face c.args.origins.now c.args.face.now in
    sym (no_repeat us c.loop-c.c-index (omega (arith, length-map c.args.face.now (slice_index c.args.origins.now), c.loop-c-test.false))) ∙ c.loop-c.invariant.so_far
