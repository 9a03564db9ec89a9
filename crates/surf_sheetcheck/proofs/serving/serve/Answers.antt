use Rattle.surf_surfaces.proofs.Common.{◌+◌, arith, subst, sym, inl, inr, cases_lt}
use Rattle.surf_base.specs.Tables.{at}
use Rattle.surf_sheetcheck.proofs.TakenLaws.{AreTakenNear, taken_near_none, near_skip, near_more, near_all_taken, near_all_kept}
use Rattle.surf_sheetcheck.proofs.serving.serve.Goals as goal

pub loop-i-init : goal.loop-i-init
loop-i-init c = taken_near_none c.args.case.now c.args.task.now.row.now c.args.distance.now c.args.order.now c.args.left.now c.requires.lefts

pub serve_near-requires-clause-vertex : goal.serve_near-requires-clause-vertex
serve_near-requires-clause-vertex c = c.requires.settled.inside c.loop-i.i c.loop-i-test.true

pub loop-i-preserved : goal.loop-i-preserved
loop-i-preserved c =
    let case = c.args.case.now in
    let row = c.args.task.now.row.now in
    let dist = c.args.distance.now in
    let order = c.args.order.now in
    let i = c.loop-i.i in
    elim (cases_lt row.margin (at dist (at order i))) [
      | inl away ↦
          subst (AreTakenNear case row dist order (i + 1) c.args.left.now) (sym (c.serve_near.ensures.away away))
          (near_skip case row dist order i c.args.left.now c.loop-i.left c.loop-i.invariant away)
      | inr near ↦
          near_more case row dist order i c.args.left.now c.loop-i.left c.loop-i.invariant c.serve_near.new.left near
          c.serve_near.ensures.lefts (c.serve_near.ensures.taken near) (c.serve_near.ensures.kept near)
    ]

pub returns-clause-taken : goal.returns-clause-taken
returns-clause-taken c =
    let case = c.args.case.now in
    near_all_taken case c.args.task.now.row.now c.args.task.now.part.items c.args.task.now.limit c.args.distance.now c.args.order.now c.loop-i.i
    c.args.left.now c.loop-i.left c.requires.settled c.law_of_surface.ensures.surface c.requires.task.positive
    (omega (arith, c.loop-i-test.false, c.loop-i.auto.i-end)) c.loop-i.invariant

pub returns-clause-kept : goal.returns-clause-kept
returns-clause-kept c =
    let case = c.args.case.now in
    near_all_kept case c.args.task.now.row.now c.args.task.now.part.items c.args.task.now.limit c.args.distance.now c.args.order.now c.loop-i.i
    c.args.left.now c.loop-i.left c.requires.settled c.law_of_surface.ensures.surface c.requires.task.positive
    (omega (arith, c.loop-i-test.false, c.loop-i.auto.i-end)) c.loop-i.invariant
