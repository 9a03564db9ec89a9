use Rattle.surf_surfaces.proofs.Common.{sym, ◌∙◌, refl, arith, All-nil, common_steps}
use Rattle.surf_off.proofs.PlainLines.{none_so_far, one_more, begins}
use Rattle.surf_off.proofs.plain.plain_corners.Goals as goal

pub loop-init : goal.loop-init
loop-init c = rw c.clear.ensures.items (record { count = omega arith; within = All-nil _; so_far = none_so_far c.args.vertices c.args.text.now })

pub loop-preserved : goal.loop-preserved
loop-preserved c =
    let n = c.in-Some-front_number.ensures.number in
    record {
      count = grind (arith, common_steps);
      within = grind (arith, common_steps);
      so_far = rw (c.in_ok-push.ensures.items, c.new.ensures) (one_more c.args.vertices c.args.text.now c.loop.corners.items c.loop.behind.now c.in-Some.number.now _ c.in-Some-front_number.u c.in-Some-front_number.digits c.loop.invariant.so_far c.in-Some.ensures.rest n.0 n.1 c.if-u-vertices.false refl);
    }

pub returns-then-ends_token-clause-read : goal.returns-then-ends_token-clause-read
returns-then-ends_token-clause-read c = begins c.args.vertices c.args.text.now c.loop.corners.items c.loop.behind.now c.loop.invariant.so_far (sym c.ends_token.ensures.ends ∙ c.if-ends_token.true)
