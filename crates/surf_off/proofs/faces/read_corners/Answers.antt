use Rattle.surf_surfaces.proofs.Common.{◌≡◌, ◌∷◌, ap, length, arith, err_from_is_err_and, common_steps}
use Rattle.std.proofs.lemmas.Option.{MatchOption-at_some}
use Rattle.surf_off.proofs.Corners.{corner_more, corner_bad, corners_done, rest_more}
use Rattle.surf_off.proofs.faces.read_corners.Goals as goal

pub returns-in_err-corner-clause-corners : goal.returns-in_err-corner-clause-corners
returns-in_err-corner-clause-corners c =
    let token : c.loop-place.tokens.tokens ≡ c.unwrap-token.result.now ∷ c.next_token.new.self.tokens = MatchOption-at_some _ _ c.unwrap-token.result c.unwrap-token.ensures c.next_token.ensures.next in
    let p = err_from_is_err_and c.from_residual.result c.from_residual.ensures.1 in
    rw (p.1, p.2) (λ other. corner_bad c.args.line c.args.vertices c.args.size _ c.loop-place.corners.items c.loop-place.place c.loop-place.tokens.tokens c.unwrap-token.result.now c.next_token.new.self.tokens c.in_err-corner.field-0.0 c.loop-place-test.true token (c.in_err-corner.ensures.corner other) c.loop-place.invariant.so_far)

pub loop-place-preserved : goal.loop-place-preserved
loop-place-preserved c =
    let token : c.loop-place.tokens.tokens ≡ c.unwrap-token.result.now ∷ c.next_token.new.self.tokens = MatchOption-at_some _ _ c.unwrap-token.result c.unwrap-token.ensures c.next_token.ensures.next in
    record {
      enough = omega (arith, ap length token, c.loop-place.invariant.enough);
      count = grind (arith, common_steps);
      within = grind (arith, common_steps);
      so_far = rw c.in_ok-push.ensures.items (corner_more c.args.line c.args.vertices c.args.size _ c.loop-place.corners.items c.loop-place.place c.loop-place.tokens.tokens c.unwrap-token.result.now c.next_token.new.self.tokens c.in_ok-corner.corner c.loop-place-test.true token c.in_ok-corner.ensures.corner c.loop-place.invariant.so_far);
      rest = rest_more c.args.size c.loop-place.place c.loop-place.tokens.rest c.next_token.new.self.rest _ c.loop-place-test.true c.next_token.ensures.rest c.loop-place.invariant.rest;
    }

pub returns-clause-corners : goal.returns-clause-corners
returns-clause-corners c = corners_done c.args.line c.args.vertices c.args.size _ c.loop-place.corners.items c.loop-place.place c.loop-place.tokens.tokens c.loop-place-test.false c.loop-place.invariant.so_far
