use Rattle.surf_surfaces.proofs.Common.{◌≡◌, nat_le, true, get_or, sym, arith, le-leb}
use Rattle.surf_class.proofs.Lists.{position_at, position_none}
use Rattle.surf_class.proofs.walk.first_stranger.Goals as goal

pub returns-then-vertices-numbers : goal.returns-then-vertices-numbers
returns-then-vertices-numbers c =
    let ns = c.args.numbers.now in
    let i = c.loop-i.i in
    let outside : nat_le c.args.mesh.now.vertices (get_or ns i 0) ≡ true =
    le-leb c.args.mesh.now.vertices (get_or ns i 0) (omega (arith, c.if-vertices-numbers.true, c.vertices-vertices.ensures.count)) in
    record { place = sym (position_at (λ v. nat_le c.args.mesh.now.vertices v) ns i 0 c.loop-i-test.true c.loop-i.invariant outside) }

pub returns : goal.returns
returns c = record {
  place = sym (position_none (λ v. nat_le c.args.mesh.now.vertices v) c.args.numbers.now 0
      (λ k l. c.loop-i.invariant k (omega (arith, l, c.loop-i-test.false))));
}
