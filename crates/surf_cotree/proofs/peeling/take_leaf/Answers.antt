use Rattle.surf_cotree.proofs.Common.{◌≢◌, ℕ, refl, subst, sym, arith, dual, cells_of, side_link, outside, IsOnlyEdge}
use Rattle.surf_cotree.proofs.peeling.take_leaf.Goals as goal

pub returns : goal.returns
returns c =
    let mesh = c.args.mesh.now in
    let only = subst (λ (p : ℕ × ℕ). IsOnlyEdge (dual (cells_of mesh)) (outside c.args.marks.now) c.args.face p.0 p.1) (sym c.across-on.ensures.link)
    (subst (λ x. IsOnlyEdge (dual (cells_of mesh)) (outside c.args.marks.now) x (side_link mesh c.in_ok-side.side).0 (side_link mesh c.in_ok-side.side).1) c.new.ensures c.in_ok-side.ensures.only) in
    let apart : c.args.face ≢ 0 = omega (arith, c.if-face-eq0.false) in
    rw (c.number.ensures, c.index.ensures) (record { taken = (apart, only, refl) })
