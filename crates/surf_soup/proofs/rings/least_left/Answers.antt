use Rattle.surf_surfaces.proofs.Common.{◌≡◌, ◌<◌, ℕ, List, length, get_or, sym, ap, subst, ◌∙◌, arith, eqb-true, side_count}
use Rattle.surf_soup.proofs.VertexLaws.{corners_len, corners_below}
use Rattle.surf_soup.proofs.LeftSides.{IsLeftUpto, left_none}
use Rattle.surf_soup.proofs.rings.least_left.Goals as goal

pub bounds-seen-s : goal.bounds-seen-s
bounds-seen-s c = omega (
  arith,
  c.requires,
  c.loop-s-test.true,
  ap length c.tails-corners.ensures,
  corners_len c.args.darts.now.mesh,
)

pub overflow_cast-s : goal.overflow_cast-s
overflow_cast-s c = omega (
  arith,
  c.loop-s-test.true,
  ap length c.tails-corners.ensures,
  corners_len c.args.darts.now.mesh,
  c.law_of_darts.ensures.tables.few,
)

pub returns-then-eq : goal.returns-then-eq
returns-then-eq c = λ t lt.
    let mesh = c.args.darts.now.mesh in
    let corners = c.tails-corners.result.now in
    let n : length corners ≡ side_count mesh = ap length c.tails-corners.ensures ∙ corners_len mesh in
    let none : c.new-none.result ≡ mesh.vertices = c.new-none.ensures ∙ c.vertices.ensures in
    let below : (s : ℕ) → s < c.loop-s.s → get_or corners s 0 < c.new-none.result = λ s in'.
    omega (
      arith,
      none,
      corners_below mesh c.law_of_darts.ensures.tables.is_mesh s 0
          (omega (arith, in', n, c.loop-s.auto.s-end, corners_len mesh)),
      ap (λ (xs : List ℕ). get_or xs s 0) c.tails-corners.ensures,
    ) in
    let P : ℕ → Type 0 = λ v. IsLeftUpto corners c.args.seen.now c.loop-s.s c.new-none.result v c.loop-s.side in
    left_none corners c.args.seen.now c.loop-s.s c.new-none.result c.loop-s.side
    (subst P (eqb-true c.loop-s.least c.new-none.result (sym c.eq.ensures ∙ c.if-eq.true)) c.loop-s.invariant) below
    t (omega (arith, lt, n, c.loop-s-test.false))
