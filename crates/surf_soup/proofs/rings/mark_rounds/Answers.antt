use Rattle.surf_surfaces.proofs.Common.{[], ◌≡◌, ◌<◌, ℕ, get_or, ap, subst, ◌∙◌, arith, get_or_read}
use Rattle.surf_soup.specs.Vertices.{all_corners}
use Rattle.surf_soup.specs.Ring.{AreMarkedFans, IsRoundMarked}
use Rattle.surf_soup.proofs.RingMarks.{first_side_at, fans_next}
use Rattle.surf_soup.proofs.rings.mark_rounds.Goals as goal

pub mark_round-requires-clause-home : goal.mark_round-requires-clause-home
mark_round-requires-clause-home c =
    let mesh = c.args.darts.now.mesh in
    let first = c.firsts-first.result.now in
    let v = c.loop-home.home-index in
    let lt : v < mesh.vertices = omega (arith, c.loop-home-test.true, c.firsts-first.ensures.size) in
    let read = get_or_read first v c.home-item.result c.loop-home-test.true c.home-item.is 0 in
    let b = first_side_at mesh c.args.darts.now.mate []
    c.law_of_darts.ensures.tables first v c.firsts-first.ensures c.law_of_darts.ensures.met lt in
    omega (arith, b.0, read)

pub mark_round-requires-clause-fresh : goal.mark_round-requires-clause-fresh
mark_round-requires-clause-fresh c = λ s b.
    let mesh = c.args.darts.now.mesh in
    let first = c.firsts-first.result.now in
    let v = c.loop-home.home-index in
    let lt : v < mesh.vertices = omega (arith, c.loop-home-test.true, c.firsts-first.ensures.size) in
    let read = get_or_read first v c.home-item.result c.loop-home-test.true c.home-item.is 0 in
    let at = first_side_at mesh c.args.darts.now.mate []
    c.law_of_darts.ensures.tables first v c.firsts-first.ensures c.law_of_darts.ensures.met lt in
    c.loop-home.invariant.fresh v s (omega arith) (b.0, b.1 ∙ ap (λ t. get_or (all_corners mesh) t 0) read ∙ at.1)

pub loop-home-preserved : goal.loop-home-preserved
loop-home-preserved c =
    let mesh = c.args.darts.now.mesh in
    let first = c.firsts-first.result.now in
    let v = c.loop-home.home-index in
    let lt : v < mesh.vertices = omega (arith, c.loop-home-test.true, c.firsts-first.ensures.size) in
    let read = get_or_read first v c.home-item.result c.loop-home-test.true c.home-item.is 0 in
    let P : ℕ → Type 0 =
    λ s. IsRoundMarked mesh c.args.darts.now.mate s c.loop-home.seen c.mark_round.new.seen in
    fans_next mesh c.args.darts.now.mate []
    c.law_of_darts.ensures.tables first v c.loop-home.seen c.mark_round.new.seen c.firsts-first.ensures c.law_of_darts.ensures.met
    c.loop-home.invariant lt (subst P read c.mark_round.ensures)

pub returns : goal.returns
returns c =
    let mesh = c.args.darts.now.mesh in
    let n : c.loop-home.home-index ≡ mesh.vertices =
    omega (arith, c.firsts-first.ensures.size, c.loop-home-test.false) in
    let M : ℕ → Type 0 = AreMarkedFans mesh c.loop-home.seen in
    subst M n c.loop-home.invariant.fans
