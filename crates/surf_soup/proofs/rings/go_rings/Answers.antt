use Rattle.surf_surfaces.proofs.Common.{◌≡◌, ◌<◌, ◌+◌, ◌++◌, ◌∷◌, [], ℕ, List, length, get_or, sym, ap, subst, ◌∙◌, arith, rules, get_or_read}
use Rattle.surf_soup.specs.Vertices.{all_corners}
use Rattle.surf_soup.specs.Ring.{AreMarkedFans, AreMarkedRings, IsRoundListed}
use Rattle.surf_soup.proofs.RingMarks.{AreRingsListed, first_side_at, rings_next}
use Rattle.surf_soup.proofs.rings.go_rings.Goals as goal

pub go_round-requires-clause-home : goal.go_round-requires-clause-home
go_round-requires-clause-home c =
    let mesh = c.args.darts.now.mesh in
    let first = c.firsts-first.result.now in
    let v = c.loop-home.home-index in
    let lt : v < mesh.vertices = omega (arith, c.loop-home-test.true, c.firsts-first.ensures.size) in
    let read = get_or_read first v c.home-item.result c.loop-home-test.true c.home-item.is 0 in
    let b = first_side_at mesh c.args.darts.now.mate c.args.edge_of.now
    c.law_of_darts.ensures.tables first v c.firsts-first.ensures c.law_of_darts.ensures.met lt in
    omega (arith, b.0, read)

pub go_round-requires-clause-fresh : goal.go_round-requires-clause-fresh
go_round-requires-clause-fresh c = λ s b.
    let mesh = c.args.darts.now.mesh in
    let first = c.firsts-first.result.now in
    let v = c.loop-home.home-index in
    let lt : v < mesh.vertices = omega (arith, c.loop-home-test.true, c.firsts-first.ensures.size) in
    let read = get_or_read first v c.home-item.result c.loop-home-test.true c.home-item.is 0 in
    let at = first_side_at mesh c.args.darts.now.mate c.args.edge_of.now
    c.law_of_darts.ensures.tables first v c.firsts-first.ensures c.law_of_darts.ensures.met lt in
    c.loop-home.invariant.marks.fresh v s (omega arith) (b.0, b.1 ∙ ap (λ t. get_or (all_corners mesh) t 0) read ∙ at.1)

pub loop-home-preserved : goal.loop-home-preserved
loop-home-preserved c =
    let mesh = c.args.darts.now.mesh in
    let first = c.firsts-first.result.now in
    let v = c.loop-home.home-index in
    let lt : v < mesh.vertices = omega (arith, c.loop-home-test.true, c.firsts-first.ensures.size) in
    let read = get_or_read first v c.home-item.result c.loop-home-test.true c.home-item.is 0 in
    let sides = c.go_round.new.sides.items in
    let ends : c.push.new.self.items ≡ c.loop-home.ends.items ++ length sides ∷ [] = search rules in
    let P : ℕ → Type 0 =
    λ s. IsRoundListed mesh c.args.darts.now.mate c.args.edge_of.now s c.loop-home.seen
    c.go_round.new.seen c.loop-home.sides.items sides c.loop-home.edges.items c.go_round.new.edges.items in
    let R : List ℕ → Type 0 = AreRingsListed mesh c.go_round.new.seen (v + 1) sides c.go_round.new.edges.items in
    subst R (sym ends) (rings_next mesh c.args.darts.now.mate
    c.args.edge_of.now c.law_of_darts.ensures.tables first v c.loop-home.seen c.go_round.new.seen
    c.loop-home.sides.items sides c.loop-home.edges.items c.go_round.new.edges.items c.loop-home.ends.items
    c.requires.numbers c.firsts-first.ensures c.law_of_darts.ensures.met c.loop-home.invariant lt (subst P read c.in_ok-go_round.ensures))

pub returns-clause-fans : goal.returns-clause-fans
returns-clause-fans c =
    let mesh = c.args.darts.now.mesh in
    let size = c.firsts-first.ensures.size in
    let n : c.loop-home.home-index ≡ mesh.vertices = omega arith in
    let M : ℕ → Type 0 = AreMarkedFans mesh c.loop-home.seen in
    subst M n c.loop-home.invariant.marks.fans

pub returns-clause-rings : goal.returns-clause-rings
returns-clause-rings c =
    let mesh = c.args.darts.now.mesh in
    let size = c.firsts-first.ensures.size in
    let n : c.loop-home.home-index ≡ mesh.vertices = omega arith in
    let inv = c.loop-home.invariant in
    let M : ℕ → Type 0 = λ m. AreMarkedRings mesh c.loop-home.seen m c.from_parts.result.0 c.from_parts.result.1 in
    subst M n (rw (c.from_parts.ensures.first, c.from_parts.ensures.second) inv.rings)
