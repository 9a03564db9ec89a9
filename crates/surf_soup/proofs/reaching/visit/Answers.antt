use Rattle.std.proofs.Common.{◌≡◌, ◌++◌, ◌∷◌, [], get_or, refl, arith, rules}
use Rattle.surf_soup.proofs.ReachSteps.{visit_old, visit_new}
use Rattle.surf_soup.proofs.reaching.visit.Goals as goal

pub loop-g-preserved : goal.loop-g-preserved
loop-g-preserved c =
    let g = get_or c.args.row.now c.loop-g.g-index 0 in
    let items : c.push.new.self.items ≡ c.loop-g.listed.items ++ g ∷ [] = search rules in
    rw items (visit_new c.args.row.now c.loop-g.g-index c.args.seen.now c.args.listed.now.items c.loop-g.seen
    c.loop-g.listed.items c.loop-g.invariant g refl
    (omega (arith, c.requires c.loop-g.g-index 0 c.loop-g-test.true, c.loop-g.invariant.size)) c.if-seen-g.false)

pub loop-g-preserved-then-seen-g : goal.loop-g-preserved-then-seen-g
loop-g-preserved-then-seen-g c =
    visit_old c.args.row.now c.loop-g.g-index c.args.seen.now c.args.listed.now.items c.loop-g.seen
    c.loop-g.listed.items c.loop-g.invariant c.if-seen-g.true
