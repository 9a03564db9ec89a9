use Rattle.surf_surfaces.proofs.Common.{◌≡◌, ◌<◌, ◌++◌, ◌∷◌, [], List, ℕ, get_or, length, ap, ◌∙◌, arith, get_or_read}
use Rattle.surf_soup.proofs.ReachSteps.{marked-inside, reach_first, reach_next, reach_end}
use Rattle.surf_soup.proofs.reaching.walk.Goals as goal

pub loop-k-init : goal.loop-k-init
loop-k-init c =
    let items : c.push.new.self.items ≡ c.args.from ∷ [] = c.in_ok-push.ensures.items
    ∙ ap (λ (xs : List ℕ). xs ++ c.args.from ∷ []) c.requires.none in
    rw (items, c.requires.fresh) (reach_first c.args.rows.now c.args.from c.requires.start)

pub row-row-requires : goal.row-row-requires
row-row-requires c =
    let k = c.loop-k.k in
    let listed = c.loop-k.listed.items in
    let lt : k < length listed = omega (arith, c.loop-k-test.true, c.len.ensures) in
    let read = get_or_read listed k c.index.result.now lt c.index.ensures 0 in
    omega (
      arith,
      read,
      marked-inside c.loop-k.seen (get_or listed k 0) (c.loop-k.invariant.listed_marked k lt),
      c.loop-k.invariant.size,
    )

pub loop-k-preserved : goal.loop-k-preserved
loop-k-preserved c =
    let k = c.loop-k.k in
    let rows = c.args.rows.now in
    let listed = c.loop-k.listed.items in
    let lt : k < length listed = omega (arith, c.loop-k-test.true, c.len.ensures) in
    let read = get_or_read listed k c.index.result.now lt c.index.ensures 0 in
    reach_next rows c.args.from k c.loop-k.seen listed c.row-row.result.now c.visit.new.seen c.visit.new.listed.items
    c.loop-k.invariant lt (c.row-row.ensures ∙ ap (λ n. get_or rows n []) read) c.in_ok-visit.ensures

pub returns : goal.returns
returns c = reach_end c.args.rows.now c.args.from c.loop-k.k c.loop-k.seen c.loop-k.listed.items c.loop-k.invariant
    (omega (arith, c.loop-k-test.false, c.len.ensures))
