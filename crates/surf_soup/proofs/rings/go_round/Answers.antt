use Rattle.surf_surfaces.proofs.Common.{◌≡◌, ◌∷◌, ◌++◌, [], true, arith, rules, set, get_or, ap, ◌∙◌, sym, get_or_read}
use Rattle.surf_soup.specs.Reach.{marked, unmarked}
use Rattle.surf_soup.proofs.RoundSteps.{marks_one}
use Rattle.surf_soup.proofs.RoundMarks.{listed_start, listed_side, listed_at, listed_more, listed_end}
use Rattle.surf_soup.proofs.rings.go_round.Goals as goal

pub bounds-seen-index : goal.bounds-seen-index
bounds-seen-index c =
    let inside = listed_at c.args.darts.now.mesh c.args.darts.now.mate
    c.args.edge_of.now c.law_of_darts.ensures.tables c.args.home c.requires.home c.args.seen.now c.loop-seen.side
    c.loop-seen.head c.loop-seen.corner c.loop-seen.seen c.args.sides.now.items c.loop-seen.sides.items
    c.args.edges.now.items c.loop-seen.edges.items c.loop-seen.invariant in
    omega (arith, inside, c.index.ensures)

pub bounds-seen-index-in-loop-seen : goal.bounds-seen-index-in-loop-seen
bounds-seen-index-in-loop-seen c =
    let inside = listed_at c.args.darts.now.mesh c.args.darts.now.mate
    c.args.edge_of.now c.law_of_darts.ensures.tables c.args.home c.requires.home c.args.seen.now c.loop-seen.side
    c.loop-seen.head c.loop-seen.corner c.loop-seen.seen c.args.sides.now.items c.loop-seen.sides.items
    c.args.edges.now.items c.loop-seen.edges.items c.loop-seen.invariant in
    omega (arith, inside, c.index-in-loop-seen.ensures)

pub turn_dart-requires : goal.turn_dart-requires
turn_dart-requires c =
    listed_side c.args.darts.now.mesh c.args.darts.now.mate
    c.args.edge_of.now c.law_of_darts.ensures.tables c.args.home c.requires.home c.args.seen.now c.loop-seen.side
    c.loop-seen.head c.loop-seen.corner c.loop-seen.seen c.args.sides.now.items c.loop-seen.sides.items
    c.args.edges.now.items c.loop-seen.edges.items c.loop-seen.invariant

pub offset_bounds-edge_of-index : goal.offset_bounds-edge_of-index
offset_bounds-edge_of-index c =
    let side = listed_side c.args.darts.now.mesh c.args.darts.now.mate
    c.args.edge_of.now c.law_of_darts.ensures.tables c.args.home c.requires.home c.args.seen.now c.loop-seen.side
    c.loop-seen.head c.loop-seen.corner c.loop-seen.seen c.args.sides.now.items c.loop-seen.sides.items
    c.args.edges.now.items c.loop-seen.edges.items c.loop-seen.invariant in
    omega (arith, side, c.index-in-loop-seen-2.ensures, c.law_of_darts.ensures.tables.few)

pub bounds-edge_of-index : goal.bounds-edge_of-index
bounds-edge_of-index c =
    let side = listed_side c.args.darts.now.mesh c.args.darts.now.mate
    c.args.edge_of.now c.law_of_darts.ensures.tables c.args.home c.requires.home c.args.seen.now c.loop-seen.side
    c.loop-seen.head c.loop-seen.corner c.loop-seen.seen c.args.sides.now.items c.loop-seen.sides.items
    c.args.edges.now.items c.loop-seen.edges.items c.loop-seen.invariant in
    omega (arith, side, c.index-in-loop-seen-2.ensures, c.requires.numbers.size)

pub loop-seen-init : goal.loop-seen-init
loop-seen-init c =
    listed_start c.args.darts.now.mesh c.args.darts.now.mate
    c.args.edge_of.now c.law_of_darts.ensures.tables c.args.home c.requires.home c.args.seen.now
    c.side_before-side.result c.args.sides.now.items c.args.edges.now.items c.requires.size c.side_before-side.ensures

pub loop-seen-smaller : goal.loop-seen-smaller
loop-seen-smaller c =
    let inside = listed_at c.args.darts.now.mesh c.args.darts.now.mate
    c.args.edge_of.now c.law_of_darts.ensures.tables c.args.home c.requires.home c.args.seen.now c.loop-seen.side
    c.loop-seen.head c.loop-seen.corner c.loop-seen.seen c.args.sides.now.items c.loop-seen.sides.items
    c.args.edges.now.items c.loop-seen.edges.items c.loop-seen.invariant in
    let new = ap (marked c.loop-seen.seen) (sym c.index.ensures) ∙ c.loop-seen-test.true in
    omega (
      arith,
      marks_one c.loop-seen.seen c.loop-seen.corner inside new,
      ap (λ s. unmarked (set c.loop-seen.seen s true)) c.index-in-loop-seen.ensures,
    )

pub returns : goal.returns
returns c =
    listed_end c.args.darts.now.mesh c.args.darts.now.mate
    c.args.edge_of.now c.law_of_darts.ensures.tables c.args.home c.requires.home c.args.seen.now c.loop-seen.side
    c.loop-seen.head c.loop-seen.corner c.loop-seen.seen c.args.sides.now.items c.loop-seen.sides.items
    c.args.edges.now.items c.loop-seen.edges.items c.loop-seen.invariant c.requires.fresh
    (ap (marked c.loop-seen.seen) (sym c.index.ensures) ∙ c.loop-seen-test.false)

pub loop-seen-preserved : goal.loop-seen-preserved
loop-seen-preserved c =
    let sides : c.push.new.self.items ≡ c.loop-seen.sides.items ++ c.loop-seen.corner ∷ [] = search rules in
    let e = get_or c.args.edge_of.now c.index-in-loop-seen-2.result c.index-edge_of-index.result in
    let side = listed_side c.args.darts.now.mesh c.args.darts.now.mate
    c.args.edge_of.now c.law_of_darts.ensures.tables c.args.home c.requires.home c.args.seen.now c.loop-seen.side
    c.loop-seen.head c.loop-seen.corner c.loop-seen.seen c.args.sides.now.items c.loop-seen.sides.items
    c.args.edges.now.items c.loop-seen.edges.items c.loop-seen.invariant in
    let e_is : e ≡ get_or c.args.edge_of.now c.loop-seen.side 0 = sym c.index-edge_of-index.is
    ∙ get_or_read c.args.edge_of.now c.index-in-loop-seen-2.result c.index-edge_of-index.result
    (omega (arith, side, c.index-in-loop-seen-2.ensures, c.requires.numbers.size)) c.index-edge_of-index.is 0
    ∙ ap (λ s. get_or c.args.edge_of.now s 0) c.index-in-loop-seen-2.ensures in
    let new = ap (marked c.loop-seen.seen) (sym c.index.ensures) ∙ c.loop-seen-test.true in
    let edges : c.push-in-loop-seen.new.self.items ≡ c.loop-seen.edges.items ++ e ∷ [] = search rules in
    rw (sides, edges, c.index-in-loop-seen.ensures) (listed_more c.args.darts.now.mesh c.args.darts.now.mate
    c.args.edge_of.now c.law_of_darts.ensures.tables c.args.home c.requires.home c.args.seen.now c.loop-seen.side
    c.loop-seen.head c.loop-seen.corner c.loop-seen.seen c.args.sides.now.items c.loop-seen.sides.items
    c.args.edges.now.items c.loop-seen.edges.items c.loop-seen.invariant
    new c.turn_dart.result.0 c.turn_dart.result.2 c.turn_dart.result.1 e e_is
    c.turn_dart.ensures.dart c.turn_dart.ensures.corner)
