use Rattle.std.proofs.Common.{[], true, arith, set, ap, ◌∙◌, sym}
use Rattle.surf_soup.specs.Reach.{marked, unmarked}
use Rattle.surf_soup.proofs.RoundSteps.{marks_one}
use Rattle.surf_soup.proofs.RoundMarks.{marked_start, marked_side, marked_at, marked_next, marked_end}
use Rattle.surf_soup.proofs.rings.mark_round.Goals as goal

pub bounds-seen-index : goal.bounds-seen-index
bounds-seen-index c =
    let inside = marked_at c.args.darts.now.mesh c.args.darts.now.mate
    [] c.law_of_darts.ensures.tables c.args.home c.requires.home c.args.seen.now c.loop-seen.side
    c.loop-seen.head c.loop-seen.at c.loop-seen.seen c.loop-seen.invariant in
    omega (arith, inside, c.index.ensures)

pub bounds-seen-index-in-loop-seen : goal.bounds-seen-index-in-loop-seen
bounds-seen-index-in-loop-seen c =
    let inside = marked_at c.args.darts.now.mesh c.args.darts.now.mate
    [] c.law_of_darts.ensures.tables c.args.home c.requires.home c.args.seen.now c.loop-seen.side
    c.loop-seen.head c.loop-seen.at c.loop-seen.seen c.loop-seen.invariant in
    omega (arith, inside, c.index-in-loop-seen.ensures)

pub turn_dart-requires : goal.turn_dart-requires
turn_dart-requires c =
    marked_side c.args.darts.now.mesh c.args.darts.now.mate
    [] c.law_of_darts.ensures.tables c.args.home c.requires.home c.args.seen.now c.loop-seen.side
    c.loop-seen.head c.loop-seen.at c.loop-seen.seen c.loop-seen.invariant

pub loop-seen-init : goal.loop-seen-init
loop-seen-init c =
    marked_start c.args.darts.now.mesh c.args.darts.now.mate
    [] c.law_of_darts.ensures.tables c.args.home c.requires.home c.args.seen.now
    c.side_before-side.result c.requires.size c.side_before-side.ensures

pub loop-seen-smaller : goal.loop-seen-smaller
loop-seen-smaller c =
    let inside = marked_at c.args.darts.now.mesh c.args.darts.now.mate
    [] c.law_of_darts.ensures.tables c.args.home c.requires.home c.args.seen.now c.loop-seen.side
    c.loop-seen.head c.loop-seen.at c.loop-seen.seen c.loop-seen.invariant in
    let new = ap (marked c.loop-seen.seen) (sym c.index.ensures) ∙ c.loop-seen-test.true in
    omega (
      arith,
      marks_one c.loop-seen.seen c.loop-seen.at inside new,
      ap (λ s. unmarked (set c.loop-seen.seen s true)) c.index-in-loop-seen.ensures,
    )

pub loop-seen-preserved : goal.loop-seen-preserved
loop-seen-preserved c =
    let new = ap (marked c.loop-seen.seen) (sym c.index.ensures) ∙ c.loop-seen-test.true in
    rw c.index-in-loop-seen.ensures (marked_next c.args.darts.now.mesh c.args.darts.now.mate
    [] c.law_of_darts.ensures.tables c.args.home c.requires.home c.args.seen.now c.loop-seen.side
    c.loop-seen.head c.loop-seen.at c.loop-seen.seen c.loop-seen.invariant new
    c.turn_dart.result.0 c.turn_dart.result.2 c.turn_dart.result.1 c.turn_dart.ensures.dart c.turn_dart.ensures.corner)

pub returns : goal.returns
returns c =
    marked_end c.args.darts.now.mesh c.args.darts.now.mate
    [] c.law_of_darts.ensures.tables c.args.home c.requires.home c.args.seen.now c.loop-seen.side
    c.loop-seen.head c.loop-seen.at c.loop-seen.seen c.loop-seen.invariant c.requires.fresh
    (ap (marked c.loop-seen.seen) (sym c.index.ensures) ∙ c.loop-seen-test.false)
