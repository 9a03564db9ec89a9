use Rattle.std.proofs.Common.{[], length, get_or, ap, ◌∙◌, sym, arith}
use Rattle.surf_soup.specs.Vertices.{all_corners}
use Rattle.surf_soup.specs.Ring.{nexts, befores}
use Rattle.surf_soup.proofs.VertexLaws.{corners_len, begins_read}
use Rattle.surf_soup.proofs.TurnedSides.{turn_same, turn_other}
use Rattle.surf_soup.proofs.RoundMarks.{darts, inside}
use Rattle.surf_soup.proofs.darts.Darts.turn_dart.Goals as goal

pub bounds-tails-index : goal.bounds-tails-index
bounds-tails-index c =
    omega (
      arith,
      c.across-across.ensures.inside,
      ap length c.tails-tails.ensures,
      c.index.ensures,
      corners_len c.args.self.now.mesh,
    )

pub bounds-tails-index-2 : goal.bounds-tails-index-2
bounds-tails-index-2 c =
    omega (
      arith,
      c.requires,
      ap length c.tails-tails.ensures,
      c.index-2.ensures,
      corners_len c.args.self.now.mesh,
    )

pub returns-then-same-head-clause-dart : goal.returns-then-same-head-clause-dart
returns-then-same-head-clause-dart c =
    let mesh = c.args.self.now.mesh in
    let across = c.across-across.ensures in
    let ends = begins_read mesh c.tails-tails.ensures across.inside c.requires c.index.ensures c.index-2.ensures
    c.index-tails-index.is c.index-tails-index-2.is in
    turn_same (nexts mesh) (befores mesh) c.args.self.now.mate (all_corners mesh) c.args.side _
    c.next_side-corner.result c.eq-same.result c.args.head across.mate (c.eq-same.ensures ∙ ends) c.if-same-head.true
    c.next_side-corner.ensures

pub returns-else-same-head-clause-dart : goal.returns-else-same-head-clause-dart
returns-else-same-head-clause-dart c =
    let mesh = c.args.self.now.mesh in
    let across = c.across-across.ensures in
    let ends = begins_read mesh c.tails-tails.ensures across.inside c.requires c.index.ensures c.index-2.ensures
    c.index-tails-index.is c.index-tails-index-2.is in
    turn_other (nexts mesh) (befores mesh) c.args.self.now.mate (all_corners mesh) c.args.side _
    c.side_before-before.result c.eq-same.result c.args.head across.mate (c.eq-same.ensures ∙ ends)
    c.if-same-head.false c.side_before-before.ensures

pub returns-else-same-head-clause-corner : goal.returns-else-same-head-clause-corner
returns-else-same-head-clause-corner c =
    let mesh = c.args.self.now.mesh in
    let mate = c.args.self.now.mate in
    let tables = c.law_of_darts.ensures.tables in
    sym (ap (λ t. get_or (nexts mesh) t 0) c.side_before-before.ensures
    ∙ (darts mesh mate [] tables).next_prev _ (inside mesh mate [] tables _ c.across-across.ensures.inside))
