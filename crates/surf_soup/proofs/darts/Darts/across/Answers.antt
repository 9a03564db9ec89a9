use Rattle.surf_surfaces.proofs.Common.{◌<◌, ap, ◌∙◌, arith, get_or, side_count}
use Rattle.surf_soup.specs.Darts.{DartTables}
use Rattle.surf_soup.proofs.TurnedSides.{mate_read}
use Rattle.surf_soup.proofs.darts.Darts.across.Goals as goal

pub bounds-self-inside-index : goal.bounds-self-inside-index
bounds-self-inside-index c =
    let same = ap (λ (t : DartTables). side_count t.mesh) c.self.view_is in
    omega (arith, c.requires, same, c.self.invariant.tables.mates.size, c.index.ensures)

pub returns-clause-mate : goal.returns-clause-mate
returns-clause-mate c =
    let same = ap (λ (t : DartTables). side_count t.mesh) c.self.view_is in
    let in' : c.args.side < side_count c.self.inside.soup.now = omega (arith, c.requires, same) in
    (mate_read c.self.invariant.tables in' c.index.ensures c.index-self-index.is).0
    ∙ ap (λ (t : DartTables). get_or t.mate c.args.side 0) c.self.view_is

pub returns-clause-inside : goal.returns-clause-inside
returns-clause-inside c =
    let same = ap (λ (t : DartTables). side_count t.mesh) c.self.view_is in
    let in' : c.args.side < side_count c.self.inside.soup.now = omega (arith, c.requires, same) in
    omega (arith, same, (mate_read c.self.invariant.tables in' c.index.ensures c.index-self-index.is).1)
