use Rattle.std.proofs.Common.{slice_index, arith}
use Rattle.surf_finder.proofs.Marked.{ends_inside, either_below}
use Rattle.surf_search.proofs.Counted.{as_read_or_turned}
use Rattle.surf_search.proofs.Capping.{raised_at_end}
use Rattle.surf_search.proofs.caps.raise.Goals as goal

pub bounds-caps-index : goal.bounds-caps-index
bounds-caps-index c =
    let inside = ends_inside c.args.mesh.now c.law_of_surface.ensures.surface c.args.ask.edge c.requires.edge c.ends-low.result c.ends-low.ensures in
    omega (arith, inside.0, c.requires.caps, c.index.ensures)

pub bounds-caps-index-then-caps-index : goal.bounds-caps-index-then-caps-index
bounds-caps-index-then-caps-index c =
    let inside = ends_inside c.args.mesh.now c.law_of_surface.ensures.surface c.args.ask.edge c.requires.edge c.ends-low.result c.ends-low.ensures in
    omega (arith, inside.1, c.requires.caps, c.index-then-caps-index.ensures)

pub lesser_first-busier-requires-clause-low : goal.lesser_first-busier-requires-clause-low
lesser_first-busier-requires-clause-low c =
    let inside = ends_inside c.args.mesh.now c.law_of_surface.ensures.surface c.args.ask.edge c.requires.edge c.ends-low.result c.ends-low.ensures in
    omega (arith, inside.0, c.requires.degrees)

pub lesser_first-busier-requires-clause-high : goal.lesser_first-busier-requires-clause-high
lesser_first-busier-requires-clause-high c =
    let inside = ends_inside c.args.mesh.now c.law_of_surface.ensures.surface c.args.ask.edge c.requires.edge c.ends-low.result c.ends-low.ensures in
    omega (arith, inside.1, c.requires.degrees)

pub bounds-caps-index-then-caps-index-2 : goal.bounds-caps-index-then-caps-index-2
bounds-caps-index-then-caps-index-2 c =
    let inside = ends_inside c.args.mesh.now c.law_of_surface.ensures.surface c.args.ask.edge c.requires.edge c.ends-low.result c.ends-low.ensures in
    let both = either_below c.args.mesh.now.vertices c.ends-low.result.0 c.ends-low.result.1 c.lesser_first-busier.result
    (as_read_or_turned (slice_index c.args.degrees.now) c.ends-low.result c.lesser_first-busier.result c.lesser_first-busier.ensures) inside.0 inside.1 in
    omega (arith, both.1, c.requires.caps, c.index-then-caps-index-2.ensures)

pub returns-then-caps-index-2-clause-capped : goal.returns-then-caps-index-2-clause-capped
returns-then-caps-index-2-clause-capped c =
    raised_at_end c.args.mesh.now (slice_index c.args.degrees.now) c.args.caps.now c.args.ask.length c.args.ask.edge
    c.index-then-caps-index-2.result c.ends-low.result c.lesser_first-busier.result c.ends-low.ensures c.lesser_first-busier.ensures
    c.index-then-caps-index-2.ensures (bounds-caps-index-then-caps-index-2 c)
