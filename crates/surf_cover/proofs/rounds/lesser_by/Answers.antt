use Rattle.surf_surfaces.proofs.Common.{arith, div_below, mod_below}
use Rattle.surf_cover.proofs.rounds.lesser_by.Goals as goal

pub is_on_round-requires-clause-vertex : goal.is_on_round-requires-clause-vertex
is_on_round-requires-clause-vertex c =
    let t = c.args.desk.now in
    let inside = div_below c.args.node t.sets t.vertices (omega (arith, c.requires.set)) c.requires.node in
    rw (c.new-v.ensures, c.sets-sets.ensures.sets) inside

pub is_on_round-requires-clause-part : goal.is_on_round-requires-clause-part
is_on_round-requires-clause-part c =
    let t = c.args.desk.now in
    rw c.sets-sets.ensures.sets (mod_below c.args.node t.sets (omega (arith, c.requires.set)))
