use Rattle.surf_surfaces.proofs.Common.{get_or, steps}
use Rattle.surf_class.proofs.StepEdges.{step_there, step_ends, numbered}
use Rattle.surf_class.proofs.edges.step_edge.Goals as goal

pub unreachable-requires : goal.unreachable-requires
unreachable-requires c =
    step_there c.args.mesh.now c.args.walk.now c.args.i c.index-walk-i.result c.index-walk-i-2.result c.requires.closed
    c.requires.step c.index-walk-i.is c.index-walk-i-2.is c.in-None.ensures

pub returns-clause-edge : goal.returns-clause-edge
returns-clause-edge c =
    numbered c.args.mesh.now (get_or (steps c.args.walk.now) c.args.i (0, 0)) c.in-Some.edge c.in-Some.ensures.0
    (step_ends c.args.mesh.now c.args.walk.now c.args.i c.in-Some.edge c.index-walk-i.result c.index-walk-i-2.result
    c.requires.step c.index-walk-i.is c.index-walk-i-2.is c.in-Some.ensures.1)

pub returns-clause-ends : goal.returns-clause-ends
returns-clause-ends c =
    step_ends c.args.mesh.now c.args.walk.now c.args.i c.in-Some.edge c.index-walk-i.result c.index-walk-i-2.result
    c.requires.step c.index-walk-i.is c.index-walk-i-2.is c.in-Some.ensures.1
