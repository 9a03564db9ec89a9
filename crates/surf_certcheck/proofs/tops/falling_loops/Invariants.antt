use Rattle.surf_surfaces.proofs.Common.{◌<◌, All, edge_count}
use Rattle.surf_certcheck.proofs.tops.falling_loops.Given as goal

abbrev pub invariant-loop-e : goal.invariant-loop-e
invariant-loop-e l = All (λ a. a.edge < edge_count l.judge.mesh.now) l.loops.items
