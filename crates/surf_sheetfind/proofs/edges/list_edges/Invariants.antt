use Rattle.surf_sheetfind.specs.Listed.{AreEdgeRows}
use Rattle.surf_sheetfind.specs.Sets.{set_at}
use Rattle.surf_sheetfind.proofs.edges.list_edges.Given as goal

-- the edges before
abbrev pub invariant-loop-e : goal.invariant-loop-e
invariant-loop-e l = AreEdgeRows l.sets.mesh.now (set_at l.sets) l.count l.e l.listed.edges.items l.listed.numbers
