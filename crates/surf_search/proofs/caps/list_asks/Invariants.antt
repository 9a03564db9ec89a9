use Rattle.surf_search.proofs.Common.{◌<◌, All, edge_count, AreAsks}
use Rattle.surf_search.proofs.caps.list_asks.Given as goal

abbrev pub invariant-loop-e : goal.invariant-loop-e
invariant-loop-e l = record {
  asks : AreAsks l.surface.signatures.now l.choice.kept l.most l.e l.asks.items;
  inside : All (λ a. a.edge < edge_count l.surface.mesh.now) l.asks.items;
}
