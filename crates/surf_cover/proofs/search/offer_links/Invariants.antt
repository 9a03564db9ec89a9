use Rattle.surf_cotree.proofs.Common.{map, link_at, at}
use Rattle.surf_cover.proofs.Common.{IsOfferedSome}
use Rattle.surf_cover.proofs.search.offer_links.Given as goal

-- the links before have been offered
abbrev pub invariant-loop-e : goal.invariant-loop-e
invariant-loop-e g l =
    IsOfferedSome (g.N.Network.graph l.network) (g.N.Network.weight l.network) (at l.distance) l.node l.d
    l.initial.heap l.heap (λ k. (link_at (map (g.N.Network.link l.network l.node) l.e-items) k).0)
    (λ k. (link_at (map (g.N.Network.link l.network l.node) l.e-items) k).1) l.e-index
