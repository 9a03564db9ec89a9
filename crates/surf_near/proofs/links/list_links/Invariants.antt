use Rattle.surf_near.proofs.Common.{◌≡◌, map, take}
use Rattle.surf_near.proofs.Linking.{link_over}
use Rattle.surf_near.proofs.links.list_links.Given as goal

abbrev pub invariant-loop-e : goal.invariant-loop-e
invariant-loop-e l = l.row.items ≡ map (link_over l.mesh l.lengths l.v) (take l.e-index l.edges)
