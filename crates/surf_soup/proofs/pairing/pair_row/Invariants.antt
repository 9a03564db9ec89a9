use Rattle.surf_surfaces.proofs.Common.{◌+◌, ◌*◌, length, take, sum_by}
use Rattle.surf_soup.specs.Pairing.{ArePairedUpto}
use Rattle.surf_soup.proofs.pairing.pair_row.Given as goal

abbrev pub invariant-loop-k : goal.invariant-loop-k
invariant-loop-k l =
    ArePairedUpto l.entries.mesh (sum_by length (take l.vertex l.entries.rows) + 2 * l.k) l.pairs.edges.items
    l.pairs.first.items l.pairs.mate.items l.pairs.edge_of.items
