use Rattle.surf_surfaces.proofs.Common.{length, take, sum_by}
use Rattle.surf_soup.specs.Pairing.{ArePairedUpto}
use Rattle.surf_soup.proofs.pairing.pair_rows.Given as goal

abbrev pub invariant-loop-v : goal.invariant-loop-v
invariant-loop-v l =
    ArePairedUpto l.entries.mesh (sum_by length (take l.v l.entries.rows)) l.pairs.edges.items l.pairs.first.items
    l.pairs.mate.items l.pairs.edge_of.items
