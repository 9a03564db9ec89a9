use Rattle.surf_surfaces.proofs.Common.{◌+◌, ◌*◌, length, take, sum_by}
use Rattle.surf_soup.specs.Pairing.{AreMatedUpto}
use Rattle.surf_soup.proofs.mated.mate_row.Given as goal

abbrev pub invariant-loop-k : goal.invariant-loop-k
invariant-loop-k l =
    AreMatedUpto l.entries.mesh (sum_by length (take l.vertex l.entries.rows) + 2 * l.k) l.mates.mate.items l.mates.last
    l.mates.greater.items
