use Rattle.surf_surfaces.proofs.Common.{length, take, sum_by}
use Rattle.surf_soup.specs.Pairing.{AreMatedUpto}
use Rattle.surf_soup.proofs.mated.mate_rows.Given as goal

abbrev pub invariant-loop-v : goal.invariant-loop-v
invariant-loop-v l =
    AreMatedUpto l.entries.mesh (sum_by length (take l.v l.entries.rows)) l.mates.mate.items l.mates.last l.mates.greater.items
