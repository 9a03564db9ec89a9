use Rattle.surf_soup.proofs.PairFaults.{pair_fault_only}
use Rattle.surf_soup.proofs.pairs.pair_edges.Goals as goal

pub returns-in-Err-clause-excludes : goal.returns-in-Err-clause-excludes
returns-in-Err-clause-excludes c =
    λ ne some two. ne (pair_fault_only c.args.soup.now c.in-Err.fault c.in-Err.ensures.fault some two)
