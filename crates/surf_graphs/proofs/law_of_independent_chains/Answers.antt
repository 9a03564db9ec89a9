use Rattle.surf_graphs.proofs.Independence.{signatures_from_independent, independent_from_signatures}
use Rattle.surf_graphs.proofs.law_of_independent_chains.Goals as goal

pub returns : goal.returns
returns c s d cells ok xs even =
    (signatures_from_independent s d cells ok xs even, independent_from_signatures s d cells ok xs)
