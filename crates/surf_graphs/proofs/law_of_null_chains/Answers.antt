use Rattle.surf_graphs.proofs.CellLaws.{null_signature, signature_null}
use Rattle.surf_graphs.proofs.law_of_null_chains.Goals as goal

pub returns : goal.returns
returns c s d cells ok chain even = (null_signature s d cells ok chain, signature_null s d cells ok chain even)
