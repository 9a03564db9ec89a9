use Rattle.surf_tori.proofs.ChainLaws.{chains_are_surfaces, chains_have_characteristic, chains_have_counts}
use Rattle.surf_tori.proofs.law_of_chains.Goals as goal

pub returns : goal.returns
returns c = record {
  surfaces = chains_are_surfaces;
  characteristic = chains_have_characteristic;
  counts = chains_have_counts;
}
