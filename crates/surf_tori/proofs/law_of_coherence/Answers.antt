use Rattle.surf_tori.proofs.CoherentLaws.{coherent_edges_have_two_faces}
use Rattle.surf_tori.proofs.law_of_coherence.Goals as goal

pub returns : goal.returns
returns c = record { two_faces = coherent_edges_have_two_faces }
