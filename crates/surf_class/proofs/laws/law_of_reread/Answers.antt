use Rattle.surf_class.proofs.Rereading.{evidence_again}
use Rattle.surf_class.proofs.laws.law_of_reread.Goals as goal

pub returns : goal.returns
returns c = record { reread = evidence_again }
