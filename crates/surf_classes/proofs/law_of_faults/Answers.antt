use Rattle.surf_classes.proofs.FirstFaults.{faults_are_told}
use Rattle.surf_classes.proofs.law_of_faults.Goals as goal

pub returns : goal.returns
returns c = faults_are_told
