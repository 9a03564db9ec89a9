use Rattle.surf_classes.proofs.ChosenEvidence.{chosen_evidence_is_right, chosen_evidence_is_one, class_evidence_is_right, class_evidence_is_one}
use Rattle.surf_classes.proofs.law_of_choice.Goals as goal

pub returns : goal.returns
returns c = record {
  right = chosen_evidence_is_right;
  one = chosen_evidence_is_one;
  class_right = class_evidence_is_right;
  class_one = class_evidence_is_one;
}
