use Rattle.surf_classes.proofs.OneKind.{evidence_is_of_one_kind}
use Rattle.surf_classes.proofs.NullChoice.{boundaries_have_evidence, null_choice_is_one, null_choice_is_filtered, null_evidence_grows}
use Rattle.surf_classes.proofs.law_of_evidence.Goals as goal

pub returns : goal.returns
returns c = record {
  one_kind = evidence_is_of_one_kind;
  boundaries = boundaries_have_evidence;
  null_choice = null_choice_is_one;
  grows = null_evidence_grows;
  filtered = null_choice_is_filtered;
}
