-- Evidence of the class of a walk, or of how those of two walks differ, as an answer.
use Rattle.std.specs.Prelude.{ℕ, List, Option, Some, None, codes}
use Rattle.surf_class.specs.Texts.{evidence_text}
use Rattle.surf_classes.specs.Evidence.{Evidence, IsEvidence, IsClassEvidence, joint_parity}
use Rattle.surf_surfaces.specs.Mesh.{Mesh}
use Rattle.surf_texts.specs.Outcome.{Outcome}
use Rattle.surf_answers.specs.Says.{Says}

-- the words of evidence of one walk, and of two: for a set of faces, and for a set of edges
abbrev pub evidence_words : Option (List ℕ) → List ℕ × List ℕ
evidence_words None = (codes "null", codes "odd")
evidence_words (Some other) = (codes "same", codes "different")

-- The evidence that is chosen for the class of a walk, or for how those of two walks differ. It is right.
pub record GivesClass (mesh : Mesh) (walk : List ℕ) (other : Option (List ℕ)) (outcome : Outcome) : Type 0 where
  pub evidence : Evidence
  pub chosen : IsClassEvidence mesh (joint_parity mesh walk other) evidence
  pub right : IsEvidence mesh (joint_parity mesh walk other) evidence
  pub says : Says (evidence_text (evidence_words other).0 (evidence_words other).1 evidence) outcome
