-- Whether evidence is right for the class of a walk.
use Rattle.std.specs.Prelude.{◌≡◌, ◌≢◌, ◌⊎◌, ℕ, List}
use Rattle.surf_class.specs.Faults.{IsClassFault}
use Rattle.surf_class.specs.declared.fault.ClassFault.{ClassFault}
use Rattle.surf_class.specs.declared.fault.ClassFault.TheVariants.{Memory}
use Rattle.surf_classes.specs.Evidence.{Evidence, IsEvidence}
use Rattle.surf_surfaces.specs.Mesh.{Mesh}
use Rattle.surf_surfaces.specs.Walk.{parity}
use Rattle.surf_texts.specs.Outcome.{Outcome, answers}
use Rattle.surf_texts.specs.EvidenceLines.{right_line, wrong_line}

-- The evidence isn't right, for its first fault.
pub record SaysWrong (mesh : Mesh) (walk : List ℕ) (evidence : Evidence) (outcome : Outcome) : Type 0 where
  pub fault : ClassFault
  pub isnt_memory : fault ≢ Memory
  pub is_fault : IsClassFault mesh (parity mesh walk) evidence fault
  pub excludes : IsEvidence mesh (parity mesh walk) evidence → ⊥
  pub text : outcome ≡ answers 1 (wrong_line fault)

-- The evidence is right; or it isn't.
abbrev pub JudgesEvidence : Mesh → List ℕ → Evidence → Outcome → Type 0
JudgesEvidence mesh walk evidence outcome =
    (IsEvidence mesh (parity mesh walk) evidence × (outcome ≡ answers 0 (right_line evidence)))
    ⊎ SaysWrong mesh walk evidence outcome
