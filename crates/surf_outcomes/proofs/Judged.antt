-- Certificates, evidence and meshes are judged in one way or the other.
use Rattle.surf_surfaces.proofs.Common.{◌≢◌, ℕ, List, refl, subst, inl, inr, Ok, Err, Mesh, IsMesh, IsSurface, ArePositive, parity}
use Rattle.surf_classes.specs.Evidence.{Evidence, IsRising}
use Rattle.surf_classes.specs.Faults.{Fault, no_face, no_boundary, no_pair, odd_face, even_number, IsFirstFault}
use Rattle.surf_classes.proofs.FirstFaults.{faults_are_told}
use Rattle.surf_class.specs.Faults.{IsClassFault}
use Rattle.surf_class.specs.declared.fault.ClassFault.{ClassFault}
use Rattle.surf_class.specs.declared.fault.ClassFault.TheVariants.{Face, Boundary, Pair, OddFace, Even, Memory}
use Rattle.surf_records.specs.declared.cert.Cert.{Cert}
use Rattle.surf_records.specs.declared.cert.Cert.TheVariants.{Loops, Basis}
use Rattle.surf_validity.proofs.BasisLaws.{valid_bases_are_least}
use Rattle.surf_validity.proofs.LoopLaws.{valid_loops_are_least}
use Rattle.surf_validity.proofs.PlaceLaws.{valid_loops_are_least_in_order, valid_bases_are_least_in_order, valid_bases_measure_shortest}
use Rattle.surf_texts.specs.Outcome.{Outcome}
use Rattle.surf_texts.specs.Faults.{TellsFault}
use Rattle.surf_answers.specs.Confirming.{JudgesEvidence, SaysWrong}
use Rattle.surf_answers.specs.Discs.{JudgesDisc, SaysNoDisc}
use Rattle.surf_answers.specs.Verdicts.{JudgesCert, SaysLoops, SaysBasis}
use Rattle.surf_answers.specs.Reading.{IsSurfaceOf}
use Rattle.surf_decided.proofs.Certificates.{loops_or_fault, basis_or_fault}
use Rattle.surf_decided.specs.Told.{HasDiscFault}
use Rattle.surf_decided.proofs.Discs.{disc_or_fault}
use Rattle.surf_decided.proofs.Surfaces.{surface_or_fault}
use Rattle.surf_outcomes.proofs.Ends.{HasOutcome, HasResult}

-- a fault is told
pub told : {F : Type 0} {memory : F} {IsFault : F → Type 0} {line : F → Outcome} (fault : F) → fault ≢ memory →
    IsFault fault → TellsFault memory IsFault line (line fault)
told fault other is = record { fault = fault; isnt_memory = other; is_fault = is; is = refl }

-- ---- meshes

pub surface_decided : (mesh : Mesh) → IsMesh mesh → HasResult (IsSurfaceOf mesh)
surface_decided mesh is_mesh = elim (surface_or_fault mesh is_mesh) [
  | inl surface ↦ (Ok mesh, (refl, surface))
  | inr fault ↦ (Err _, told fault.0 fault.1 fault.2)
]

pub no_disc : (mesh : Mesh) → HasDiscFault mesh → HasOutcome (SaysNoDisc mesh)
no_disc mesh fault = (_, told fault.0 fault.1 fault.2)

pub judges_disc : (mesh : Mesh) → IsMesh mesh → HasOutcome (JudgesDisc mesh)
judges_disc mesh is_mesh = elim (disc_or_fault mesh is_mesh) [
  | inl disc ↦ (_, inl (disc, refl))
  | inr fault ↦ let none = no_disc mesh fault in (none.0, inr none.1)
]

-- ---- certificates

module _ (mesh : Mesh) (lengths : List ℕ) (surface : IsSurface mesh) (positive : ArePositive mesh lengths) where
  pub judges_cert : (cert : Cert) → HasOutcome (JudgesCert mesh lengths cert)
  judges_cert (Loops cert) = elim (loops_or_fault mesh lengths cert) [
    | inl valid ↦
        let says : SaysLoops mesh lengths cert _ =
        record {
          valid = valid;
          least = (valid_loops_are_least mesh lengths cert surface positive valid).0;
          least_in_order = valid_loops_are_least_in_order mesh lengths cert surface positive valid;
          text = refl;
        } in
        (_, inl says)
    | inr fault ↦ (_, inr (told fault.0 fault.1 fault.2))
  ]
  judges_cert (Basis cert) = elim (basis_or_fault mesh lengths cert) [
    | inl valid ↦
        let says : SaysBasis mesh lengths cert _ =
        record {
          valid = valid;
          least = valid_bases_are_least mesh lengths cert surface positive valid;
          least_in_order = valid_bases_are_least_in_order mesh lengths cert surface positive valid;
          shortest = valid_bases_measure_shortest mesh lengths cert surface positive valid;
          text = refl;
        } in
        (_, inl says)
    | inr fault ↦ (_, inr (told fault.0 fault.1 fault.2))
  ]

-- ---- evidence

-- a first fault as the code has it
abbrev class_fault : Fault → ClassFault
class_fault (no_face f) = Face f
class_fault (no_boundary u v) = Boundary u v
class_fault (no_pair u v) = Pair u v
class_fault (odd_face f) = OddFace f
class_fault even_number = Even

abbrev IsTold : ClassFault → Type 0
IsTold Memory = ⊥
IsTold fault = Unit {0}

isnt_memory : (fault : Fault) → class_fault fault ≢ Memory
isnt_memory (no_face f) = λ same. subst IsTold same tt
isnt_memory (no_boundary u v) = λ same. subst IsTold same tt
isnt_memory (no_pair u v) = λ same. subst IsTold same tt
isnt_memory (odd_face f) = λ same. subst IsTold same tt
isnt_memory even_number = λ same. subst IsTold same tt

is_class_fault : (mesh : Mesh) (walk : List ℕ) (evidence : Evidence) (fault : Fault) →
    IsFirstFault mesh (parity mesh walk) evidence fault →
    IsClassFault mesh (parity mesh walk) evidence (class_fault fault)
is_class_fault mesh walk evidence (no_face f) is = is
is_class_fault mesh walk evidence (no_boundary u v) is = is
is_class_fault mesh walk evidence (no_pair u v) is = is
is_class_fault mesh walk evidence (odd_face f) is = is
is_class_fault mesh walk evidence even_number is = is

pub judges_evidence : (mesh : Mesh) (walk : List ℕ) (evidence : Evidence) → IsRising evidence →
    HasOutcome (JudgesEvidence mesh walk evidence)
judges_evidence mesh walk evidence rises =
    let tell = faults_are_told mesh (parity mesh walk) evidence rises in
    elim tell.some [
      | inl right ↦ (_, inl (right, refl))
      | inr wrong ↦
          let fault : Fault = wrong.0 in
          let says : SaysWrong mesh walk evidence _ =
          record {
            fault = class_fault fault;
            isnt_memory = isnt_memory fault;
            is_fault = is_class_fault mesh walk evidence fault wrong.1;
            excludes = λ right. tell.not_both right fault wrong.1;
            text = refl;
          } in
          (_, inr says)
    ]
