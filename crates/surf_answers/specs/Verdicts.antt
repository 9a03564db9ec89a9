-- Whether a certificate is valid for a surface and lengths.
use Rattle.std.specs.Prelude.{◌≡◌, ◌⊎◌, ℕ, List}
use Rattle.surf_surfaces.specs.Mesh.{Mesh}
use Rattle.surf_surfaces.specs.Homology.{total, IsLeastLoopSystem, IsLeastBasis}
use Rattle.surf_surfaces.specs.Places.{IsLeastLoopSystemInOrder, IsLeastBasisInOrder, MeasureShortest}
use Rattle.surf_records.specs.declared.cert.Cert.{Cert}
use Rattle.surf_records.specs.declared.cert.Cert.TheVariants.{Loops, Basis}
use Rattle.surf_certcheck.specs.BasisFaults.{IsBasisFault}
use Rattle.surf_certcheck.specs.LoopFaults.{IsLoopFault}
use Rattle.surf_treecheck.specs.declared.fault.CertFault.{CertFault}
use Rattle.surf_treecheck.specs.declared.fault.CertFault.TheVariants.{Memory}
use Rattle.surf_validity.specs.Rows.{LoopCert, BasisCert}
use Rattle.surf_validity.specs.Bases.{IsValidBasis}
use Rattle.surf_validity.specs.Valid.{IsValidLoops, certified_loops}
use Rattle.surf_texts.specs.CountLines.{count_line}
use Rattle.surf_texts.specs.Faults.{TellsFault}
use Rattle.surf_texts.specs.Outcome.{Outcome, answers}
use Rattle.surf_texts.specs.VerdictLines.{fault_line}

-- The certificate is valid: its loops are a least loop system at its base, in total and place by place.
pub record SaysLoops (mesh : Mesh) (lengths : List ℕ) (cert : LoopCert) (outcome : Outcome) : Type 0 where
  pub valid : IsValidLoops mesh lengths cert
  pub least : IsLeastLoopSystem mesh lengths cert.tree.base (certified_loops mesh cert)
  pub least_in_order : IsLeastLoopSystemInOrder mesh lengths cert.tree.base (certified_loops mesh cert)
  pub text : outcome ≡ answers 0 (count_line "valid loops " (total mesh lengths (certified_loops mesh cert)))

-- The certificate is valid: its cycles are a least basis, in total and place by place. The least of their lengths is
-- that of each shortest cycle that doesn't separate the surface.
pub record SaysBasis (mesh : Mesh) (lengths : List ℕ) (cert : BasisCert) (outcome : Outcome) : Type 0 where
  pub valid : IsValidBasis mesh lengths cert
  pub least : IsLeastBasis mesh lengths cert.cycles
  pub least_in_order : IsLeastBasisInOrder mesh lengths cert.cycles
  pub shortest : MeasureShortest mesh lengths cert.cycles
  pub text : outcome ≡ answers 0 (count_line "valid basis " (total mesh lengths cert.cycles))

-- It isn't, for its first fault.
abbrev pub SaysFault : (CertFault → Type 0) → Outcome → Type 0
SaysFault IsFault = TellsFault Memory IsFault (λ fault. answers 1 (fault_line fault))

abbrev pub JudgesCert : Mesh → List ℕ → Cert → Outcome → Type 0
JudgesCert mesh lengths (Loops cert) outcome =
    SaysLoops mesh lengths cert outcome ⊎ SaysFault (IsLoopFault mesh lengths cert) outcome
JudgesCert mesh lengths (Basis cert) outcome =
    SaysBasis mesh lengths cert outcome ⊎ SaysFault (IsBasisFault mesh lengths cert) outcome
