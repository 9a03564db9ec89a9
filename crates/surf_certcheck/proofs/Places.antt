-- A certificate that is found valid is least place by place.
use Rattle.surf_treecheck.proofs.Common.{◌≡◌, ℕ, List, Mesh, IsSurface, ArePositive, IfOk, Result, Ok, Err, LoopCert, BasisCert, IsValidLoops, certified_loops, loops_total, IsValidBasis, basis_total}
use Rattle.surf_certcheck.proofs.Common.{CertFault}
use Rattle.surf_surfaces.specs.Places.{IsLeastLoopSystemInOrder, IsLeastBasisInOrder, MeasureShortest}
use Rattle.surf_validity.proofs.PlaceLaws.{valid_loops_are_least_in_order, valid_bases_are_least_in_order, valid_bases_measure_shortest}

pub loops_in_order : (mesh : Mesh) (lengths : List ℕ) (cert : LoopCert) → IsSurface mesh → ArePositive mesh lengths →
    (r : Result ℕ CertFault) → IfOk r (λ t. IsValidLoops mesh lengths cert × (t ≡ loops_total mesh lengths cert)) →
    IfOk r (λ t. IsLeastLoopSystemInOrder mesh lengths cert.tree.base (certified_loops mesh cert))
loops_in_order mesh lengths cert surface positive (Ok t) is =
    valid_loops_are_least_in_order mesh lengths cert surface positive is.0
loops_in_order mesh lengths cert surface positive (Err e) is = tt

pub basis_in_order : (mesh : Mesh) (lengths : List ℕ) (cert : BasisCert) → IsSurface mesh → ArePositive mesh lengths →
    (r : Result ℕ CertFault) → IfOk r (λ t. IsValidBasis mesh lengths cert × (t ≡ basis_total mesh lengths cert)) →
    IfOk r (λ t. IsLeastBasisInOrder mesh lengths cert.cycles × MeasureShortest mesh lengths cert.cycles)
basis_in_order mesh lengths cert surface positive (Ok t) is = (
  valid_bases_are_least_in_order mesh lengths cert surface positive is.0,
  valid_bases_measure_shortest mesh lengths cert surface positive is.0,
)
basis_in_order mesh lengths cert surface positive (Err e) is = tt
