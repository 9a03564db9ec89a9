-- What a valid certificate of loops shows, and what a fault rules out, of an answer.
use Rattle.surf_treecheck.proofs.Common.{◌≡◌, ◌≢◌, ℕ, List, sym, ◌∙◌, Mesh, IsSurface, ArePositive, total, IsLeastLoopSystem, IfOk, IfErr, Result, Ok, Err, LoopCert, IsValidLoops, certified_loops, loops_total}
use Rattle.surf_certcheck.proofs.Common.{IsLoopFault, CertFault, Memory}
use Rattle.surf_validity.proofs.LoopLaws.{valid_loops_are_least}
use Rattle.surf_certcheck.proofs.LoopFaults.{no_loop_fault}

pub least_where_ok : (mesh : Mesh) (lengths : List ℕ) (cert : LoopCert) → IsSurface mesh → ArePositive mesh lengths →
    (r : Result ℕ CertFault) →
    IfOk r (λ t. IsValidLoops mesh lengths cert × (t ≡ loops_total mesh lengths cert)) →
    IfOk r (λ t. IsLeastLoopSystem mesh lengths cert.tree.base (certified_loops mesh cert)
    × (t ≡ total mesh lengths (certified_loops mesh cert)))
least_where_ok mesh lengths cert surface positive (Ok t) is =
    let shown = valid_loops_are_least mesh lengths cert surface positive is.0 in
    (shown.0, is.1 ∙ sym shown.1)
least_where_ok mesh lengths cert surface positive (Err e) is = tt

pub none_where_err : (mesh : Mesh) (lengths : List ℕ) (cert : LoopCert) (r : Result ℕ CertFault) →
    IfErr r (IsLoopFault mesh lengths cert) → IfErr r (λ e. e ≢ Memory → IsValidLoops mesh lengths cert → ⊥)
none_where_err mesh lengths cert (Ok t) is = tt
none_where_err mesh lengths cert (Err e) is = λ ne valid. no_loop_fault mesh lengths cert valid e ne is
