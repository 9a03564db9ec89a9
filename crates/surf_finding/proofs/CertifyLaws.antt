-- Certificates of the choice as answers.
use Rattle.surf_answers.proofs.Common.{◌≡◌, ℕ, List, length, Result, Ok, Err, subst, Mesh, IsSurface, edge_count}
use Rattle.surf_answers.proofs.Common.{IfOk, loop_text, basis_text, AreLengths, lengths_positive, chosen_cert}
use Rattle.surf_answers.proofs.Common.{IsTheLoopCert, GivesLoopCert, GivesBasisCert, Outcome, Says}
use Rattle.surf_loops.specs.Loops.{LoopTables, IsGreedy, trees_of}
use Rattle.surf_basis.specs.Certs.{IsTheCert}
use Rattle.surf_surfaces.proofs.bases.BasisLaws.{basis_is_least}
use Rattle.surf_validity.specs.Rows.{LoopCert, BasisCert}
use Rattle.surf_validity.specs.Bases.{IsValidBasis}
use Rattle.surf_validity.specs.Valid.{IsValidLoops}

-- the certificate of the loops that a desk has, where a call gives one
pub is_the_loop_cert : {E : Type 0} (mesh : Mesh) (lengths : List ℕ) (base : ℕ) (t : LoopTables) (result : Result LoopCert E) →
    IsGreedy mesh lengths base t → IfOk result (λ cert. cert ≡ chosen_cert mesh (trees_of t)) → IfOk result (IsValidLoops mesh lengths) →
    IfOk result (IsTheLoopCert mesh lengths base)
is_the_loop_cert mesh lengths base t (Ok cert) greedy is valid = record {
  found = record { trees = trees_of t; chosen = greedy.chosen; least = greedy.least };
  cert_is = is;
  valid = valid;
}
is_the_loop_cert mesh lengths base t (Err fault) greedy is valid = tt

pub gives_loop_cert : (mesh : Mesh) (lengths : List ℕ) (base : ℕ) (cert : LoopCert) → IsTheLoopCert mesh lengths base cert → (o : Outcome) →
    Says (loop_text cert) o → GivesLoopCert mesh lengths base o
gives_loop_cert mesh lengths base cert is o says = record {
  found = is.found;
  valid = subst (λ (x : LoopCert). IsValidLoops mesh lengths x) is.cert_is is.valid;
  says = subst (λ (x : LoopCert). Says (loop_text x) o) is.cert_is says;
}

pub gives_basis_cert : (mesh : Mesh) (lengths : List ℕ) (cert : BasisCert) → IsSurface mesh → AreLengths lengths →
    length lengths ≡ edge_count mesh → IsTheCert mesh lengths cert → IsValidBasis mesh lengths cert → (o : Outcome) →
    Says (basis_text cert) o → GivesBasisCert mesh lengths o
gives_basis_cert mesh lengths cert surface are sized is valid o says = record {
  found = record {
    trees = is.trees;
    chosen = is.chosen;
    basis = is.basis;
    is_basis = is.is_basis;
    least = basis_is_least mesh lengths is.trees is.basis surface (lengths_positive mesh lengths are sized) is.chosen is.is_basis;
  };
  valid = subst (λ (x : BasisCert). IsValidBasis mesh lengths x) is.cert_is valid;
  says = subst (λ (x : BasisCert). Says (basis_text x) o) is.cert_is says;
}
