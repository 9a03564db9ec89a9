-- What is written of the certificates of the choice is read again as these, and they are valid.
use Rattle.surf_cert.proofs.Common.{ℕ, List, Mesh, IsSurface, ArePositive, Trees, Loop, AreChosenAt, AreChosen, IsChosenBasis, RereadsLoops, RereadsBasis}
use Rattle.surf_validity.specs.Valid.{IsValidLoops}
use Rattle.surf_validity.specs.Bases.{IsValidBasis}
use Rattle.surf_validity.specs.Chosen.{chosen_cert, basis_cert_of}
use Rattle.surf_validity.proofs.ChosenLaws.{chosen_loops_are_valid}
use Rattle.surf_validity.proofs.ChosenBases.{chosen_bases_are_valid}
use Rattle.surf_cert.proofs.Reread.{loops_again, basis_again}
use Rattle.surf_records.proofs.ChosenFits.{AreNumbers, chosen_loops_fit, chosen_basis_fits}

pub chosen_loops_again : (mesh : Mesh) (lengths : List ℕ) (base : ℕ) (trees : Trees) → IsSurface mesh →
    ArePositive mesh lengths → AreNumbers mesh lengths → AreChosenAt mesh lengths base trees →
    RereadsLoops (chosen_cert mesh trees) × IsValidLoops mesh lengths (chosen_cert mesh trees)
chosen_loops_again mesh lengths base trees surface positive numbers chosen = (
  loops_again (chosen_cert mesh trees) (chosen_loops_fit mesh lengths surface positive numbers base trees chosen),
  chosen_loops_are_valid mesh lengths base trees surface positive chosen,
)

pub chosen_basis_again : (mesh : Mesh) (lengths : List ℕ) (trees : ℕ → Trees) (basis : List Loop) → IsSurface mesh →
    ArePositive mesh lengths → AreNumbers mesh lengths → AreChosen mesh lengths trees →
    IsChosenBasis mesh lengths trees basis →
    RereadsBasis (basis_cert_of mesh trees basis) × IsValidBasis mesh lengths (basis_cert_of mesh trees basis)
chosen_basis_again mesh lengths trees basis surface positive numbers chosen is_basis = (
  basis_again (basis_cert_of mesh trees basis)
      (chosen_basis_fits mesh lengths surface positive numbers trees basis chosen is_basis),
  chosen_bases_are_valid mesh lengths trees basis surface positive chosen is_basis,
)
