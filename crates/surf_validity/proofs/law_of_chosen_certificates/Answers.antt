use Rattle.surf_validity.proofs.ChosenLaws.{chosen_loops_are_valid}
use Rattle.surf_validity.proofs.ChosenBases.{chosen_bases_are_valid}
use Rattle.surf_validity.proofs.OneCert.{chosen_certs_are_one}
use Rattle.surf_validity.proofs.OneBasis.{chosen_basis_certs_are_one}
use Rattle.surf_validity.proofs.ChosenTotals.{chosen_loops_total, chosen_basis_total}
use Rattle.surf_validity.proofs.law_of_chosen_certificates.Goals as goal

pub returns : goal.returns
returns c = record {
  valid = chosen_loops_are_valid;
  one = chosen_certs_are_one;
  valid_basis = chosen_bases_are_valid;
  one_basis = chosen_basis_certs_are_one;
  loops_total = chosen_loops_total;
  basis_total = chosen_basis_total;
}
