-- The walks of the basis that is chosen are in the order of length.
use Rattle.surf_surfaces.proofs.Common.{◌≡◌, ℕ, List, subst, Mesh, IsSurface, ArePositive, Loop, walks, Result, Ok, Err, IfOk}
use Rattle.surf_surfaces.proofs.bases.ChoiceExists.{choice_exists}
use Rattle.surf_basis.specs.Cycles.{IsTheBasis}
use Rattle.surf_sheets.specs.Rows.{SheetCert}
use Rattle.surf_sheets.specs.Sheets.{AreByLength}
use Rattle.surf_sheets.proofs.PlacedCocycles.{chosen_bases_are_placed}
use Rattle.surf_sheets.proofs.PlacedWalks.{placed_walks_are_shown}
use Rattle.surf_sheetfind.specs.Certs.{IsTheSheetCert}

module _ (mesh : Mesh) (lengths : List ℕ) (surface : IsSurface mesh) (positive : ArePositive mesh lengths)
    (basis : List Loop) (is : IsTheBasis mesh lengths basis) where
  pub basis_by_length : AreByLength mesh lengths (walks basis)
  basis_by_length =
      let (trees, chosen) = choice_exists mesh lengths surface positive in
      let (cocycles, sheets, placed) =
      chosen_bases_are_placed mesh lengths trees basis surface positive chosen (is trees chosen) in
      (placed_walks_are_shown mesh lengths (walks basis) cocycles sheets placed).by_length

  -- a certificate with these walks
  pub the_cert : (cert : SheetCert) → cert.cycles ≡ walks basis → IsTheSheetCert mesh lengths cert
  the_cert cert same =
      let (trees, chosen) = choice_exists mesh lengths surface positive in
      record { trees = trees; chosen = chosen; basis = basis; is_basis = is trees chosen; cycles_are = same }

  pub cert_where_ok : {E : Type 0} (r : Result SheetCert E) (cycles : List (List ℕ)) → cycles ≡ walks basis →
      IfOk r (λ cert. cert.cycles ≡ cycles) → IfOk r (IsTheSheetCert mesh lengths)
  cert_where_ok (Ok cert) cycles same is_cycles = the_cert cert (subst (λ ws. cert.cycles ≡ ws) same is_cycles)
  cert_where_ok (Err e) cycles same is_cycles = tt
