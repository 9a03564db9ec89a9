-- The certificate by sheets of the basis that is chosen.
use Rattle.std.specs.Prelude.{◌≡◌, ℕ, List}
use Rattle.surf_surfaces.specs.Mesh.{Mesh}
use Rattle.surf_surfaces.specs.Choice.{Trees, AreChosen, Loop, IsChosenBasis, walks}
use Rattle.surf_sheets.specs.Rows.{SheetCert}

-- its cycles are those of the basis that is chosen, in its order
pub record IsTheSheetCert (mesh : Mesh) (lengths : List ℕ) (cert : SheetCert) : Type 0 where
  pub trees : ℕ → Trees
  pub chosen : AreChosen mesh lengths trees
  pub basis : List Loop
  pub is_basis : IsChosenBasis mesh lengths trees basis
  pub cycles_are : cert.cycles ≡ walks basis
