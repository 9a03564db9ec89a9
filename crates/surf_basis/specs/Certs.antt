-- The certificate of the basis that is chosen.
use Rattle.std.specs.Prelude.{ℕ, ◌≡◌, List, map}
use Rattle.std.specs.List.{range_with_len}
use Rattle.surf_surfaces.specs.Mesh.{Mesh}
use Rattle.surf_surfaces.specs.Surface.{ends}
use Rattle.surf_surfaces.specs.Choice.{Trees, AreChosen, Loop, IsChosenBasis}
use Rattle.surf_validity.specs.Rows.{TreeRows, DualRows, BasisCert}
use Rattle.surf_validity.specs.Chosen.{rows_for, dual_rows_of, basis_cert_of}
use Rattle.surf_cotree.specs.Tables.{cotree_of}
use Rattle.surf_loops.specs.Loops.{LoopTables, IsGreedy}

-- the rows are those of the trees of shortest walks from the first bases, whichever trees show the choice
abbrev pub AreTreeRowsBelow : Mesh → List ℕ → ℕ → List TreeRows → Type 0
AreTreeRowsBelow mesh lengths bases rows =
    (trees : ℕ → Trees) → AreChosen mesh lengths trees →
    rows ≡ map (λ x. rows_for mesh (trees x).tree) (range_with_len 0 bases)

-- those from all vertices
abbrev pub AreTreeRows : Mesh → List ℕ → List TreeRows → Type 0
AreTreeRows mesh lengths rows = AreTreeRowsBelow mesh lengths mesh.vertices rows

-- the rows and the pairs are of the tree of faces that is chosen at vertex 0 and of the edges that are left there
pub record AreFaceRows (mesh : Mesh) (lengths : List ℕ) (dual : DualRows) (left : List (ℕ × ℕ)) : Type 0 where
  pub tables : LoopTables
  pub greedy : IsGreedy mesh lengths 0 tables
  pub dual_is : dual ≡ dual_rows_of mesh (cotree_of tables.cotree)
  pub left_is : left ≡ map (ends mesh) tables.cotree.left

-- the certificate has the trees that are chosen at all vertices and the basis that is chosen from their loops
pub record IsTheCert (mesh : Mesh) (lengths : List ℕ) (cert : BasisCert) : Type 0 where
  pub trees : ℕ → Trees
  pub chosen : AreChosen mesh lengths trees
  pub basis : List Loop
  pub is_basis : IsChosenBasis mesh lengths trees basis
  pub cert_is : cert ≡ basis_cert_of mesh trees basis
