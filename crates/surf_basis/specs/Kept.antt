-- What is kept base by base of those loops whose places are known to be those of the basis.
use Rattle.std.specs.Prelude.{ℕ, ◌≡◌, ◌<◌, ◌≤◌, List, All, filter, length, slice_index, Contains}
use Rattle.surf_z2.specs.Greedy.{greedy}
use Rattle.surf_z2.specs.Space.{numbers, is_nothing}
use Rattle.surf_graphs.specs.Cells.{Split, IsSplit}
use Rattle.surf_surfaces.specs.Mesh.{Mesh}
use Rattle.surf_surfaces.specs.Cells.{cells_of}
use Rattle.surf_surfaces.specs.Class.{class_of}
use Rattle.surf_surfaces.specs.Choice.{Trees, AreChosen, Loop, loops_below}
use Rattle.surf_surfaces.specs.FewBases.{place_of_loop}
use Rattle.surf_finder.specs.Signing.{SignTables}
use Rattle.surf_choice.specs.declared.candidate.Signed.{Signed}
use Rattle.surf_basis.specs.Candidates.{IsSigned, loops_in}
use Rattle.surf_search.specs.Places.{is_placed}
use Rattle.surf_finder.specs.Signing.{AreSignatures}

-- of the loops at the first vertices, in order, those that have the length and the base of one of some candidates
abbrev pub placed_below : Mesh → List ℕ → (ℕ → Trees) → List Signed → ℕ → List Loop
placed_below mesh lengths trees found below =
    filter (λ c. is_placed found (place_of_loop c)) (loops_below mesh lengths trees below)

-- the first of some bases, and no others, are among the first vertices, and of the loops there that have the length and
-- the base of one of those found, each one is kept that is independent of those before it
pub record AreKept (mesh : Mesh) (lengths : List ℕ) (trees : ℕ → Trees) (d : Split) (found : List Signed)
    (bases : List ℕ) (done : ℕ) (kept : List Signed) : Type 0 where
  pub below : ℕ
  pub below_in : below ≤ mesh.vertices
  pub past : (k : ℕ) → k < done → slice_index bases k < below
  pub ahead : (k : ℕ) → done ≤ k → k < length bases → below ≤ slice_index bases k
  pub choice : loops_in mesh trees kept
      ≡ greedy numbers is_nothing (λ (c : Loop). class_of mesh d c.walk) (placed_below mesh lengths trees found below)
  pub signed : All (IsSigned mesh lengths trees d) kept

-- so it is by all trees that show the choice
abbrev pub AreKeptOver : Mesh → List ℕ → SignTables → List Signed → List ℕ → ℕ → List Signed → Type 0
AreKeptOver mesh lengths s found bases done kept = (trees : ℕ → Trees) → AreChosen mesh lengths trees → (d : Split) →
    IsSplit (cells_of mesh) d → AreSignatures mesh d s → AreKept mesh lengths trees d found bases done kept

-- a list has the base of each candidate
abbrev pub HasBases : List ℕ → List Signed → Type 0
HasBases list kept = All (λ s. Contains list s.candidate.base) kept
