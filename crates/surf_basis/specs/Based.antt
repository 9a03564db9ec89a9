-- Loops of edges as loops of the base where they were found, and cycles by searches near their bases.
use Rattle.std.specs.Prelude.{ℕ, ◌≡◌, List, All, filter}
use Rattle.surf_graphs.specs.Cells.{Split, IsSplit}
use Rattle.surf_surfaces.specs.Mesh.{Mesh}
use Rattle.surf_surfaces.specs.Cells.{cells_of}
use Rattle.surf_surfaces.specs.Choice.{Trees, AreChosen, loops_at}
use Rattle.surf_finder.specs.Signing.{SignTables}
use Rattle.surf_choice.specs.declared.candidate.Signed.{Signed}
use Rattle.surf_basis.specs.Candidates.{loops_in, IsSigned}
use Rattle.surf_search.specs.Places.{has_length}
use Rattle.surf_finder.specs.Signing.{AreSignatures}

-- a loop that was found at a vertex, as one of this base
abbrev pub based_at : ℕ → Signed → Signed
based_at base s = record {
  candidate = record { length = s.candidate.length; base = base; edge = s.candidate.edge };
  from = s.from;
  signature = s.signature;
}

-- candidates are the loops that are chosen at a base and have one of some lengths, in order
pub record IsOffered (mesh : Mesh) (lengths : List ℕ) (trees : ℕ → Trees) (d : Split) (some : List ℕ) (base : ℕ)
    (loops : List Signed) : Type 0 where
  pub loops_are : loops_in mesh trees loops ≡ filter (λ c. has_length some c.size) (loops_at mesh lengths base (trees base))
  pub signed : All (IsSigned mesh lengths trees d) loops

-- so they are by all trees that show the choice
abbrev pub AreOffered : Mesh → List ℕ → SignTables → List ℕ → ℕ → List Signed → Type 0
AreOffered mesh lengths s some base loops = (trees : ℕ → Trees) → AreChosen mesh lengths trees → (d : Split) →
    IsSplit (cells_of mesh) d → AreSignatures mesh d s → IsOffered mesh lengths trees d some base loops

-- ---- walks
