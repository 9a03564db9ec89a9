-- What a valid certificate shows.
use Rattle.std.specs.Prelude.{◌≡◌, ℕ, List, map, sum}
use Rattle.surf_surfaces.specs.Mesh.{Mesh}
use Rattle.surf_surfaces.specs.Surface.{IsSurface}
use Rattle.surf_surfaces.specs.Walk.{ArePositive}
use Rattle.surf_surfaces.specs.Homology.{total, IsLeastLoopSystem, IsLeastBasis}
use Rattle.surf_surfaces.specs.Choice.{Trees, Loop, AreChosenAt, AreChosen, loops_at, IsChosenBasis}
use Rattle.surf_validity.specs.Rows.{LoopCert, BasisCert}
use Rattle.surf_validity.specs.Chosen.{chosen_cert, basis_cert_of}
use Rattle.surf_validity.specs.Valid.{IsValidLoops, certified_loops, loops_total}
use Rattle.surf_validity.specs.Bases.{IsValidBasis, basis_total}

-- The loops of a valid loop certificate are a least loop system at its base, and its total is
-- theirs.
abbrev pub ValidLoopsAreLeast : Type 0
ValidLoopsAreLeast =
    (mesh : Mesh) (lengths : List ℕ) (cert : LoopCert) → IsSurface mesh → ArePositive mesh lengths →
    IsValidLoops mesh lengths cert →
    IsLeastLoopSystem mesh lengths cert.tree.base (certified_loops mesh cert)
    × (total mesh lengths (certified_loops mesh cert) ≡ loops_total mesh lengths cert)

-- The cycles of a valid basis certificate are a least basis.
abbrev pub ValidBasesAreLeast : Type 0
ValidBasesAreLeast =
    (mesh : Mesh) (lengths : List ℕ) (cert : BasisCert) → IsSurface mesh → ArePositive mesh lengths →
    IsValidBasis mesh lengths cert → IsLeastBasis mesh lengths cert.cycles

-- The certificate of the trees that are chosen at a base is valid.
abbrev pub ChosenLoopsAreValid : Type 0
ChosenLoopsAreValid =
    (mesh : Mesh) (lengths : List ℕ) (base : ℕ) (trees : Trees) → IsSurface mesh → ArePositive mesh lengths →
    AreChosenAt mesh lengths base trees → IsValidLoops mesh lengths (chosen_cert mesh trees)

-- The loop certificate of the choice is one, whichever trees show the choice.
abbrev pub ChosenCertsAreOne : Type 0
ChosenCertsAreOne =
    (mesh : Mesh) (lengths : List ℕ) (base : ℕ) (a b : Trees) → IsSurface mesh → ArePositive mesh lengths →
    AreChosenAt mesh lengths base a → AreChosenAt mesh lengths base b → chosen_cert mesh a ≡ chosen_cert mesh b

-- The certificate of the basis that is chosen is valid.
abbrev pub ChosenBasesAreValid : Type 0
ChosenBasesAreValid =
    (mesh : Mesh) (lengths : List ℕ) (trees : ℕ → Trees) (basis : List Loop) → IsSurface mesh →
    ArePositive mesh lengths → AreChosen mesh lengths trees → IsChosenBasis mesh lengths trees basis →
    IsValidBasis mesh lengths (basis_cert_of mesh trees basis)

-- The basis certificate of the choice is one, whichever trees show the choice.
abbrev pub ChosenBasisCertsAreOne : Type 0
ChosenBasisCertsAreOne =
    (mesh : Mesh) (lengths : List ℕ) (a b : ℕ → Trees) (basis other : List Loop) → IsSurface mesh →
    ArePositive mesh lengths → AreChosen mesh lengths a → AreChosen mesh lengths b →
    IsChosenBasis mesh lengths a basis → IsChosenBasis mesh lengths b other →
    basis_cert_of mesh a basis ≡ basis_cert_of mesh b other

-- The total of the certificate of loops is that of the loops that are chosen.
abbrev pub ChosenLoopsTotal : Type 0
ChosenLoopsTotal =
    (mesh : Mesh) (lengths : List ℕ) (base : ℕ) (trees : Trees) → IsSurface mesh → ArePositive mesh lengths →
    AreChosenAt mesh lengths base trees →
    loops_total mesh lengths (chosen_cert mesh trees) ≡ sum (map (λ c. c.size) (loops_at mesh lengths base trees))

-- The total of the certificate of the basis is that of the basis.
abbrev pub ChosenBasisTotal : Type 0
ChosenBasisTotal =
    (mesh : Mesh) (lengths : List ℕ) (trees : ℕ → Trees) (basis : List Loop) → IsSurface mesh →
    ArePositive mesh lengths → AreChosen mesh lengths trees → IsChosenBasis mesh lengths trees basis →
    basis_total mesh lengths (basis_cert_of mesh trees basis) ≡ sum (map (λ c. c.size) basis)
