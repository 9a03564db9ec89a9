-- What holds of the shortest walks of a class, and of walks by their signatures.
use Rattle.std.specs.Prelude.{◌≡◌, ℕ, ◌<◌, ◌≤◌, ◌↔◌, List, [], ◌∷◌, ◌++◌, reverse, bit_xor}
use Rattle.surf_graphs.specs.Cells.{Split, IsSplit}
use Rattle.surf_surfaces.specs.Mesh.{Mesh}
use Rattle.surf_surfaces.specs.Surface.{IsSurface}
use Rattle.surf_surfaces.specs.Walk.{IsClosed, ArePositive, walk_length}
use Rattle.surf_surfaces.specs.Homology.{IsNull}
use Rattle.surf_surfaces.specs.Cells.{cells_of}
use Rattle.surf_surfaces.specs.Signature.{walk_signature}
use Rattle.surf_classes.specs.Shortest.{AreHomologous, IsChosenWalk}
use Rattle.surf_classes.specs.Cover.{IsSet, IsSignedDistance, AreSignedDistances, IsCertified, IsLeastTight}
use Rattle.surf_classes.specs.Cover.{IsReadBack, IsReadTo, IsLeastBase, step_signature}

-- Closed walks are homologous exactly where their signatures are equal.
abbrev pub HomologousBySignature : Type 0
HomologousBySignature = (mesh : Mesh) (d : Split) → IsSurface mesh → IsSplit (cells_of mesh) d →
    (walk other : List ℕ) → IsClosed mesh walk → IsClosed mesh other →
    AreHomologous mesh walk other ↔ (walk_signature mesh d walk ≡ walk_signature mesh d other)

-- There is one chosen walk in the class of each closed walk.
abbrev pub ChosenWalkIsOne : Type 0
ChosenWalkIsOne = (mesh : Mesh) (lengths walk : List ℕ) → IsSurface mesh → ArePositive mesh lengths →
    IsClosed mesh walk →
    (chosen : List ℕ) × IsChosenWalk mesh lengths walk chosen
    × ((other : List ℕ) → IsChosenWalk mesh lengths walk other → other ≡ chosen)

-- In the class of a null walk the chosen walk is vertex 0 alone.
abbrev pub NullChoiceIsVertex : Type 0
NullChoiceIsVertex = (mesh : Mesh) (lengths walk : List ℕ) → IsSurface mesh → ArePositive mesh lengths →
    IsClosed mesh walk → IsNull mesh walk → IsChosenWalk mesh lengths walk (0 ∷ [])

-- What is read back from the least base is the chosen walk.
abbrev pub ReadBackIsChosen : Type 0
ReadBackIsChosen = (mesh : Mesh) (lengths : List ℕ) (d : Split) (walk : List ℕ) → IsSurface mesh →
    ArePositive mesh lengths → IsSplit (cells_of mesh) d → IsClosed mesh walk →
    (round : ℕ → ℕ) (x : ℕ) (table : ℕ → ℕ → ℕ) (before : List ℕ) →
    IsLeastBase mesh lengths d (walk_signature mesh d walk) round x →
    AreSignedDistances mesh lengths d x table →
    IsReadBack mesh lengths d x table x (walk_signature mesh d walk) before →
    IsChosenWalk mesh lengths walk (reverse (x ∷ before))
    × (walk_length mesh lengths (reverse (x ∷ before)) ≡ round x)

-- With a certified table at each vertex, what is read back from the least base is the chosen walk.
abbrev pub CertifiedTablesChoose : Type 0
CertifiedTablesChoose = (mesh : Mesh) (lengths : List ℕ) (d : Split) (walk : List ℕ) → IsSurface mesh →
    ArePositive mesh lengths → IsSplit (cells_of mesh) d → IsClosed mesh walk →
    (tables : ℕ → ℕ → ℕ → ℕ) → ((y : ℕ) → y < mesh.vertices → IsCertified mesh lengths d y (tables y)) →
    (x : ℕ) → x < mesh.vertices →
    ((y : ℕ) → y < mesh.vertices →
    tables x x (walk_signature mesh d walk) ≤ tables y y (walk_signature mesh d walk)) →
    ((y : ℕ) → y < mesh.vertices →
    tables y y (walk_signature mesh d walk) ≡ tables x x (walk_signature mesh d walk) → x ≤ y) →
    (before : List ℕ) → IsReadBack mesh lengths d x (tables x) x (walk_signature mesh d walk) before →
    IsChosenWalk mesh lengths walk (reverse (x ∷ before))
    × (walk_length mesh lengths (reverse (x ∷ before)) ≡ tables x x (walk_signature mesh d walk))

-- Off a certified table a walk can be read back.
abbrev pub TablesAreReadBack : Type 0
TablesAreReadBack = (mesh : Mesh) (lengths : List ℕ) (d : Split) (x : ℕ) (table : ℕ → ℕ → ℕ) → IsSurface mesh →
    ArePositive mesh lengths → IsCertified mesh lengths d x table → (v set : ℕ) → v < mesh.vertices → IsSet d set →
    (before : List ℕ) × IsReadBack mesh lengths d x table v set before

-- the vertices are read off one after the other
pub record ReadsOn (mesh : Mesh) (lengths : List ℕ) (d : Split) (table : ℕ → ℕ → ℕ) : Type 0 where
  pub begins : (v set : ℕ) → IsReadTo mesh lengths d table v set [] v set
  pub goes_on : (v set : ℕ) (before : List ℕ) (u rest w : ℕ) → IsReadTo mesh lengths d table v set before u rest →
      IsLeastTight mesh lengths d table w u rest →
      IsReadTo mesh lengths d table v set (before ++ w ∷ []) w (bit_xor rest (step_signature mesh d w u))
  pub ends : (v set : ℕ) (before : List ℕ) (x : ℕ) → IsReadTo mesh lengths d table v set before x 0 →
      IsReadBack mesh lengths d x table v set before

-- Off a certified table a walk is read back vertex by vertex.
abbrev pub TablesReadOn : Type 0
TablesReadOn = (mesh : Mesh) (lengths : List ℕ) (d : Split) (table : ℕ → ℕ → ℕ) → ReadsOn mesh lengths d table

-- A certified table has the distances with signatures.
abbrev pub CertifiedTablesAreDistances : Type 0
CertifiedTablesAreDistances = (mesh : Mesh) (lengths : List ℕ) (d : Split) (x : ℕ) (table : ℕ → ℕ → ℕ) →
    IsSurface mesh → ArePositive mesh lengths → x < mesh.vertices → IsCertified mesh lengths d x table →
    AreSignedDistances mesh lengths d x table

-- Each vertex is reached with each set.
abbrev pub SignedDistancesExist : Type 0
SignedDistancesExist = (mesh : Mesh) (lengths : List ℕ) (d : Split) → IsSurface mesh → ArePositive mesh lengths →
    IsSplit (cells_of mesh) d → (x v set : ℕ) → x < mesh.vertices → v < mesh.vertices → IsSet d set →
    (distance : ℕ) × IsSignedDistance mesh lengths d x v set distance
