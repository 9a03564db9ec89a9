-- What a valid certificate shows place by place, and of the shortest walks.
use Rattle.std.specs.Prelude.{ℕ, ◌+◌, ◌<◌, List}
use Rattle.surf_surfaces.specs.Mesh.{Mesh}
use Rattle.surf_surfaces.specs.Surface.{face_count, edge_count, IsSurface}
use Rattle.surf_surfaces.specs.Walk.{ArePositive}
use Rattle.surf_surfaces.specs.Cycle.{IsShortestNonseparating}
use Rattle.surf_surfaces.specs.Places.{IsLeastLoopSystemInOrder, IsLeastBasisInOrder, IsShortestOf, IsShortestNotNull}
use Rattle.surf_surfaces.specs.Places.{IsShortestNotNullAt, MeasureShortest}
use Rattle.surf_validity.specs.Rows.{LoopCert, BasisCert}
use Rattle.surf_validity.specs.Valid.{IsValidLoops, certified_loops}
use Rattle.surf_validity.specs.Bases.{IsValidBasis}

-- The loops of a valid loop certificate are least place by place.
abbrev pub ValidLoopsAreLeastInOrder : Type 0
ValidLoopsAreLeastInOrder =
    (mesh : Mesh) (lengths : List ℕ) (cert : LoopCert) → IsSurface mesh → ArePositive mesh lengths →
    IsValidLoops mesh lengths cert → IsLeastLoopSystemInOrder mesh lengths cert.tree.base (certified_loops mesh cert)

-- A shortest of the loops of a valid certificate is a shortest closed walk at the base that is not
-- null.
abbrev pub ShortestOfValidLoops : Type 0
ShortestOfValidLoops =
    (mesh : Mesh) (lengths : List ℕ) (cert : LoopCert) (walk : List ℕ) → IsSurface mesh → ArePositive mesh lengths →
    IsValidLoops mesh lengths cert → IsShortestOf mesh lengths (certified_loops mesh cert) walk →
    IsShortestNotNullAt mesh lengths cert.tree.base walk

-- The cycles of a valid basis certificate are least place by place.
abbrev pub ValidBasesAreLeastInOrder : Type 0
ValidBasesAreLeastInOrder =
    (mesh : Mesh) (lengths : List ℕ) (cert : BasisCert) → IsSurface mesh → ArePositive mesh lengths →
    IsValidBasis mesh lengths cert → IsLeastBasisInOrder mesh lengths cert.cycles

-- A shortest of the cycles of a valid certificate is a shortest closed walk that is not null, and a
-- shortest nonseparating cycle.
abbrev pub ShortestOfValidBases : Type 0
ShortestOfValidBases =
    (mesh : Mesh) (lengths : List ℕ) (cert : BasisCert) (walk : List ℕ) → IsSurface mesh →
    ArePositive mesh lengths → IsValidBasis mesh lengths cert → IsShortestOf mesh lengths cert.cycles walk →
    IsShortestNotNull mesh lengths walk × IsShortestNonseparating mesh lengths walk

-- Where χ is below 2 there is a shortest among the cycles of a valid certificate.
abbrev pub ValidBasesHaveShortest : Type 0
ValidBasesHaveShortest =
    (mesh : Mesh) (lengths : List ℕ) (cert : BasisCert) → IsSurface mesh → ArePositive mesh lengths →
    IsValidBasis mesh lengths cert → mesh.vertices + face_count mesh < edge_count mesh + 2 →
    (walk : List ℕ) × IsShortestOf mesh lengths cert.cycles walk × IsShortestNonseparating mesh lengths walk

-- The least of the lengths of the cycles of a valid certificate is that of each shortest
-- nonseparating cycle.
abbrev pub ValidBasesMeasureShortest : Type 0
ValidBasesMeasureShortest =
    (mesh : Mesh) (lengths : List ℕ) (cert : BasisCert) → IsSurface mesh → ArePositive mesh lengths →
    IsValidBasis mesh lengths cert → MeasureShortest mesh lengths cert.cycles
