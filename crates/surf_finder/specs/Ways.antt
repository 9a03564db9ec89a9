-- The classes of the ways from the base of a search, by number.
use Rattle.std.specs.Prelude.{ℕ, ◌≡◌, ◌≢◌, ◌<◌, ◌==◌, IsTrue, bit_xor, List, length, slice_index, if◌then◌else◌}
use Rattle.surf_graphs.specs.Cells.{Split}
use Rattle.surf_graphs.specs.Trees.{Tree}
use Rattle.surf_surfaces.specs.Mesh.{Mesh}
use Rattle.surf_surfaces.specs.ShortestTree.{IsShortestTree}
use Rattle.surf_signatures.specs.Ways.{way_class}
use Rattle.surf_near.specs.Near.{NearTables, IsNear, is_near}
use Rattle.surf_finder.specs.Signing.{SignTables, AreSignatures}

-- for each vertex the number of a class, and the classes by number
pub record WayTables : Type 0 where
  pub numbers : List ℕ
  pub classes : List ℕ

-- the class that a vertex has by its number
abbrev pub class_at : WayTables → ℕ → ℕ
class_at w v = slice_index w.classes (slice_index w.numbers v)

-- a vertex has the class of its way, by every tree of shortest walks with least parents and by all trees that gave the
-- edges their signatures
pub record IsWayAt (mesh : Mesh) (lengths : List ℕ) (base : ℕ) (s : SignTables) (w : WayTables) (v : ℕ) : Type 0 where
  pub numbered : slice_index w.numbers v < length w.classes
  pub class : (d : Split) → AreSignatures mesh d s → (tree : Tree) → IsShortestTree mesh lengths base tree →
      class_at w v ≡ way_class mesh d tree v

-- so has each vertex that was reached
abbrev pub AreWays : Mesh → List ℕ → ℕ → SignTables → NearTables → WayTables → Type 0
AreWays mesh lengths base s t w = (v : ℕ) → v < mesh.vertices → IsTrue (is_near t v) → IsWayAt mesh lengths base s w v

-- a class for the way to one more vertex: none at the base, elsewhere that of the parent and the signature of the
-- edge to it
pub record IsNumbered (s : SignTables) (t : NearTables) (base v : ℕ) (old new : WayTables) : Type 0 where
  pub numbered : slice_index new.numbers v < length new.classes
  pub class : class_at new v ≡ (if v == base then 0
      else bit_xor (class_at old (slice_index t.parents v)) (slice_index s.signatures (slice_index t.ups v)))
  pub others : (u : ℕ) → u ≢ v → slice_index old.numbers u < length old.classes →
      (slice_index new.numbers u < length new.classes) × (class_at new u ≡ class_at old u)

-- class 0 is that of no edge
pub record HasNone (w : WayTables) : Type 0 where
  pub some : 0 < length w.classes
  pub none : slice_index w.classes 0 ≡ 0

-- the parent of a vertex beside the base has a class
pub record HasParent (s : SignTables) (t : NearTables) (w : WayTables) (v : ℕ) : Type 0 where
  pub parent : slice_index t.parents v < length w.numbers
  pub numbered : slice_index w.numbers (slice_index t.parents v) < length w.classes
  pub up : slice_index t.ups v < length s.signatures

-- the tables are those of a search from a base, however far it went
pub record IsReached (mesh : Mesh) (lengths : List ℕ) (base : ℕ) (t : NearTables) : Type 0 where
  pub far : ℕ
  pub near : IsNear mesh lengths base far t
