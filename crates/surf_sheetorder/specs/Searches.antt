-- A search from one vertex as a sheet, and the loops that it lists.
use Rattle.std.specs.Prelude.{◌≡◌, ℕ, ◌+◌, ◌*◌, ◌<◌, ◌≤◌, ◌⊎◌, Bool, true, false, ◌&&◌, bit_xor, IsTrue, List, Contains}
use Rattle.surf_z2.specs.Parity.{xor, odd_below}
use Rattle.surf_z2.specs.Space.{Chain}
use Rattle.surf_graphs.specs.Cells.{Split}
use Rattle.surf_graphs.specs.Trees.{Tree, on_path}
use Rattle.surf_surfaces.specs.Mesh.{Mesh}
use Rattle.surf_surfaces.specs.Surface.{edge_count}
use Rattle.surf_surfaces.specs.Walk.{edge_length}
use Rattle.surf_surfaces.specs.Class.{class_of}
use Rattle.surf_surfaces.specs.Loop.{loop_walk}
use Rattle.surf_surfaces.specs.Signature.{edge_signature}
use Rattle.surf_surfaces.specs.FewBases.{Place, is_no_later, least_on_way, place_at}
use Rattle.surf_sheetorder.specs.Off.{OffSheet, IsClear}

-- ---- classes

-- a test of classes that an odd number of two pass exactly where their sum does
pub record IsLinear (test : ℕ → Bool) : Type 0 where
  pub none : test 0 ≡ false
  pub sum : (x y : ℕ) → test (bit_xor x y) ≡ xor (test x) (test y)

-- the edges whose signatures pass a test
abbrev pub edges_passing : Mesh → Split → (ℕ → Bool) → Chain
edges_passing mesh d test e = test (edge_signature mesh d e)

-- ---- a search

-- Of two lists of lengths: they are the same at each edge that is clear.
abbrev pub AgreeWhereClear : Mesh → (ℕ → Bool) → List ℕ → List ℕ → Type 0
AgreeWhereClear mesh off lengths other = (e : ℕ) → e < edge_count mesh → IsClear mesh off e →
    edge_length other e ≡ edge_length lengths e

-- the search from z as a sheet with a margin for a range of numbers: its distances, the least vertices on the ways, and
-- for each number whether the path to a vertex has an odd number of the edges of its cocycle
abbrev pub sheet_of_search : Mesh → (ℕ → Chain) → (ℕ → Tree) → (ℕ → Bool) → ℕ → ℕ → ℕ → ℕ → OffSheet
sheet_of_search mesh cocycles trees off z from to margin = record {
  placed = record {
    sheet = record {
      from = from;
      to = to;
      margin = margin;
      distance = (trees z).rank;
      label = λ i v. odd_below (edge_count mesh) (λ e. on_path (trees z) v e && cocycles i e);
    };
    least = least_on_way mesh trees z;
  };
  off = off;
}

-- a loop at the base of a search is longer than a place says, by more than the way across the margin and back, or there
-- is no margin, and it comes no sooner than the place
abbrev pub IsLoopPast : ℕ → Place → Place → Type 0
IsLoopPast margin place found =
    (place.0 + 2 * margin < found.0) ⊎ ((margin ≡ 0) × IsTrue (is_no_later place found))

-- a loop by its place and its class
pub record ListedLoop : Type 0 where
  pub place : Place
  pub class : ℕ

-- Of the loops at z, by trees of shortest walks, each whose place is sought and whose class passes the test of a number
-- from `from` on that is below `to` has a listed one that passes it too, and comes no later.
abbrev pub AreListed : Mesh → Split → List ℕ → (ℕ → Tree) → ℕ → (ℕ → ℕ → Bool) → ℕ → ℕ → (Place → Bool) →
    List ListedLoop → Type 0
AreListed mesh d other trees z tests from to sought listed = (i e : ℕ) → from ≤ i → i < to → e < edge_count mesh →
    IsTrue (sought (place_at mesh other trees z e)) → tests i (class_of mesh d (loop_walk mesh (trees z) e)) ≡ true →
    (found : ListedLoop) × Contains listed found × (tests i found.class ≡ true)
    × IsTrue (is_no_later found.place (place_at mesh other trees z e))
